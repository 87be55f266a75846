-- What an accepted update makes of the orientation: zeros exactly where it overflows, and otherwise one that may be set. Assumes nothing.
use mathlib.Core.Path.{◌≡◌, refl, subst, sym}
use mathlib.Core.Bool.{true, false}
use lib.Ieee.{Float, binary32}
use lib.Ieee.Fits.{add-fits, sub-fits, mul-fits}
use Rattle.vector.specs.declared.Vector.{Vector}
use Rattle.math.specs.declared.quaternion.Quaternion.{Quaternion}
use Rattle.math.specs.Quaternions.{finite_quaternion, add_of, normalize_of}
use Rattle.math.proofs.Length.{Fits}
use Rattle.math.proofs.Normal.{Normal, normal}
use Rattle.step.specs.Rate.{integrated_of}
use Rattle.ahrs.specs.declared.Ahrs.{Ahrs}
use Rattle.ahrs.specs.Filter.{finite_state, updated_of}
use Rattle.ahrs.specs.Calls.{settable}
use Rattle.ahrs.proofs.Finite.{parts}
use Rattle.heading.specs.Turn.{headed_of}
use Rattle.reached.specs.Orientation.{all_zero, turned_of, Normalized, overflows, Single}

pub normalized : Normalized
unfolding updated_of turned_of integrated_of
normalized s g a m = refl

sum_fits : (p q : Quaternion) → Fits (add_of p q)
sum_fits p q = (
  add-fits binary32 p.w q.w,
  add-fits binary32 p.x q.x,
  add-fits binary32 p.y q.y,
  add-fits binary32 p.z q.z,
)

module _ (s : Ahrs) (g a m : Vector) (h : finite_state (updated_of s g a m) ≡ true) where
  turned_fits : Fits (turned_of s g a m)
  unfolding turned_of
  turned_fits = sum_fits _ _

  turned_normal : Normal (turned_of s g a m)
  turned_normal =
      normal (turned_of s g a m) turned_fits
      (subst (λ (q : Quaternion). finite_quaternion q ≡ true) (normalized s g a m) (parts (updated_of s g a m) h).quaternion)

  pub updated_zero : all_zero (updated_of s g a m).quaternion ≡ overflows s g a m
  updated_zero = subst (λ (q : Quaternion). all_zero q ≡ overflows s g a m) (sym (normalized s g a m)) turned_normal.zero_exactly

  pub updated_settable : overflows s g a m ≡ false → settable (updated_of s g a m).quaternion ≡ true
  unfolding settable
  updated_settable e = subst (λ (q : Quaternion). settable q ≡ true) (sym (normalized s g a m)) (turned_normal.length e)

-- ---- its numbers are of f32

pub updated_single : (s : Ahrs) (g a m : Vector) → Single (updated_of s g a m).quaternion
unfolding normalize_of
updated_single s g a m = subst Single (sym (normalized s g a m)) (
  mul-fits binary32 (turned_of s g a m).w _,
  mul-fits binary32 (turned_of s g a m).x _,
  mul-fits binary32 (turned_of s g a m).y _,
  mul-fits binary32 (turned_of s g a m).z _,
)

pub headed_single : (q : Quaternion) (h : Float) → Single (headed_of q h)
unfolding headed_of
headed_single q h = (sub-fits binary32 _ _, sub-fits binary32 _ _, add-fits binary32 _ _, add-fits binary32 _ _)
