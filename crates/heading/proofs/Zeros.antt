-- A heading that is set never makes an orientation zero, nor a zero one anything else: its components are turned in two pairs, and of the turn's cosine
-- and sine one is above a half in size. Assumes nothing.
use mathlib.Core.Path.{◌≡◌, refl, sym, ap, subst, ◌∙◌}
use mathlib.Core.Logic.{◌⊎◌, inl, inr}
use mathlib.Core.Bool.{Bool, true, false, ◌||◌}
use lib.Dec.{T}
use lib.Ieee.{Float, binary32, fits, of_bits, neg, lt}
use lib.Ieee.Fits.{neg-fits, mul-fits}
use lib.Ieee.Scale.{finite}
use Rattle.number.specs.Float32.{◌⊕◌, ◌⊖◌, ◌⊗◌, zero, half}
use Rattle.number.specs.Same.{Same, fabsf_of}
use Rattle.number.proofs.Signs.{fabsf_neg}
use Rattle.number.proofs.Same.{same_refl, same_sym, same_trans, same_add, same_sub}
use Rattle.number.proofs.Zeros.{Zero, mul_zero}
use Rattle.number.proofs.Neutral.{plus_none, minus_none, same_zero}
use Rattle.number.proofs.Finite.{sub_finite, mul_finite}
use Rattle.trig.specs.Degrees.{in_turn}
use Rattle.trig.specs.Wave.{sin_of, cos_of}
use Rattle.trig.proofs.Finite.{cos_finite, sin_fits, cos_fits}
use Rattle.trig.proofs.Wide.{one_is_wide}
use Rattle.math.specs.declared.quaternion.Quaternion.{Quaternion}
use Rattle.math.specs.Quaternions.{quaternion, finite_quaternion, eq_of, product_of}
use Rattle.math.proofs.Shows.{components}
use Rattle.math.proofs.Zeros.{Zeros, zeros, zeros_of_eq, eq_of_zeros}
use Rattle.math.proofs.Length.{Fits}
use Rattle.heading.specs.Turn.{half_turn_of, headed_of}
use Rattle.heading.proofs.Pair.{Wide, Single, zeros_turned, only_zeros}

-- ---- a turn about the vertical

abbrev turned : Float → Float → Quaternion → Quaternion
turned c s q = product_of (quaternion c zero zero s) q

-- what it is made of
record Singles (c s : Float) (q : Quaternion) : Type 0 where
  cosine : Single c
  sine : Single s
  w : Single q.w
  x : Single q.x
  y : Single q.y
  z : Single q.z

-- its first component alone shows all of it finite
singles : (c s : Float) (q : Quaternion) → T (fits binary32 c) → T (fits binary32 s) → Fits q → finite (turned c s q).w ≡ true → Singles c s q
singles c s q tc ts (tw, tx, ty, tz) f =
    let three = sub_finite binary32 (c ⊗ q.w ⊖ zero ⊗ q.x ⊖ zero ⊗ q.y) (s ⊗ q.z) f in
    let two = sub_finite binary32 (c ⊗ q.w ⊖ zero ⊗ q.x) (zero ⊗ q.y) three.0 in
    let one = sub_finite binary32 (c ⊗ q.w) (zero ⊗ q.x) two.0 in
    let (fc, fw) = mul_finite binary32 c q.w one.0 in
    let (fs, fz) = mul_finite binary32 s q.z three.1 in
    let (_, fx) = mul_finite binary32 zero q.x one.1 in
    let (_, fy) = mul_finite binary32 zero q.y two.1 in
    record { cosine = (tc, fc); sine = (ts, fs); w = (tw, fw); x = (tx, fx); y = (ty, fy); z = (tz, fz) }

-- ---- its products by zero change nothing but the sign of a zero

nil : (x : Float) → Single x → Zero (zero ⊗ x)
unfolding of_bits
nil x (_, f) = mul_zero binary32 zero x refl f

module _ {a p : Float} (h : Same a p) (t : T (fits binary32 p)) (x : Float) (s : Single x) where
  plus : Same (a ⊕ zero ⊗ x) p
  plus = same_trans (same_add binary32 h (same_refl (zero ⊗ x))) (plus_none binary32 p (zero ⊗ x) t (mul-fits binary32 zero x) (nil x s))

  minus : Same (a ⊖ zero ⊗ x) p
  minus = same_trans (same_sub binary32 h (same_refl (zero ⊗ x))) (minus_none binary32 p (zero ⊗ x) t (mul-fits binary32 zero x) (nil x s))

-- so the components are turned in two pairs
record Paired (c s : Float) (q : Quaternion) : Type 0 where
  w : Same (turned c s q).w (c ⊗ q.w ⊖ s ⊗ q.z)
  x : Same (turned c s q).x (c ⊗ q.x ⊖ s ⊗ q.y)
  y : Same (turned c s q).y (c ⊗ q.y ⊕ s ⊗ q.x)
  z : Same (turned c s q).z (c ⊗ q.z ⊕ s ⊗ q.w)

paired : (c s : Float) (q : Quaternion) → Singles c s q → Paired c s q
paired c s q h =
    let first : (v : Float) → Same (c ⊗ v) (c ⊗ v) = λ v. same_refl (c ⊗ v) in
    let t : (v : Float) → T (fits binary32 (c ⊗ v)) = mul-fits binary32 c in
    record {
      w = same_sub binary32 (minus (minus (first q.w) (t q.w) q.x h.x) (t q.w) q.y h.y) (same_refl (s ⊗ q.z));
      x = same_sub binary32 (plus (plus (first q.x) (t q.x) q.w h.w) (t q.x) q.z h.z) (same_refl (s ⊗ q.y));
      y = same_add binary32 (plus (minus (first q.y) (t q.y) q.z h.z) (t q.y) q.w h.w) (same_refl (s ⊗ q.x));
      z = same_add binary32 (minus (plus (first q.z) (t q.z) q.y h.y) (t q.z) q.x h.x) (same_refl (s ⊗ q.w));
    }

-- ---- zeros

module _ (c s : Float) (q : Quaternion) (h : Singles c s q) where
  zeros_kept : Zeros q → Zeros (turned c s q)
  zeros_kept (w, x, y, z) =
      let p = paired c s q h in
      let (tw, tz) = zeros_turned c s q.w q.z h.cosine h.sine w z in
      let (tx, ty) = zeros_turned c s q.x q.y h.cosine h.sine x y in
      (same_zero (same_sym p.w) tw, same_zero (same_sym p.x) tx, same_zero (same_sym p.y) ty, same_zero (same_sym p.z) tz)

  only_of_zeros : Wide c ⊎ Wide s → Zeros (turned c s q) → Zeros q
  only_of_zeros wide (tw, tx, ty, tz) =
      let p = paired c s q h in
      let pair = only_zeros c s in
      let (w, z) = pair q.w q.z h.cosine h.sine h.w h.z (same_zero p.w tw) (same_zero p.z tz) wide in
      let (x, y) = pair q.x q.y h.cosine h.sine h.x h.y (same_zero p.x tx) (same_zero p.y ty) wide in
      (w, x, y, z)

-- ---- the heading's turn

wide_half : (x : Float) → T (in_turn x) → Wide (cos_of x) ⊎ Wide (neg (sin_of x))
wide_half x t = go (lt half (fabsf_of (cos_of x))) refl (one_is_wide x t)
  where
    go : (b : Bool) → lt half (fabsf_of (cos_of x)) ≡ b → (b || lt half (fabsf_of (sin_of x))) ≡ true → Wide (cos_of x) ⊎ Wide (neg (sin_of x))
    go true e h = inl e
    go false e h = inr (ap (lt half) (fabsf_neg (sin_of x)) ∙ h)

alike : (a b : Bool) → (a ≡ true → b ≡ true) → (b ≡ true → a ≡ true) → a ≡ b
alike true b f g = sym (f refl)
alike false true f g = g refl
alike false false f g = refl

pub headed_zero
    : (q : Quaternion) (heading : Float) → Fits q → finite_quaternion (headed_of q heading) ≡ true
    → eq_of (headed_of q heading) zeros ≡ eq_of q zeros
unfolding headed_of
headed_zero q heading t f =
    let turn = half_turn_of q heading in
    let c = cos_of turn in
    let s = neg (sin_of turn) in
    let (fw, _, _, _) = components (headed_of q heading) f in
    let h = singles c s q (cos_fits turn) (neg-fits binary32 (sin_of turn) (sin_fits turn)) t fw in
    let wide = wide_half turn (subst T (sym (sym (cos_finite turn) ∙ h.cosine.1)) tt) in
    alike (eq_of (headed_of q heading) zeros) (eq_of q zeros)
    (λ e. eq_of_zeros q (only_of_zeros c s q h wide (zeros_of_eq (headed_of q heading) e)))
    (λ e. eq_of_zeros (headed_of q heading) (zeros_kept c s q h (zeros_of_eq q e)))
