-- A quaternion that is normalized, whatever it was, has a norm squared from 0.25 to 4, where its own was finite and the result is. Assumes nothing.
use mathlib.Core.Path.{◌≡◌, refl}
use mathlib.Core.Bool.{Bool, true, false, ◌&&◌}
use Prim.Native.Nat.{ℕ, ◌*◌, ◌^◌, ◌≤◌}
use native.Mathlib.Omega.{arith}
use lib.Dec.{T, lit≤, lit<}
use lib.Pow.{pow_pos}
use lib.Ieee.{Float, binary32, unlike, fits, of_bits, le}
use lib.Ieee.Bits.{is_true}
use lib.Ieee.Fits.{and_i}
use lib.Ieee.Order.{le_of_values}
use lib.Ieee.Scale.{finite}
use Rattle.number.specs.Float32.{◌⊗◌, ◌⊘◌, one, quarter, four}
use Rattle.number.proofs.Finite.{mul_finite}
use Rattle.number.proofs.Units.{Units, in_units, times, mul_units, mul_bounded, times_near}
use Rattle.math.specs.declared.quaternion.Quaternion.{Quaternion}
use Rattle.math.specs.Quaternions.{finite_quaternion, norm_squared_of, norm_of, normalize_of, mul_of}
use Rattle.math.proofs.Shows.{Components, components}
use Rattle.math.proofs.Bounds.{near}
use Rattle.math.proofs.Scaling.{normal}
use Rattle.math.proofs.Norm.{Sized, InUnits, Range, range, range_bounded, norm_of_lem, norm_units}
use Rattle.math.proofs.Reciprocal.{OverNorm, over_norm}

-- ---- the statement

abbrev pub within : Quaternion → Bool
within q = le quarter (norm_squared_of q) && le (norm_squared_of q) four

-- every component fits
abbrev pub Fits : Quaternion → Type 0
Fits q = T (fits binary32 q.w) × T (fits binary32 q.x) × T (fits binary32 q.y) × T (fits binary32 q.z)

-- ---- a norm squared of n units against the two ends

from_quarter : (x : Float) (n : ℕ) → Units x false n → 2 ^ 149 ≤ 4 * n → T (le quarter x)
unfolding of_bits
from_quarter x n v h = le_of_values quarter x 1 4 n (2 ^ 149) (lit< tt) (pow_pos 149) (refl, refl) v.value (turned (2 ^ 149) h)
  where
    turned : (u : ℕ) → u ≤ 4 * n → 1 * u ≤ n * 4
    turned u h = omega arith

to_four : (x : Float) (n : ℕ) → Units x false n → n ≤ 4 * 2 ^ 149 → T (le x four)
unfolding of_bits
to_four x n v h = le_of_values x four n (2 ^ 149) 4 1 (pow_pos 149) (lit< tt) v.value (refl, refl) (turned (2 ^ 149) h)
  where
    turned : (u : ℕ) → n ≤ 4 * u → n * 1 ≤ 4 * u
    turned u h = omega arith

in_range : (q : Quaternion) (a b c d : ℕ) → InUnits q a b c d → Range a b c d → within q ≡ true
in_range q a b c d h e =
    let x = norm_squared_of q in
    let n = norm_of_lem a b c d in
    let v = norm_units q a b c d h (range_bounded e) in
    is_true (within q) (and_i (le quarter x) (le x four) (from_quarter x n v e.quarter) (to_four x n v e.four))

-- ---- times the reciprocal of the norm

scale : (x k : Float) (a i : ℕ) → Sized x a → Units k false i → finite (x ⊗ k) ≡ true → Sized (x ⊗ k) (times a i)
scale x k a i (s, h) g f = (unlike s false, mul_units x k h g (mul_bounded x k h g f))

scaled_within : (p : Quaternion) (k : Float) (a b c d : ℕ) → InUnits p a b c d → OverNorm k a b c d → Components (mul_of p k) → within (mul_of p k) ≡ true
scaled_within p k a b c d u r (fw, fx, fy, fz) =
    let i = r.i in
    let v = r.value in
    let e = times a i in
    let f = times b i in
    let g = times c i in
    let h = times d i in
    in_range (mul_of p k) e f g h
    (record { w = scale p.w k a i u.w v fw; x = scale p.x k b i u.x v fx; y = scale p.y k c i u.y v fy; z = scale p.z k d i u.z v fz })
    (range e f g h
    (normal (2 ^ 149) (lit≤ tt) a b c d e f g h i r.reciprocal
    (near (times_near a i)) (near (times_near b i)) (near (times_near c i)) (near (times_near d i))
    (times e e) (times f f) (times g g) (times h h)
    (near (times_near e e)) (near (times_near f f)) (near (times_near g g)) (near (times_near h h))))

-- ---- the theorem

pub sized : (x : Float) → T (fits binary32 x) → finite x ≡ true → (a : ℕ) × Sized x a
sized x t f = let (s, a, h) = in_units x t f in (a, (s, h))

pub length_kept : (p : Quaternion) → Fits p → finite_quaternion (normalize_of p) ≡ true → finite (norm_squared_of p) ≡ true → within (normalize_of p) ≡ true
unfolding normalize_of
length_kept p (tw, tx, ty, tz) h f =
    let k = one ⊘ norm_of p in
    let all = components (mul_of p k) h in
    let (fw, fx, fy, fz) = all in
    let (ow, fk) = mul_finite binary32 p.w k fw in
    let (a, w) = sized p.w tw ow in
    let (b, x) = sized p.x tx (mul_finite binary32 p.x k fx).0 in
    let (c, y) = sized p.y ty (mul_finite binary32 p.y k fy).0 in
    let (d, z) = sized p.z tz (mul_finite binary32 p.z k fz).0 in
    let u : InUnits p a b c d = record { w = w; x = x; y = y; z = z } in
    scaled_within p k a b c d u (over_norm p a b c d u f fk) all
