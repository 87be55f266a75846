-- A quaternion whose components are at most n in size is finite, and a product of two such is one. Where the norm squared is from 0.25 to 4, or all is
-- zero, they are at most 4. Assumes nothing.
use mathlib.Core.Path.{◌≡◌, refl, sym, ap₂, subst}
use mathlib.Core.Bool.{true, false, ◌&&◌}
use Prim.Native.Nat.{ℕ, ◌+◌, ◌*◌, ◌^◌, ◌≤◌, ◌<◌}
use native.Mathlib.Decide.{dec_lt}
use native.Mathlib.Nat.{mul-le-mul, mul-le-mul_right}
use native.Mathlib.Omega.{arith}
use lib.Dec.{T, leb→le, le→leb}
use lib.Pow.{pow_pos}
use lib.Ieee.{Float, binary32, of_bits, le}
use lib.Ieee.Bits.{is_true}
use lib.Ieee.Fits.{and_l, and_r}
use lib.Ieee.Positive.{positive, positive-finite, value_pos, values_of_le, between}
use lib.Ieee.Scale.{finite}
use Rattle.number.specs.Float32.{◌⊕◌, ◌⊗◌, quarter, four}
use Rattle.number.proofs.AtMost.{AtMost, most_finite, more_most, zero_most, units_most, small, sum_most, difference_most, product_most}
use Rattle.number.proofs.Finite.{add_finite, mul_finite}
use Rattle.number.proofs.Units.{Units}
use Rattle.math.specs.declared.quaternion.Quaternion.{Quaternion}
use Rattle.math.specs.Quaternions.{finite_quaternion, eq_of, product_of, norm_squared_of}
use Rattle.math.proofs.Shows.{Components}
use Rattle.math.proofs.Zeros.{zeros, zeros_of_eq}
use Rattle.math.proofs.Bounds.{Squares}
use Rattle.math.proofs.Norm.{InUnits, norm_of_lem, norm_units, bounded, sum_squares}
use Rattle.math.proofs.Length.{within, Fits, sized}

pub record Small (n : ℕ) (q : Quaternion) : Type 0 where
  pub w : AtMost n q.w
  pub x : AtMost n q.x
  pub y : AtMost n q.y
  pub z : AtMost n q.z

pub more_small : {n k : ℕ} {q : Quaternion} → n ≤ k → Small n q → Small k q
more_small l h = record { w = more_most l h.w; x = more_most l h.x; y = more_most l h.y; z = more_most l h.z }

pub zeros_small : (n : ℕ) (q : Quaternion) → eq_of q zeros ≡ true → Small n q
zeros_small n q h =
    let (w, x, y, z) = zeros_of_eq q h in
    record { w = zero_most w; x = zero_most x; y = zero_most y; z = zero_most z }

pub small_finite : {n : ℕ} {q : Quaternion} → Small n q → finite_quaternion q ≡ true
unfolding finite_quaternion
small_finite h = ap₂ ◌&&◌ (ap₂ ◌&&◌ (ap₂ ◌&&◌ (most_finite h.w) (most_finite h.x)) (most_finite h.y)) (most_finite h.z)

-- ---- Hamilton's product

module _ {n k : ℕ} {p q : Quaternion} (a : Small n p) (b : Small k q) (t : T (small (n * k + n * k + n * k + n * k))) where
  room : (i : ℕ) → i ≤ n * k + n * k + n * k + n * k → T (small i)
  room i l = le→leb i 16777216 (omega (arith, leb→le (n * k + n * k + n * k + n * k) 16777216 t))

  two : T (small (n * k + n * k))
  two = room (n * k + n * k) (omega arith)

  three : T (small (n * k + n * k + n * k))
  three = room (n * k + n * k + n * k) (omega arith)

  by : {x y : Float} → AtMost n x → AtMost k y → AtMost (n * k) (x ⊗ y)
  by h g = product_most h g (room (n * k) (omega arith))

  pub product_small : Small (n * k + n * k + n * k + n * k) (product_of p q)
  product_small =
      record {
        w = difference_most (difference_most (difference_most (by a.w b.w) (by a.x b.x) two) (by a.y b.y) three) (by a.z b.z) t;
        x = difference_most (sum_most (sum_most (by a.w b.x) (by a.x b.w) two) (by a.y b.z) three) (by a.z b.y) t;
        y = sum_most (sum_most (difference_most (by a.w b.y) (by a.x b.z) two) (by a.y b.w) three) (by a.z b.x) t;
        z = sum_most (difference_most (sum_most (by a.w b.z) (by a.x b.y) two) (by a.y b.x) three) (by a.z b.w) t;
      }

-- ---- a norm squared that is finite

norm_components : (q : Quaternion) → finite (norm_squared_of q) ≡ true → Components q
unfolding norm_squared_of
norm_components q f =
    let two = q.w ⊗ q.w ⊕ q.x ⊗ q.x in
    let (f3, fz) = add_finite binary32 (two ⊕ q.y ⊗ q.y) (q.z ⊗ q.z) f in
    let (f2, fy) = add_finite binary32 two (q.y ⊗ q.y) f3 in
    let (fw, fx) = add_finite binary32 (q.w ⊗ q.w) (q.x ⊗ q.x) f2 in
    let each : (x : Float) → finite (x ⊗ x) ≡ true → finite x ≡ true = λ x h. (mul_finite binary32 x x h).0 in
    (each q.w fw, each q.x fx, each q.y fy, each q.z fz)

-- ---- in units, u for the number 1

-- a square of at most 16 is of at most 4
root : (u a : ℕ) → a * a ≤ 16 * (u * u) → a ≤ 4 * u
root u a h = go (dec_lt (4 * u) a)
  where
    go : Dec (4 * u < a) → a ≤ 4 * u
    go (yes g) = absurd (omega (arith, mul-le-mul g g))
    go (no g) = omega arith

-- e for the sum of the squares and n for the norm squared
at_most_four : (u e n : ℕ) → Squares u e n → n ≤ 4 * u → (a : ℕ) → a * a ≤ e → a ≤ 4 * u
at_most_four u e n s l a h = root u a (omega (arith, s.over, mul-le-mul_right u l))

module _ (q : Quaternion) (h : within q ≡ true) where
  tested : T (within q)
  tested = subst T (sym h) tt

  above : T (positive (norm_squared_of q))
  unfolding of_bits
  above =
      between quarter (norm_squared_of q) four tt tt
      (and_l (le quarter (norm_squared_of q)) (le (norm_squared_of q) four) tested) (and_r (le quarter (norm_squared_of q)) (le (norm_squared_of q) four) tested)

  norm_finite : finite (norm_squared_of q) ≡ true
  norm_finite = is_true (finite (norm_squared_of q)) (positive-finite (norm_squared_of q) above)

  under : (n : ℕ) → Units (norm_squared_of q) false n → n ≤ 4 * 2 ^ 149
  unfolding of_bits
  under n v =
      turned (2 ^ 149)
      (values_of_le (norm_squared_of q) four n (2 ^ 149) 4 1 above tt v.value (refl, refl)
      (and_r (le quarter (norm_squared_of q)) (le (norm_squared_of q) four) tested))
    where
      turned : (u : ℕ) → n * 1 ≤ 4 * u → n ≤ 4 * u
      turned u h = omega arith

  sized_small : (a b c d : ℕ) → InUnits q a b c d → Small 4 q
  sized_small a b c d k =
      let n = norm_of_lem a b c d in
      let v = norm_units q a b c d k (bounded q a b c d k norm_finite) in
      let s = sum_squares a b c d (value_pos (norm_squared_of q) n (2 ^ 149) above (pow_pos 149) v.value) in
      let each = at_most_four (2 ^ 149) (a * a + b * b + c * c + d * d) n s (under n v) in
      record {
        w = units_most k.w.1 (each a (omega arith));
        x = units_most k.x.1 (each b (omega arith));
        y = units_most k.y.1 (each c (omega arith));
        z = units_most k.z.1 (each d (omega arith));
      }

  pub within_small : Fits q → Small 4 q
  within_small (tw, tx, ty, tz) =
      let (fw, fx, fy, fz) = norm_components q norm_finite in
      let (a, w) = sized q.w tw fw in
      let (b, x) = sized q.x tx fx in
      let (c, y) = sized q.y ty fy in
      let (d, z) = sized q.z tz fz in
      sized_small a b c d (record { w = w; x = x; y = y; z = z })
