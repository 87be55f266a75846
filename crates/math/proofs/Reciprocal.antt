-- The reciprocal of the norm in units of the smallest f32. It is finite only where the norm squared is a number above zero. Assumes nothing.
use mathlib.Core.Path.{◌≡◌, refl}
use mathlib.Core.Bool.{true, false, true≢false, false≢true}
use Prim.Native.Nat.{ℕ, zero, suc, ◌+◌, ◌*◌, ◌^◌, ◌≤◌, ◌<◌}
use native.Mathlib.Nat.{zero-lt-suc, le_trans, mul-le-mul_left}
use native.Mathlib.Omega.{arith}
use lib.Dec.{T, lt→ltb, lit≤}
use lib.Pow.{pow_pos}
use lib.Ieee.{Float, nan, inf, fin, binary32, fits, of_bits, div}
use lib.Ieee.Exact.{HasValue}
use lib.Ieee.Fits.{add-fits}
use lib.Ieee.Positive.{value_pos}
use lib.Ieee.Scale.{finite}
use Rattle.number.specs.Float32.{◌⊕◌, ◌⊗◌, ◌⊘◌, one}
use Rattle.number.proofs.Units.{Units, inverse, div_units, inverse_near}
use Rattle.root.specs.Root.{sqrt_of}
use Rattle.root.proofs.Rooted.{Rooted, rooted}
use Rattle.math.specs.declared.quaternion.Quaternion.{Quaternion}
use Rattle.math.specs.Quaternions.{norm_squared_of, norm_of}
use Rattle.math.proofs.Bounds.{near}
use Rattle.math.proofs.Scaling.{Reciprocal}
use Rattle.math.proofs.Norm.{InUnits, norm_of_lem, norm_units, bounded, sum_squares}

one_is : HasValue one false 1 1
unfolding of_bits
one_is = (refl, refl)

-- k is 1 / m, m the root of n
record Over (n : ℕ) (k : Float) : Type 0 where
  m : ℕ
  above_zero : 0 < n
  root : Rooted n m
  value : Units k false (inverse m)

over_root : (x : Float) (n : ℕ) → T (fits binary32 x) → Units x false n → finite (one ⊘ sqrt_of x) ≡ true → Over n (one ⊘ sqrt_of x)
unfolding sqrt_of div of_bits
over_root nan n t h f = absurd h.value
over_root (inf s) n t h f = absurd h.value
over_root (fin true m e) n t h f = absurd (true≢false h.value.0)
over_root (fin false zero e) n t h f = absurd (false≢true f)
over_root (fin false (suc m) e) n t h f =
    let x = fin false (suc m) e in
    let (r, v, R) = rooted m e n t h.value in
    record {
      m = r;
      above_zero = value_pos x n (2 ^ 149) (lt→ltb 0 (suc m) (zero-lt-suc m)) (pow_pos 149) h.value;
      root = R;
      value = div_units one (sqrt_of x) R.over_zero one_is (record { value = v }) f;
    }

near_root : (a b c d m : ℕ) → 0 < norm_of_lem a b c d → Rooted (norm_of_lem a b c d) m → Reciprocal (2 ^ 149) (a * a + b * b + c * c + d * d) (inverse m)
near_root a b c d m N R =
    record {
      n = norm_of_lem a b c d;
      m = m;
      sum = sum_squares a b c d N;
      root_over = less (m * m) (norm_of_lem a b c d * 2 ^ 149) R.over;
      root_under = more (norm_of_lem a b c d * 2 ^ 149) (m * m) R.under;
      small = le_trans (mul-le-mul_left 128 R.small) (lit≤ tt);
      reciprocal = near (inverse_near m R.over_zero);
    }
  where
    less : (x y : ℕ) → 8388607 * x ≤ 8388608 * y → 255 * x ≤ 256 * y
    less x y h = omega arith

    more : (x y : ℕ) → 8388608 * x ≤ 8388609 * y → 256 * x ≤ 257 * y
    more x y h = omega arith

norm_fits : (p : Quaternion) → T (fits binary32 (norm_squared_of p))
unfolding norm_squared_of
norm_fits p = add-fits binary32 (p.w ⊗ p.w ⊕ p.x ⊗ p.x ⊕ p.y ⊗ p.y) (p.z ⊗ p.z)

-- k is i units, the reciprocal of the norm of a b c d
pub record OverNorm (k : Float) (a b c d : ℕ) : Type 0 where
  pub i : ℕ
  pub value : Units k false i
  pub reciprocal : Reciprocal (2 ^ 149) (a * a + b * b + c * c + d * d) i

pub over_norm : (p : Quaternion) (a b c d : ℕ) → InUnits p a b c d → finite (norm_squared_of p) ≡ true → finite (one ⊘ norm_of p) ≡ true
    → OverNorm (one ⊘ norm_of p) a b c d
unfolding norm_of
over_norm p a b c d u f g =
    let r = over_root (norm_squared_of p) (norm_of_lem a b c d) (norm_fits p) (norm_units p a b c d u (bounded p a b c d u f)) g in
    record { i = inverse r.m; value = r.value; reciprocal = near_root a b c d r.m r.above_zero r.root }
