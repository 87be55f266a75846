-- The square of a root lies within 2 ^ -23 of the number, and the root is at most 2 ^ 64. Assumes nothing.
use mathlib.Core.Path.{◌≡◌, sym, ◌∙◌, subst}
use mathlib.Core.Bool.{false}
use Prim.Native.Nat.{ℕ, suc, ◌+◌, ◌-◌, ◌*◌, ◌^◌, ◌≤◌, ◌<◌}
use native.Mathlib.Nat.{zero-lt-suc, lt_of_lt_of_le, le_trans, mul-pos, mul-le-mul, mul-le-mul_right}
use native.Mathlib.Omega.{arith}
use lib.IntN.{ℤ}
use lib.Dec.{T, lt→ltb, lit≤}
use lib.Pow.{pow_pos, pow_mono}
use lib.Ieee.{fin, binary32, fits, to_bits}
use lib.Ieee.Exact.{HasValue}
use Rattle.root.specs.Root.{squared_of, root_bits_of, sqrt_of}
use Rattle.root.proofs.Whole.{Near, less_one}
use Rattle.root.proofs.Scaled.{Finite, root_bits_range}
use Rattle.root.proofs.Patterns.{size_at, read, size_of_value, bits_lt, bits_pos}
use Rattle.root.proofs.Midpoints.{k, q, k_small, squared_is, q_near, q_range, at}
use Rattle.root.proofs.Neighbours.{own_size}

-- in units of 2 ^ -149: n for the root of a, which is a * 2 ^ 149 squared units
pub record Rooted (a n : ℕ) : Type 0 where
  pub over : 8388607 * (n * n) ≤ 8388608 * (a * 2 ^ 149)
  pub under : 8388608 * (a * 2 ^ 149) ≤ 8388609 * (n * n)
  pub over_zero : 0 < n
  pub small : n ≤ 2 ^ 213

-- a root s of 24 digits at least, moved by P
near_square : (n s P : ℕ) → 8388608 ≤ s → Near n s
    → (8388607 * (s * P * (s * P)) ≤ 8388608 * (n * (P * P))) × (8388608 * (n * (P * P)) ≤ 8388609 * (s * P * (s * P)))
near_square n s P l h =
    let m : 8388608 * s ≤ s * s = mul-le-mul_right s l in
    let e = less_one s in
    let a : 8388607 * (s * s) * (P * P) ≤ 8388608 * n * (P * P) = mul-le-mul_right (P * P) (lower e h.0 m) in
    let b : 8388608 * n * (P * P) ≤ 8388609 * (s * s) * (P * P) = mul-le-mul_right (P * P) (upper h.1 m) in
    (omega (arith, a), omega (arith, b))
  where
    lower : s * (s - 1) + s ≡ s * s → s * (s - 1) < n → 8388608 * s ≤ s * s → 8388607 * (s * s) ≤ 8388608 * n
    lower e h m = go (s * (s - 1)) e h
      where
        go : (t : ℕ) → t + s ≡ s * s → t < n → 8388607 * (s * s) ≤ 8388608 * n
        go t e h = omega arith

    upper : n ≤ s * (s + 1) → 8388608 * s ≤ s * s → 8388608 * n ≤ 8388609 * (s * s)
    upper h m = omega arith

by_bits : (b : ℕ) → Finite b → Rooted (size_at b) (size_at (root_bits_of b))
by_bits b f =
    let h = near_square (squared_of b) (q b f) (2 ^ k b f) (q_range b f).0 (q_near b f) in
    record {
      over = rw (squared_is b f, at b f) h.0;
      under = rw (squared_is b f, at b f) h.1;
      over_zero = rw (at b f) (mul-pos (lt_of_lt_of_le (zero-lt-suc 8388607) (q_range b f).0) (pow_pos (k b f)));
      small = rw (at b f) (le_trans (mul-le-mul {n₂ = 2 ^ 24} (omega (arith, (q_range b f).1)) (pow_mono (k_small b f))) (lit≤ tt));
    }

pub rooted : (m : ℕ) (e : ℤ) (a : ℕ) → T (fits binary32 (fin false (suc m) e)) → HasValue (fin false (suc m) e) false a (2 ^ 149)
    → (n : ℕ) × HasValue (sqrt_of (fin false (suc m) e)) false n (2 ^ 149) × Rooted a n
unfolding sqrt_of
rooted m e a t v =
    let x = fin false (suc m) e in
    let b = to_bits binary32 x in
    let f : Finite b = (bits_pos m e t, bits_lt m e t) in
    let same : size_at b ≡ a = sym (own_size x t (lt→ltb 0 (suc m) (zero-lt-suc m))) ∙ size_of_value x a v in
    let r = root_bits_range b f in
    (size_at (root_bits_of b), read (root_bits_of b) (omega (arith, r.1)), subst (λ (z : ℕ). Rooted z (size_at (root_bits_of b))) same (by_bits b f))
