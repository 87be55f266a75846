-- The error budget of the angle. l and m are the smaller and the larger of |x| and |y| over one denominator, p / 2 ^ 24 is within 2 ^ -24 of l / m, and the
-- exact sine s / q and cosine c / r are within 8 units of 2 ^ -30 of the fixed-point ones. Of the 1024 units that 2 ^ -20 allows, 352 go to `is_level`, 64 to p
-- and 16 to the sine and the cosine. Assumes nothing.
use Rattle.std.proofs.Common.{ℕ, ◌+◌, ◌*◌, ◌<◌, ◌≤◌, mul-le-mul_right, mul-le-mul_left, mul-pos, arith, lit<}
use native.Mathlib.Nat.{le_of_mul-le-mul_left}
use Rattle.trig.specs.Degrees.{apart}
use Rattle.trig.specs.Fixed.{one}
use Rattle.trig.specs.Octant.{tangent_one, sine_step, cosine_step, off}
use Rattle.trig.proofs.Around.{Around}
use Rattle.trig.proofs.Quarter.{cosine_wide}
use Rattle.trig.proofs.Octants.{Level}

module _ (l m p n s q c r : ℕ) (P : p ≤ tangent_one) (over : p * m ≤ tangent_one * l + m) (under : tangent_one * l ≤ p * m + m) (level : Level p n)
    (S : Around one 8 (sine_step n) s q) (C : Around one 8 (cosine_step n) c r) (small : c ≤ r) where
  -- p * cos in units, over r
  run_under : p * (one * c) ≤ (sine_step n + 360) * tangent_one * r
  run_under =
      let a : p * (one * c) ≤ p * (cosine_step n * r + 8 * r) = mul-le-mul_left p C.under in
      let b : p * cosine_step n * r ≤ (sine_step n * tangent_one + off) * r = mul-le-mul_right r level.over in
      let d : p * (8 * r) ≤ tangent_one * (8 * r) = mul-le-mul_right (8 * r) P in
      omega arith

  run_over : sine_step n * tangent_one * r ≤ p * (one * c) + 360 * tangent_one * r
  run_over =
      let a : p * (cosine_step n * r) ≤ p * (one * c + 8 * r) = mul-le-mul_left p C.over in
      let b : sine_step n * tangent_one * r ≤ (p * cosine_step n + off) * r = mul-le-mul_right r level.under in
      let d : p * (8 * r) ≤ tangent_one * (8 * r) = mul-le-mul_right (8 * r) P in
      omega arith

  past : one * (l * c * q) ≤ one * (m * s * r) + 432 * (m * r * q)
  past =
      let a : tangent_one * l * (one * c * q) ≤ (p * m + m) * (one * c * q) = mul-le-mul_right (one * c * q) under in
      let b : p * (one * c) * (m * q) ≤ (sine_step n + 360) * tangent_one * r * (m * q) = mul-le-mul_right (m * q) run_under in
      let d : sine_step n * q * (m * r) ≤ (one * s + 8 * q) * (m * r) = mul-le-mul_right (m * r) S.over in
      let e : m * q * c ≤ m * q * r = mul-le-mul_left (m * q) small in
      le_of_mul-le-mul_left {k = tangent_one} (omega arith) (lit< tt)

  short : one * (m * s * r) ≤ one * (l * c * q) + 432 * (m * r * q)
  short =
      let a : p * m * (one * c * q) ≤ (tangent_one * l + m) * (one * c * q) = mul-le-mul_right (one * c * q) over in
      let b : sine_step n * tangent_one * r * (m * q) ≤ (p * (one * c) + 360 * tangent_one * r) * (m * q) = mul-le-mul_right (m * q) run_over in
      let d : one * s * (m * r) ≤ (sine_step n * q + 8 * q) * (m * r) = mul-le-mul_right (m * r) S.under in
      let e : m * q * c ≤ m * q * r = mul-le-mul_left (m * q) small in
      le_of_mul-le-mul_left {k = tangent_one} (omega arith) (lit< tt)

  -- |l * cos - m * sin| ≤ 2 ^ -20 * m, over q * r
  pub across : apart (l * (c * q)) (m * (s * r)) * 1048576 ≤ m * (q * r)
  across =
      let a = past in
      let b = short in
      omega arith

  wide : 742572851 ≤ cosine_step n
  unfolding cosine_step
  wide = cosine_wide (n * 1024) (omega (arith, level.small))

  -- m * cos > 0, over q * r
  pub along : 0 < m → 0 < q → 0 < r → 0 < m * (c * q)
  along M Q R =
      let h : 742572851 * r ≤ cosine_step n * r = mul-le-mul_right r wide in
      let c_pos : 0 < c = omega (arith, C.over) in
      mul-pos M (mul-pos c_pos Q)
