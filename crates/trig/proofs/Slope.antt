-- Below a degree the slope at t times the angle is the sine of t, in fixed point. Here l / b is the angle in degrees, at most 1, e its steps on the grid,
-- t its radians, s the share of t, v its sine and c what a degree adds, all cut. Assumes nothing.
use Rattle.std.proofs.Common.{ℕ, ◌+◌, ◌*◌, ◌^◌, ◌<◌, ◌≤◌, le_trans, le_of_lt, mul-le-mul_right, mul-le-mul, mul-le-mul_left, mul-pos, div-mul-le_self}
use Rattle.std.proofs.Common.{le_of_mul-le-mul_right, arith, lit<, lit≤}
use native.Mathlib.Nat.{lt-div-mul-add}
use Rattle.trig.specs.Fixed.{one, slope, scaled_of, share_of, sine_fixed_of, per_degree_of}
use Rattle.trig.specs.Wave.{degree, pi_over180, two_to33, radians_of}
use Rattle.trig.proofs.Quarter.{stage_small}
use Rattle.trig.proofs.Rounding.{Before}

radians_most : (t e l b : ℕ) → t * two_to33 ≤ e * pi_over180 → e * b ≤ l * degree + b → t * b ≤ l * (2 * slope + 1) + b
radians_most t e l b h i = le_of_mul-le-mul_right {k = two_to33} (omega (arith, mul-le-mul_right b h, mul-le-mul_right pi_over180 i)) (lit< tt)

radians_least : (t e l b : ℕ) → e * pi_over180 ≤ t * two_to33 + two_to33 → l * degree ≤ e * b + b → l * (2 * slope) ≤ t * b + 2 * b
radians_least t e l b h i = le_of_mul-le-mul_right {k = two_to33} (omega (arith, mul-le-mul_right b h, mul-le-mul_right pi_over180 i)) (lit< tt)

module _ (t s v c l b : ℕ) (S : s ≤ one) (h : l ≤ b) where
  sine_most : v * one ≤ t * s → s * (2 * slope) ≤ 2 * c * one + one → t * b ≤ l * (2 * slope + 1) + b → v * b ≤ 2 * (l * c) + 3 * b
  sine_most p q r =
      let i = mul-le-mul_right b p in
      let j = mul-le-mul_left s r in
      let k = mul-le-mul_left l q in
      let m = mul-le-mul_left l S in
      let n = mul-le-mul_left b S in
      le_of_mul-le-mul_right {k = one} (omega arith) (lit< tt)

  sine_least : t * s ≤ v * one + one → 2 * c * one ≤ s * (2 * slope) + one → l * (2 * slope) ≤ t * b + 2 * b → 2 * (l * c) ≤ v * b + 4 * b
  sine_least p q r =
      let i = mul-le-mul_right b p in
      let j = mul-le-mul_left s r in
      let k = mul-le-mul_left l q in
      let m = mul-le-mul_left b S in
      le_of_mul-le-mul_right {k = one} (omega arith) (lit< tt)

module _ (t : ℕ) where
  abbrev s : ℕ
  s = share_of t

  s_small : s ≤ one
  s_small = stage_small _ _ _

  c_over : 2 * per_degree_of t * one ≤ s * (2 * slope) + one
  unfolding per_degree_of
  c_over = omega (arith, div-mul-le_self (share_of t * slope + 536870912) one)

  c_under : s * (2 * slope) ≤ 2 * per_degree_of t * one + one
  unfolding per_degree_of
  c_under = omega (arith, lt-div-mul-add {a = share_of t * slope + 536870912} {b = one} (lit< tt))

  pub slope_small : per_degree_of t ≤ slope
  slope_small = le_of_mul-le-mul_right {k = one} (omega (arith, c_over, s_small)) (lit< tt)

  sine_over : sine_fixed_of t * one ≤ t * s
  unfolding sine_fixed_of scaled_of
  sine_over = omega (arith, div-mul-le_self (t * share_of t) (1 * one))

  sine_under : t * s ≤ sine_fixed_of t * one + one
  unfolding sine_fixed_of scaled_of
  sine_under = omega (arith, lt-div-mul-add {a = t * share_of t} {b = 1 * one} (lit< tt))

module _ (l b e : ℕ) (B : 0 < b) (h : l ≤ b) (over : e * b ≤ l * degree + b) (under : l * degree ≤ e * b + b) where
  abbrev t : ℕ
  t = radians_of e

  abbrev c : ℕ
  c = per_degree_of t

  abbrev v : ℕ
  v = sine_fixed_of t

  cut_le : t * two_to33 ≤ e * pi_over180
  unfolding radians_of
  cut_le = div-mul-le_self (e * pi_over180) two_to33

  cut_gt : e * pi_over180 ≤ t * two_to33 + two_to33
  unfolding radians_of
  cut_gt = le_of_lt (lt-div-mul-add {a = e * pi_over180} {b = two_to33} (lit< tt))

  at_most : v * b ≤ 2 * (l * c) + 3 * b
  at_most = sine_most t (s t) v c l b (s_small t) h (sine_over t) (c_under t) (radians_most t e l b cut_le over)

  at_least : 2 * (l * c) ≤ v * b + 4 * b
  at_least = sine_least t (s t) v c l b (s_small t) h (sine_under t) (c_over t) (radians_least t e l b cut_gt under)

  pub product : Before (l * c) (b * 2 ^ 29) v
  product =
      record {
        positive = mul-pos B (lit< tt);
        small = le_trans (mul-le-mul h (slope_small t)) (mul-le-mul_left b (lit≤ tt));
        over = omega (arith, at_least);
        under = omega (arith, at_most);
      }
