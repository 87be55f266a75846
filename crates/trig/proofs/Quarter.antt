-- The size that is worked out on the grid is within 6 units of 2 ^ -30 of the exact reference, and the sign is its own. Assumes nothing.
use Rattle.std.proofs.Common.{◌≡◌, ℕ, ◌+◌, ◌-◌, ◌*◌, ◌/◌, ◌%◌, ◌^◌, ◌<◌, ◌≤◌, Bool, true, false, cond, eqb, ltb, leb, ◌⊎◌, refl, inl, inr, le_trans, le_of_lt}
use Rattle.std.proofs.Common.{mul-le-mul_right, mul-le-mul, div-mul-le_self, le_of_mul-le-mul_right, arith, lit<, eq-eqb, ne_eqb}
use native.Mathlib.Nat.{div-le_of_le-mul, lt-div-mul-add}
use lib.Ieee.{unlike}
use Rattle.trig.specs.Series.{cosine_num, cosine_den}
use Rattle.trig.specs.Degrees.{pi_top, pi_bottom, turns, left, left_minus, sine_or_cosine, quarter, wave_of}
use Rattle.trig.specs.Fixed.{one, scaled_of, stage_of, share_of, sine_fixed_of, cosine_fixed_of}
use Rattle.trig.specs.Wave.{degree, pi_over180, two_to33, radians_of, rest_of, back_of, size_of, minus_of, float_of}
use Rattle.trig.proofs.Around.{Around, cut_fixed}
use Rattle.trig.proofs.Series.{sine_around, cosine_around}
use Rattle.trig.proofs.Reduce.{Gridded, turns_same, left_over, left_under, left_sign, left_small}

-- With x and e for the radians and the steps times b, and the 2 ^ 22 of 180 * 10 ^ 20 left out, so that no number has more than 38 digits, which is as far
-- as `omega` counts: what is left of it is 45 * 5 ^ 20.
abbrev fives : ℕ
fives = 4291534423828125

left_to_steps : (x e : ℕ) → x * two_to33 ≤ e * pi_over180 → x * fives * two_to33 ≤ e * (fives * pi_over180)
left_to_steps x e s = omega (arith, mul-le-mul_right fives s)

steps_to_right : (l b : ℕ) → l ≤ 45 * b → (l * degree + b) * (fives * pi_over180) ≤ (l * (256 * pi_top) + b * (2 * fives)) * two_to33
steps_to_right l b small = omega arith

radians_over : (x e l b : ℕ) → x * two_to33 ≤ e * pi_over180 → e ≤ l * degree + b → l ≤ 45 * b → x * fives ≤ l * (256 * pi_top) + b * (2 * fives)
radians_over x e l b s over small =
    le_of_mul-le-mul_right {k = two_to33}
    (le_trans (left_to_steps x e s) (le_trans (mul-le-mul_right (fives * pi_over180) over) (steps_to_right l b small)))
    (lit< tt)

radians_under : (x e l b : ℕ) → e * pi_over180 ≤ x * two_to33 + b * two_to33 → l * degree ≤ e + b → l * (256 * pi_top) ≤ x * fives + b * (2 * fives)
radians_under x e l b s under = omega arith

-- d steps of the grid are at most a step off l / b degrees, which is at most 45: in radians that is within 2 units of 2 ^ -30
module _ (d l b : ℕ) (over : d * b ≤ l * degree + b) (under : l * degree ≤ d * b + b) (small : l ≤ 45 * b) where
  cut_le : radians_of d * b * two_to33 ≤ d * b * pi_over180
  unfolding radians_of
  cut_le = omega (arith, mul-le-mul_right b (div-mul-le_self (d * pi_over180) two_to33))

  cut_gt : d * b * pi_over180 ≤ radians_of d * b * two_to33 + b * two_to33
  unfolding radians_of
  cut_gt = omega (arith, mul-le-mul_right b (le_of_lt (lt-div-mul-add {a = d * pi_over180} {b = two_to33} (lit< tt))))

  pub radians_around : Around one 2 (radians_of d) (l * pi_top) (b * (180 * pi_bottom))
  radians_around =
      let s = mul-le-mul_right (2 ^ 22) (radians_over (radians_of d * b) (d * b) l b cut_le over small) in
      let t = mul-le-mul_right (2 ^ 22) (radians_under (radians_of d * b) (d * b) l b cut_gt under) in
      record { over = omega (arith, s); under = omega (arith, t) }

  pub at_most_one : l * pi_top ≤ b * (180 * pi_bottom)
  at_most_one = omega arith

radians_most : (d : ℕ) → d ≤ 45 * degree → radians_of d ≤ 843314857
unfolding radians_of
radians_most d h = omega (arith, div-mul-le_self (d * pi_over180) two_to33)

pub radians_small : (d : ℕ) → d ≤ 45 * degree → radians_of d ≤ one
radians_small d h = omega (arith, radians_most d h)

six : (v top bottom : ℕ) → Around one 5 v top bottom → Around one 6 v top bottom
six v top bottom near = record { over = omega (arith, near.over); under = omega (arith, near.under) }

module _ (k y b r : ℕ) (B : 0 < b) (g : Gridded y b r) where
  t : ℕ
  t = radians_of (left r degree)

  n : ℕ
  n = left y b * pi_top

  d : ℕ
  d = b * (180 * pi_bottom)

  near : Around one 2 t n d
  unfolding t n d
  near = radians_around (left r degree) (left y b) b (left_over y b r B g) (left_under y b r B g) (left_small y b B)

  small : n ≤ d
  unfolding n d
  small = at_most_one (left r degree) (left y b) b (left_over y b r B g) (left_under y b r B g) (left_small y b B)

  fixed : t ≤ one
  unfolding t
  fixed = radians_small (left r degree) (left_small r degree (lit< tt))

  -- at an even and at an odd quarter
  size_at_lem : (even back s : Bool)
      → Around one 6 (cond even (sine_fixed_of t) (cosine_fixed_of t)) (sine_or_cosine even back s n d).top (sine_or_cosine even back s n d).bottom
  size_at_lem true back s = sine_around t n d near small fixed
  size_at_lem false back s = six (cosine_fixed_of t) (cosine_num n d) (cosine_den d) (cosine_around t n d near small fixed)

  pub wave_close : Around one 6 (size_of k r) (wave_of k y b).top (wave_of k y b).bottom
  unfolding size_of quarter t n d
  wave_close = rw (turns_same y b r B g) (size_at_lem (eqb ((turns y b + k) % 2) 0) (leb 2 ((turns y b + k) % 4)) (left_minus y b))

  sign_at : (even back : Bool) → (left r degree ≡ 0) ⊎ (left_minus r degree ≡ left_minus y b) →
      (cond even (sine_fixed_of t) (cosine_fixed_of t) ≡ 0)
      ⊎ (cond even (unlike (left_minus r degree) back) back ≡ (sine_or_cosine even back (left_minus y b) n d).minus)
  unfolding t radians_of sine_fixed_of scaled_of stage_of
  sign_at true back (inl e) = inl (rw e)
  sign_at true back (inr e) = inr (rw e)
  sign_at false back h = inr refl

  pub wave_sign : (size_of k r ≡ 0) ⊎ (minus_of k r ≡ (wave_of k y b).minus)
  unfolding size_of minus_of quarter t n d
  wave_sign = rw (turns_same y b r B g) (sign_at (eqb ((turns y b + k) % 2) 0) (leb 2 ((turns y b + k) % 4)) (left_sign y b r B g))

-- ---- sizes are at most 1

pub rest_small : (y : ℕ) → rest_of y ≤ one
rest_small y = radians_small (left y degree) (left_small y degree (lit< tt))

pub stage_small : (u h c : ℕ) → stage_of u h c ≤ one
unfolding stage_of
stage_small u h c = omega arith

pub sine_small : (t : ℕ) → t ≤ one → sine_fixed_of t ≤ one
unfolding sine_fixed_of scaled_of
sine_small t h = cut_fixed one 1 t (share_of t) (lit< tt) h (stage_small _ _ _)

pub size_small : (k y : ℕ) → size_of k y ≤ one
unfolding size_of cosine_fixed_of
size_small k y = go (eqb ((turns y degree + k) % 2) 0)
  where
    go : (even : Bool) → cond even (sine_fixed_of (rest_of y)) (cosine_fixed_of (rest_of y)) ≤ one
    go true = sine_small (rest_of y) (rest_small y)
    go false = stage_small _ _ _

-- ---- the cosine of at most 45 degrees is above 0.69

square_most : (t : ℕ) → t ≤ 843314857 → t * t / (1 * one) ≤ 662337945
square_most t h = div-le_of_le-mul (1 * one) (omega (arith, mul-le-mul h h))

last_stage : (u h : ℕ) → u ≤ 662337945 → h ≤ one → 742572851 ≤ one - u * h / (2 * one)
last_stage u h U H =
    let s : u * h ≤ 662337945 * one = mul-le-mul U H in
    let t : u * h / (2 * one) ≤ 331168973 = div-le_of_le-mul (2 * one) (omega arith) in
    omega arith

pub cosine_wide : (d : ℕ) → d ≤ 45 * degree → 742572851 ≤ cosine_fixed_of (radians_of d)
unfolding cosine_fixed_of stage_of scaled_of
cosine_wide d h = last_stage _ _ (square_most (radians_of d) (radians_most d h)) (omega arith)

-- ---- what the calls of `rounded` come to, at an even and at an odd quarter

module _ (k y a t v : ℕ) (at : a ≡ turns y degree) (rest : t ≡ rest_of y) where
  pub even_wave : (a + k) % 2 ≡ 0 → v ≡ sine_fixed_of t
      → float_of (unlike (ltb y (a * (90 * degree))) (back_of (a + k))) v ≡ float_of (minus_of k y) (size_of k y)
  unfolding minus_of size_of left_minus
  even_wave e s = rw (eq-eqb ((turns y degree + k) % 2) 0 (rw at at e), s, rest, at)

  pub odd_wave : ((a + k) % 2 ≡ 0 → ⊥) → v ≡ cosine_fixed_of t → float_of (back_of (a + k)) v ≡ float_of (minus_of k y) (size_of k y)
  unfolding minus_of size_of
  odd_wave e s = rw (ne_eqb ((turns y degree + k) % 2) 0 (rw at at e), s, rest, at)
