-- In the range the sine or the cosine is above a half in size: one of them is the cosine of at most 45 degrees. Assumes nothing.
use Rattle.std.proofs.Common.{◌≡◌, ℕ, ◌+◌, ◌-◌, ◌*◌, ◌/◌, ◌%◌, ◌≤◌, Bool, true, false, cond, ◌||◌, T, eqb, sym, refl, true≢false, mul-le-mul_right, arith, lit<}
use Rattle.std.proofs.Common.{lt-ltb, ne_eqb, eqb-true}
use native.Mathlib.Nat.{div-le_of_le-mul}
use borrow.Author.Tests.{eqb-false}
use lib.Ieee.{Float, nan, inf, fin, of_bits, up, down, mul, binary32, lt}
use lib.Ieee.Bits.{is_true}
use lib.Ieee.Fits.{down_pos}
use Rattle.number.specs.Float32 as float
use Rattle.number.specs.Same.{fabsf_of}
use Rattle.trig.specs.Degrees.{in_turn, lifted, turns, left}
use Rattle.trig.specs.Fixed.{cosine_fixed_of}
use Rattle.trig.specs.Wave.{degree, grid_of, rest_of, size_of, minus_of, slope_of, rounded_of, sin_of, cos_of}
use Rattle.trig.proofs.Reduce.{turns_is, left_small}
use Rattle.trig.proofs.Quarter.{size_small, cosine_wide}
use Rattle.trig.proofs.Rounding.{Rounded, float_rounded}
use Rattle.trig.proofs.Small.{below_one}

-- ---- the cosine of what is left of a quarter turn, as a float

wide : (x : Float) (s : Bool) (n : ℕ) → Rounded x s n → 742572851 ≤ n → lt float.half (fabsf_of x) ≡ true
unfolding lt fabsf_of of_bits
wide nan s n r h = absurd r
wide (inf t) s n r h = absurd r
wide (fin t m e) s n r h = lt-ltb (1 * 1 * down e) (m * up e * 2) (omega (arith, r.1.1, mul-le-mul_right (down e) h, down_pos e))

rounded_wide : (k : ℕ) (x : Float) → size_of k (grid_of x) ≡ cosine_fixed_of (rest_of (grid_of x)) → lt float.half (fabsf_of (rounded_of k x)) ≡ true
rounded_wide k x e =
    let y : ℕ = grid_of x in
    wide (rounded_of k x) (minus_of k y) (size_of k y) (float_rounded (minus_of k y) (size_of k y) (size_small k y))
    (rw e (cosine_wide (left y degree) (left_small y degree (lit< tt))))

-- ---- which of the two it is

-- below a degree the nearest multiple is 0, which on the grid is 360 degrees
small_turns : (x : Float) → lt (fabsf_of x) float.one ≡ true → turns (grid_of x) degree ≡ 4
unfolding lt fabsf_of of_bits grid_of
small_turns nan h = absurd (true≢false (sym h))
small_turns (inf s) h = absurd (true≢false (sym h))
small_turns (fin s m e) h = by_sign s (m * up e * degree / down e) (div-le_of_le-mul (down e) (omega (arith, below_one m e h)))
  where
    by_sign : (s : Bool) (a : ℕ) → a ≤ degree → turns (lifted s a degree) degree ≡ 4
    by_sign true a l = turns_is (360 * degree - a) degree 4 (lit< tt) (omega arith) (omega arith)
    by_sign false a l = turns_is (360 * degree + a) degree 4 (lit< tt) (omega arith) (omega arith)

-- at an odd quarter turn
odd_size : (k y : ℕ) → ((turns y degree + k) % 2 ≡ 0 → ⊥) → size_of k y ≡ cosine_fixed_of (rest_of y)
unfolding size_of
odd_size k y h = rw (ne_eqb ((turns y degree + k) % 2) 0 h)

module _ (t : Float) (in_turn_lem : T (in_turn t)) where
  abbrev quarters : ℕ
  quarters = turns (grid_of t) degree

  cosine : quarters % 2 ≡ 0 → lt float.half (fabsf_of (cos_of t)) ≡ true
  unfolding cos_of
  cosine e = rw (is_true (in_turn t) in_turn_lem) (rounded_wide 1 t (odd_size 1 (grid_of t) (λ z. omega arith)))

  sine : (quarters % 2 ≡ 0 → ⊥) → lt float.half (fabsf_of (sin_of t)) ≡ true
  unfolding sin_of
  sine n = rw (is_true (in_turn t) in_turn_lem) (by_size (lt (fabsf_of t) float.one) refl)
    where
      by_size : (b : Bool) → lt (fabsf_of t) float.one ≡ b → lt float.half (fabsf_of (cond b (mul binary32 t (slope_of t)) (rounded_of 0 t))) ≡ true
      by_size true h = let e = small_turns t h in absurd (n (omega arith))
      by_size false h = rounded_wide 0 t (odd_size 0 (grid_of t) (λ z. n (omega arith)))

  pub one_is_wide : (lt float.half (fabsf_of (cos_of t)) || lt float.half (fabsf_of (sin_of t))) ≡ true
  one_is_wide = by_quarter (eqb (quarters % 2) 0) refl
    where
      or_true : (a : Bool) → (a || true) ≡ true
      or_true true = refl
      or_true false = refl

      by_quarter : (b : Bool) → eqb (quarters % 2) 0 ≡ b → (lt float.half (fabsf_of (cos_of t)) || lt float.half (fabsf_of (sin_of t))) ≡ true
      by_quarter true e = rw (cosine (eqb-true (quarters % 2) 0 e))
      by_quarter false e = rw (sine (eqb-false (quarters % 2) 0 e)) (or_true (lt float.half (fabsf_of (cos_of t))))
