-- Below a degree the angle times its slope, rounded once, is within 2 ^ -23 of the exact sine. Assumes nothing.
use Rattle.std.proofs.Common.{◌≡◌, ℕ, ◌+◌, ◌-◌, ◌*◌, ◌^◌, ◌<◌, ◌≤◌, Bool, true, false, T, ◌⊎◌, ℤ, pos, sym, refl, ap, ◌∙◌, subst, inl, inr, true≢false}
use Rattle.std.proofs.Common.{eq-zero-or-pos, lt_of_mul-lt-mul_right, mul-pos, arith, lit<, lit≤, ltb-true, le-ltb, lt-ltb}
use lib.Ieee.{Float, nan, inf, fin, binary32, of_bits, up, down, unlike, fits, round, mul, lt}
use lib.Ieee.Exact.{HasValue}
use lib.Ieee.Fits.{down_pos}
use lib.Ieee.Scale.{round_same}
use Rattle.number.specs.Float32 as float
use Rattle.number.specs.Same.{fabsf_of}
use Rattle.trig.specs.Degrees.{in_turn, turns, left, left_minus, quarter, wave_of, wave_at, sine_at, within}
use Rattle.trig.specs.Fixed.{scaled_of, stage_of, sine_fixed_of, per_degree_of}
use Rattle.trig.specs.Wave.{degree, grid_of, radians_of, rest_of, size_of, slope_of}
use Rattle.trig.proofs.Reduce.{Gridded, turns_is, turns_same, left_over, left_under}
use Rattle.trig.proofs.Quarter.{wave_close}
use Rattle.trig.proofs.Grid.{gridded}
use Rattle.trig.proofs.Rounding.{Rounded, rounds, over_power}
use Rattle.trig.proofs.Within.{result_close}
use Rattle.trig.proofs.Slope.{slope_small, product}

-- ---- the reference, at y / b, which is 360 degrees more; r is y / b on the grid

module _ (s : Bool) (l b y r : ℕ) (B : 0 < b) (h : l ≤ b) (g : Gridded y b r) (at : turns y b ≡ 4) (size : left y b ≡ l) where
  same_minus : (m : Bool) → left_minus y b ≡ m → m ≡ (wave_of 0 y b).minus
  unfolding quarter
  same_minus true e = rw (at, e)
  same_minus false e = rw (at, e)

  sine_there : sine_fixed_of (rest_of r) ≡ size_of 0 r
  unfolding size_of
  sine_there = rw (turns_same y b r B g ∙ at)

  stands : (size_of 0 r ≡ 0) ⊎ (left_minus y b ≡ s) → T (within 23 (round binary32 s (l * per_degree_of (rest_of r)) (b * 2 ^ 29)) (wave_of 0 y b))
  stands sign =
      let p = product l b (left r degree) B h
      (subst (λ (z : ℕ). left r degree * b ≤ z * degree + b) size (left_over y b r B g))
      (subst (λ (z : ℕ). z * degree ≤ left r degree * b + b) size (left_under y b r B g)) in
      let x = round binary32 s (l * per_degree_of (rest_of r)) (b * 2 ^ 29) in
      result_close x s (size_of 0 r) (wave_of 0 y b) (subst (λ (n : ℕ). Rounded x s n) sine_there (rounds s _ _ _ p)) (wave_close 0 y b r B g)
      (elim sign [ inl z ↦ inl z | inr e ↦ inr (same_minus s e) ])

-- at 360 degrees there is no size
no_size : (b r : ℕ) → 0 < b → Gridded (360 * b) b r → size_of 0 r ≡ 0
unfolding size_of turns left radians_of sine_fixed_of scaled_of stage_of
no_size b r B g =
    let p : r < 360 * degree + 1 = lt_of_mul-lt-mul_right b (omega (arith, g.over)) in
    let q : 360 * degree < r + 1 = lt_of_mul-lt-mul_right b (omega (arith, g.under)) in
    let e : r ≡ 360 * degree = omega arith in
    ap (size_of 0) e ∙ none
  where
    none : size_of 0 (360 * degree) ≡ 0
    none = refl

module _ (l b r : ℕ) (B : 0 < b) (h : l ≤ b) where
  plus : Gridded (360 * b + l) b r → T (within 23 (round binary32 false (l * per_degree_of (rest_of r)) (b * 2 ^ 29)) (wave_of 0 (360 * b + l) b))
  unfolding left left_minus
  plus g =
      let a : turns (360 * b + l) b ≡ 4 = turns_is (360 * b + l) b 4 B (omega arith) (omega arith) in
      let size : left (360 * b + l) b ≡ l = rw a (omega arith) in
      let sign : left_minus (360 * b + l) b ≡ false = rw a (le-ltb (360 * b + l) (4 * (90 * b)) (omega arith)) in
      stands false l b (360 * b + l) r B h g a size (inr sign)

  minus : Gridded (360 * b - l) b r → T (within 23 (round binary32 true (l * per_degree_of (rest_of r)) (b * 2 ^ 29)) (wave_of 0 (360 * b - l) b))
  unfolding left left_minus
  minus g =
      let a : turns (360 * b - l) b ≡ 4 = turns_is (360 * b - l) b 4 B (omega arith) (omega arith) in
      let size : left (360 * b - l) b ≡ l = rw a (omega arith) in
      stands true l b (360 * b - l) r B h g a size (elim (eq-zero-or-pos l) [
        | inl z ↦ let e : 360 * b - l ≡ 360 * b = omega arith in inl (no_size b r B (subst (λ (y : ℕ). Gridded y b r) e g))
        | inr p ↦ inr (rw a (lt-ltb (360 * b - l) (4 * (90 * b)) (omega arith)))
      ])

-- ---- the product of the floats

unlike_plus : (s : Bool) → unlike s false ≡ s
unlike_plus true = refl
unlike_plus false = refl

times : (s : Bool) (m : ℕ) (e : ℤ) (x : Float) (n : ℕ) → HasValue x false n (2 ^ 29)
    → mul binary32 (fin s m e) x ≡ round binary32 s (m * up e * n) (down e * 2 ^ 29)
unfolding mul
times s m e nan n v = absurd v
times s m e (inf t) n v = absurd v
times s m e (fin true o d) n v = absurd (true≢false v.0)
times s m e (fin false o d) n v =
    ap (λ (z : Bool). round binary32 z (m * up e * (o * up d)) (down e * down d)) (unlike_plus s)
    ∙ round_same binary32 s (m * up e * (o * up d)) (down e * down d) (m * up e * n) (down e * 2 ^ 29)
    (mul-pos (down_pos e) (down_pos d)) (mul-pos (down_pos e) (lit< tt)) (omega (arith, ap (λ (z : ℕ). z * (m * up e * down e)) v.1))

pub sloped : (s : Bool) (m : ℕ) (e : ℤ)
    → mul binary32 (fin s m e) (slope_of (fin s m e)) ≡ round binary32 s (m * up e * per_degree_of (rest_of (grid_of (fin s m e)))) (down e * 2 ^ 29)
unfolding slope_of of_bits
sloped s m e =
    let t = rest_of (grid_of (fin s m e)) in
    times s m e _ (per_degree_of t) (over_power 29 (per_degree_of t) (lit≤ tt) (omega (arith, slope_small t)))

pub below_one : (m : ℕ) (e : ℤ) → lt (fin false m e) (fin false 1 (pos 0)) ≡ true → m * up e ≤ down e
unfolding lt
below_one m e h = omega (arith, ltb-true (m * up e * 1) (1 * 1 * down e) h)

pub small_near : (x : Float) → T (fits binary32 x) → T (in_turn x) → lt (fabsf_of x) float.one ≡ true
    → T (within 23 (mul binary32 x (slope_of x)) (sine_at x))
unfolding wave_at lt fabsf_of of_bits
small_near nan f t h = absurd (true≢false (sym h))
small_near (inf s) f t h = absurd (true≢false (sym h))
small_near (fin true m e) f t h =
    rw (sloped true m e) (minus (m * up e) (down e) (grid_of (fin true m e)) (down_pos e) (below_one m e h) (gridded true m e f t))
small_near (fin false m e) f t h =
    rw (sloped false m e) (plus (m * up e) (down e) (grid_of (fin false m e)) (down_pos e) (below_one m e h) (gridded false m e f t))
