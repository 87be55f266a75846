-- A quotient that is at most 1, rounded to a float and cut to steps of 2 ^ -24, is within a step: the rounding keeps the order, and keeps a whole number of
-- steps as it is, so the rounded quotient lies between the two whole numbers of steps around the exact one. Assumes nothing.
use Rattle.std.proofs.Common.{◌≡◌, ℕ, ◌+◌, ◌*◌, ◌/◌, ◌^◌, ◌<◌, ◌≤◌, min, Bool, true, false, cond, ◌&&◌, ◌||◌, T, eqb, ltb, leb, ◌⊎◌, ℤ, pos, refl, ap, inl, inr}
use Rattle.std.proofs.Common.{true≢false, zero-le, le_of_eq, le_of_lt, mul-le-mul_right, eq-or-lt_of_le, mul-pos, le-div_iff_mul-le, div-mul-le_self}
use Rattle.std.proofs.Common.{le_of_mul-le-mul_right, arith, lit<, lit≤, ltb→lt, lt→ltb, leb→le, ltb-false, lt-ltb, eq-eqb, ne_eqb}
use native.Mathlib.Nat.{lt-div-mul-add, div-le_of_le-mul}
use lib.Ieee.{Float, nan, inf, fin, binary32, of_bits, up, down, round, div, neg, lt, le, eq}
use lib.Ieee.Exact.{HasValue}
use lib.Ieee.Fits.{and_i, and_l, and_r, up_pos, down_pos}
use lib.Ieee.Order.{round_mono}
use lib.Ieee.Positive.{num, den, den_pos}
use lib.Ieee.Scale.{finite, grid, round_val, round_under}
use Rattle.number.specs.Float32 as float
use Rattle.trig.specs.Degrees.{in_turn}
use Rattle.trig.specs.Wave.{degree, steps_of}
use Rattle.trig.specs.Octant.{tangent_one}
use Rattle.trig.specs.Angle.{ordered, ratio_of}
use Rattle.trig.proofs.Reduce.{order}
use Rattle.trig.proofs.Steps.{either_le}
use Rattle.trig.proofs.Rounding.{rounded_power}

-- between two values without a sign, a float is finite
finite_between : (x q y : Float) (k h : ℕ) → HasValue x false k tangent_one → HasValue y false h tangent_one → T (le x q) → T (le q y) → T (finite q)
unfolding le lt eq
finite_between nan q y k h v w s t = absurd v
finite_between (inf b) q y k h v w s t = absurd v
finite_between (fin b m e) q nan k h v w s t = absurd w
finite_between (fin b m e) q (inf c) k h v w s t = absurd w
finite_between (fin b m e) nan (fin c n d) k h v w s t = absurd s
finite_between (fin b m e) (inf true) (fin c n d) k h v w s t = absurd s
finite_between (fin b m e) (inf false) (fin c n d) k h v w s t = absurd t
finite_between (fin b m e) (fin a o i) (fin c n d) k h v w s t = tt

-- and its size lies between theirs
above_low : (x q : Float) (k g j : ℕ) → HasValue x false k tangent_one → HasValue q false g j → T (le x q) → k * den q ≤ num q * tangent_one
unfolding le lt eq
above_low nan q k g j v w s = absurd v
above_low (inf b) q k g j v w s = absurd v
above_low (fin true m e) q k g j v w s = absurd (true≢false v.0)
above_low (fin false m e) nan k g j v w s = absurd w
above_low (fin false m e) (inf b) k g j v w s = absurd w
above_low (fin false m e) (fin true n d) k g j v w s = absurd (true≢false w.0)
above_low (fin false m e) (fin false n d) k g j v w s =
    let p = mul-le-mul_right tangent_one (either_le (m * up e * down d) (n * up d * down e) (m * up e * down d) (n * up d * down e) true le_of_eq s) in
    let r : m * up e * tangent_one * down d ≡ k * down e * down d = ap (λ (z : ℕ). z * down d) v.1 in
    le_of_mul-le-mul_right {k = down e} (omega arith) (down_pos e)

below_high : (q y : Float) (h g j : ℕ) → HasValue q false g j → HasValue y false h tangent_one → T (le q y) → num q * tangent_one ≤ h * den q
unfolding le lt eq
below_high nan y h g j v w s = absurd v
below_high (inf b) y h g j v w s = absurd v
below_high (fin true m e) y h g j v w s = absurd (true≢false v.0)
below_high (fin false m e) nan h g j v w s = absurd w
below_high (fin false m e) (inf b) h g j v w s = absurd w
below_high (fin false m e) (fin true n d) h g j v w s = absurd (true≢false w.0)
below_high (fin false m e) (fin false n d) h g j v w s =
    let p = mul-le-mul_right tangent_one (either_le (m * up e * down d) (n * up d * down e) (m * up e * down d) (n * up d * down e) true le_of_eq s) in
    let r : n * up d * tangent_one * down e ≡ h * down d * down e = ap (λ (z : ℕ). z * down e) w.1 in
    le_of_mul-le-mul_right {k = down d} (omega arith) (down_pos d)

smaller_over : (x y b c : ℕ) → c ≤ x * b → c ≤ y * b → c ≤ min x y * b
smaller_over x y b c h i = go (order x y)
  where
    first : x ≤ y → min x y ≡ x
    first l = omega arith

    second : y ≤ x → min x y ≡ y
    second l = omega arith

    go : (x < y) ⊎ ((x ≡ y) ⊎ (y < x)) → c ≤ min x y * b
    go (inl l) = rw (first (le_of_lt l)) h
    go (inr (inl e)) = rw (first (le_of_eq e)) h
    go (inr (inr g)) = rw (second (le_of_lt g)) i

-- a / b, at most 1, rounded
module _ (a b : ℕ) (B : 0 < b) (fit : a ≤ b) where
  k : ℕ
  k = a * tangent_one / b

  k_le : k * b ≤ a * tangent_one
  unfolding k
  k_le = div-mul-le_self (a * tangent_one) b

  k_gt : a * tangent_one < k * b + b
  unfolding k
  k_gt = lt-div-mul-add B

  k_small : k ≤ tangent_one
  unfolding k
  k_small = div-le_of_le-mul b (omega arith)

  high : ℕ
  high = min (k + 1) tangent_one

  high_small : high ≤ tangent_one
  unfolding high
  high_small = omega arith

  high_le : high ≤ k + 1
  unfolding high
  high_le = omega arith

  high_over : a * tangent_one ≤ high * b
  unfolding high
  high_over = smaller_over (k + 1) tangent_one b (a * tangent_one) (omega (arith, k_gt)) (omega arith)

  unfoldable q : Float
  q = round binary32 false a b

  low_le : T (le (round binary32 false k tangent_one) q)
  unfolding q
  low_le = round_mono binary32 k tangent_one a b (lit< tt) B k_le

  le_high : T (le q (round binary32 false high tangent_one))
  unfolding q
  le_high = round_mono binary32 a b high tangent_one B (lit< tt) high_over

  q_finite : T (finite q)
  q_finite =
      finite_between (round binary32 false k tangent_one) q (round binary32 false high tangent_one) k high (rounded_power 24 k (lit≤ tt) k_small)
      (rounded_power 24 high (lit≤ tt) high_small) low_le le_high

  q_value : HasValue q false (grid binary32 a b) (2 ^ 149)
  unfolding q
  q_value = round_val binary32 a b (round_under binary32 a b q_finite)

  q_low : k * den q ≤ num q * tangent_one
  q_low = above_low (round binary32 false k tangent_one) q k (grid binary32 a b) (2 ^ 149) (rounded_power 24 k (lit≤ tt) k_small) q_value low_le

  q_high : num q * tangent_one ≤ high * den q
  q_high = below_high q (round binary32 false high tangent_one) high (grid binary32 a b) (2 ^ 149) q_value (rounded_power 24 high (lit≤ tt) high_small) le_high

  -- cut to steps of 2 ^ -26 and divided by 4
  quarter_low : k ≤ steps_of q / 4
  unfolding steps_of
  quarter_low =
      let s : k * 4 ≤ num q * degree / den q = (le-div_iff_mul-le (den_pos q)).1 (omega (arith, q_low)) in
      (le-div_iff_mul-le (lit< tt)).1 s

  quarter_high : steps_of q / 4 ≤ high
  unfolding steps_of
  quarter_high =
      let s : num q * degree / den q ≤ 4 * high = div-le_of_le-mul (den q) (omega (arith, q_high)) in
      div-le_of_le-mul 4 s

  -- what is left to show of a whole number of steps r between k and k + 1
  between : (r : ℕ) → k ≤ r → r ≤ high → (r ≤ tangent_one) × (r * b ≤ tangent_one * a + b) × (tangent_one * a ≤ r * b + b)
  between r h i =
      let s : k * b ≤ r * b = mul-le-mul_right b h in
      let t : r * b ≤ high * b = mul-le-mul_right b i in
      let u : high * b ≤ (k + 1) * b = mul-le-mul_right b high_le in
      (omega (arith, high_small), omega (arith, k_le), omega (arith, k_gt))

  -- at a quotient that rounds to 0
  nothing : num q ≡ 0 → k ≤ 0
  nothing z =
      let s : k * den q ≤ 0 * den q = omega (arith, q_low, ap (λ (x : ℕ). x * tangent_one) z) in
      le_of_mul-le-mul_right s (den_pos q)

  at_most_one : num q ≤ den q
  at_most_one =
      let s : high * den q ≤ tangent_one * den q = mul-le-mul_right (den q) high_small in
      omega (arith, q_high)

-- ---- the quotient of two floats

-- is that of whole numbers, rounded
quotient : (m : ℕ) (e : ℤ) (n : ℕ) (d : ℤ) → 0 < n
    → div binary32 (fin false m e) (fin false n d) ≡ round binary32 false (m * up e * down d) (n * up d * down e)
unfolding div
quotient m e n d N = rw (ne_eqb n 0 (λ z. not_nil n N z))
  where
    not_nil : (n : ℕ) → 0 < n → n ≡ 0 → ⊥
    not_nil n N z = omega arith

pub or_l : (a b : Bool) → T a → T (a || b)
or_l true b t = tt
or_l false b t = absurd t

or_r : (a b : Bool) → T b → T (a || b)
or_r true b t = tt
or_r false b t = t

-- the test `<=` of two floats without a sign
pub le_either : (p q : ℕ) → p ≤ q → T (ltb p q || (eqb p q && true))
le_either p q h =
    elim (eq-or-lt_of_le h) [
      | inl e ↦ or_r (ltb p q) (eqb p q && true) (rw (eq-eqb p q e) tt)
      | inr l ↦ rw (lt-ltb p q l) tt
    ]

one_in_turn : (q : Float) (g j : ℕ) → HasValue q false g j → num q ≤ den q → T (in_turn q)
unfolding le lt eq of_bits neg
one_in_turn nan g j v h = absurd v
one_in_turn (inf b) g j v h = absurd v
one_in_turn (fin true m e) g j v h = absurd (true≢false v.0)
one_in_turn (fin false m e) g j v h =
    and_i (le (fin true 45 (pos 3)) (fin false m e)) (le (fin false m e) (fin false 45 (pos 3)))
    (or_l (ltb 0 (360 * down e + m * up e * 1)) (eq (fin true 45 (pos 3)) (fin false m e)) (lt→ltb 0 (360 * down e + m * up e * 1) (omega (arith, down_pos e))))
    (le_either (m * up e * 1) (360 * down e) (omega arith))

no_size : (q : Float) (g j : ℕ) → HasValue q false g j → lt (fin false 0 (pos 0)) q ≡ false → num q ≡ 0
unfolding lt
no_size nan g j v h = absurd v
no_size (inf b) g j v h = absurd v
no_size (fin true m e) g j v h = absurd (true≢false v.0)
no_size (fin false m e) g j v h = omega (arith, ltb-false (0 * 1 * down e) (m * up e * 1) h)

-- ---- what `ratio` asks and gives

-- r / 2 ^ 24 is within 2 ^ -24 of a / b, and at most 1
pub record Ratio (a b : Float) (r : ℕ) : Type 0 where
  pub small : r ≤ tangent_one
  pub over : r * (num b * den a) ≤ tangent_one * (num a * den b) + num b * den a
  pub under : tangent_one * (num a * den b) ≤ r * (num b * den a) + num b * den a

module _ (m : ℕ) (e : ℤ) (n : ℕ) (d : ℤ) (t : T (ordered (fin false m e) (fin false n d))) where
  abbrev top : ℕ
  top = m * up e * down d

  abbrev bottom : ℕ
  bottom = n * up d * down e

  n_pos : 0 < n
  n_pos = ltb→lt 0 n (and_l (ltb 0 n) (leb top bottom) t)

  bottom_pos : 0 < bottom
  bottom_pos = mul-pos (mul-pos n_pos (up_pos d)) (down_pos e)

  at_most : top ≤ bottom
  at_most = leb→le top bottom (and_r (ltb 0 n) (leb top bottom) t)

  asks : T (in_turn (div binary32 (fin false m e) (fin false n d)))
  unfolding q
  asks =
      rw (quotient m e n d n_pos)
      (one_in_turn (q top bottom bottom_pos at_most) _ _ (q_value top bottom bottom_pos at_most) (at_most_one top bottom bottom_pos at_most))

  some : Ratio (fin false m e) (fin false n d) (steps_of (div binary32 (fin false m e) (fin false n d)) / 4)
  unfolding q
  some =
      let w = between top bottom bottom_pos at_most (steps_of (q top bottom bottom_pos at_most) / 4)
      (quarter_low top bottom bottom_pos at_most) (quarter_high top bottom bottom_pos at_most) in
      rw (quotient m e n d n_pos) record { small = w.0; over = w.1; under = w.2 }

  none : lt (fin false 0 (pos 0)) (div binary32 (fin false m e) (fin false n d)) ≡ false → Ratio (fin false m e) (fin false n d) 0
  unfolding q
  none h =
      let z = no_size (q top bottom bottom_pos at_most) _ _ (q_value top bottom bottom_pos at_most) (rw (quotient m e n d n_pos) at h) in
      let w = between top bottom bottom_pos at_most 0 (nothing top bottom bottom_pos at_most z) zero-le in
      record { small = w.0; over = w.1; under = w.2 }

  gives : Ratio (fin false m e) (fin false n d) (ratio_of (fin false m e) (fin false n d))
  unfolding ratio_of of_bits
  gives = by_test (lt (fin false 0 (pos 0)) (div binary32 (fin false m e) (fin false n d))) refl
    where
      by_test : (b : Bool) → lt (fin false 0 (pos 0)) (div binary32 (fin false m e) (fin false n d)) ≡ b
          → Ratio (fin false m e) (fin false n d) (cond b (steps_of (div binary32 (fin false m e) (fin false n d)) / 4) 0)
      by_test true h = some
      by_test false h = none h

pub ratio_asks : (a b : Float) → T (ordered a b) → T (in_turn (div binary32 a b))
ratio_asks nan b t = absurd t
ratio_asks (inf s) b t = absurd t
ratio_asks (fin s m e) nan t = absurd t
ratio_asks (fin s m e) (inf u) t = absurd t
ratio_asks (fin true m e) (fin u n d) t = absurd t
ratio_asks (fin false m e) (fin true n d) t = absurd t
ratio_asks (fin false m e) (fin false n d) t = asks m e n d t

pub ratio_gives : (a b : Float) → T (ordered a b) → Ratio a b (ratio_of a b)
ratio_gives nan b t = absurd t
ratio_gives (inf s) b t = absurd t
ratio_gives (fin s m e) nan t = absurd t
ratio_gives (fin s m e) (inf u) t = absurd t
ratio_gives (fin true m e) (fin u n d) t = absurd t
ratio_gives (fin false m e) (fin true n d) t = absurd t
ratio_gives (fin false m e) (fin false n d) t = gives m e n d t

-- which case it is
module _ (a b : Float) where
  pub takes_some : lt float.zero (div binary32 a b) ≡ true → {n : ℕ} → n ≡ steps_of (div binary32 a b) → n / 4 ≡ ratio_of a b
  unfolding ratio_of
  takes_some h e = rw (h, e)

  pub takes_none : lt float.zero (div binary32 a b) ≡ false → 0 ≡ ratio_of a b
  unfolding ratio_of
  takes_none h = rw h
