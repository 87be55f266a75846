-- A float of at most 360 in size is cut to steps of 2 ^ -26 degrees: the product with 2 ^ 26 is exact, and in the range of the cut. Assumes nothing.
use Rattle.std.proofs.Common.{◌≡◌, ℕ, zero, suc, ◌+◌, ◌-◌, ◌*◌, ◌/◌, ◌%◌, ◌^◌, ◌<◌, ◌≤◌, Bool, true, false, ◌&&◌, ◌||◌, T, eqb, ltb, leb, ℤ, pos, negsuc, sym}
use Rattle.std.proofs.Common.{refl, ap, ◌∙◌, subst, inl, inr, true≢false, le_trans, le_of_eq, lt_of_lt_of_le, lt_of_le_of_lt, le_of_lt, mul-le-mul_right}
use Rattle.std.proofs.Common.{mul_assoc, div-lt_iff_lt-mul, lt_of_mul-lt-mul_right, mul-lt-mul_of_pos_right, one-mul, zero-mul, mul-one, not-le_of_lt, arith}
use Rattle.std.proofs.Common.{lit<, lit≤, le→leb, eqb→eq, ltb→lt, lt→ltb, leb→le, pow_pos, pow_mono, pow-add, shl_lt, ltb-false, ltb-true}
use native.Mathlib.Nat.{zero-div}
use native.Mathlib.Nat.{div-le_of_le-mul}
use mathlib.Core.Bool.{false≢true}
use lib.Pow.{pow-lt}
use lib.Ieee.{Float, nan, inf, fin, binary32, up, down, fits, of_bits, round, mul, neg, to_unsigned, in_float, lt, le, eq}
use lib.Ieee.Exact.{HasValue, round_exact}
use lib.Ieee.Nearest.{div_same}
use lib.Ieee.Fits.{and_l, and_r, down_pos}
use Rattle.number.specs.Float32 as float
use Rattle.number.specs.Same.{fabsf_of}
use Rattle.trig.specs.Degrees.{in_turn}
use Rattle.trig.specs.Wave.{degree, steps_of, grid_of}
use Rattle.trig.proofs.Reduce.{order}

-- ---- what an f32 holds

-- a float's m has 24 digits, and its denominator at most 149 zeros
pub fits_small : (s : Bool) (m : ℕ) (e : ℤ) → T (fits binary32 (fin s m e)) → (m < 2 ^ 24) × (down e ≤ 2 ^ 149)
unfolding fits
fits_small s zero (pos k) h = (lit< tt, lit≤ tt)
fits_small s zero (negsuc k) h = (lit< tt, le_trans (le_of_eq (sym (one-mul (2 ^ suc k)) ∙ eqb→eq (1 * 2 ^ suc k) 1 h)) (lit≤ tt))
fits_small s (suc m) e h =
    let three = and_l (eqb (suc m % 2) 1 && ltb (suc m) (2 ^ 24) && leb (down e) (2 ^ 149)) (ltb (suc m * up e) (2 ^ 128 * down e)) h in
    let two = and_l (eqb (suc m % 2) 1 && ltb (suc m) (2 ^ 24)) (leb (down e) (2 ^ 149)) three in (
      ltb→lt (suc m) (2 ^ 24) (and_r (eqb (suc m % 2) 1) (ltb (suc m) (2 ^ 24)) two),
      leb→le (down e) (2 ^ 149) (and_r (eqb (suc m % 2) 1 && ltb (suc m) (2 ^ 24)) (leb (down e) (2 ^ 149)) three),
    )

-- the exponents of powers of two are in the powers' order
pow_le : (i j : ℕ) → 2 ^ i ≤ 2 ^ j → i ≤ j
pow_le i j h =
    elim (order i j) [
      | inl l ↦ le_of_lt l
      | inr (inl e) ↦ le_of_eq e
      | inr (inr g) ↦ absurd (not-le_of_lt (pow-lt g) h)
    ]

-- 2 ^ 26 times a float of at most 360 in size is exact
product_round : (s : Bool) (m : ℕ) (e : ℤ) → T (fits binary32 (fin s m e)) → m * up e ≤ 360 * down e
    → HasValue (round binary32 false (m * up e * degree) (down e)) false (m * up e * degree) (down e)
product_round s m (pos k) f h =
    let p : 2 ^ (k + 175) ≡ 2 ^ k * 2 ^ 175 = pow-add 2 k 175 in
    let q : m * 2 ^ k * 2 ^ 175 ≡ m * 2 ^ (k + 175) = mul_assoc m (2 ^ k) (2 ^ 175) ∙ ap (λ (z : ℕ). m * z) (sym p) in
    round_exact binary32 false (m * 2 ^ k * degree) 1 m (k + 175) (lit< tt) (fits_small s m (pos k) f).0
    (subst (λ (z : ℕ). z < 2 ^ 277) q (lt_of_le_of_lt (mul-le-mul_right (2 ^ 175) h) (lit< tt)))
    (mul_assoc (m * 2 ^ k) degree (2 ^ 149) ∙ q ∙ sym (mul-one (m * 2 ^ (k + 175))))
product_round s m (negsuc k) f h =
    let d : suc k ≤ 149 = pow_le (suc k) 149 (fits_small s m (negsuc k) f).1 in
    let j : ℕ = 175 - suc k in
    let g : j + suc k ≡ 175 = omega arith in
    let p : 2 ^ j * 2 ^ suc k ≡ 2 ^ 175 = sym (pow-add 2 j (suc k)) ∙ ap (λ (z : ℕ). 2 ^ z) g in
    round_exact binary32 false (m * 1 * degree) (2 ^ suc k) m j (pow_pos (suc k)) (fits_small s m (negsuc k) f).0
    (lt_of_lt_of_le (shl_lt 24 j (fits_small s m (negsuc k) f).0) (pow_mono {i = 24 + j} {j = 277} (omega arith)))
    (mul_assoc (m * 1) degree (2 ^ 149) ∙ ap (λ (z : ℕ). z * 2 ^ 175) (mul-one m) ∙ ap (λ (z : ℕ). m * z) (sym p) ∙ sym (mul_assoc m (2 ^ j) (2 ^ suc k)))

product_value : (s : Bool) (m : ℕ) (e : ℤ) → T (fits binary32 (fin s m e)) → m * up e ≤ 360 * down e
    → HasValue (mul binary32 (fin false m e) (fin false 1 (pos 26))) false (m * up e * degree) (down e)
unfolding mul
product_value s m e f h = rw (mul-one (down e)) (product_round s m e f h)

-- ---- the cut toward zero: what it asks, and what it gives

cut_asks : (x : Float) (a b : ℕ) → 0 < b → HasValue x false a b → a < 2 ^ 64 * b → T (lt (fin true 1 (pos 0)) x) × T (lt x (fin false 1 (pos 64)))
unfolding lt
cut_asks nan a b B v h = absurd v
cut_asks (inf s) a b B v h = absurd v
cut_asks (fin true m e) a b B v h = absurd (true≢false v.0)
cut_asks (fin false m e) a b B v h =
    let p : a * down e < 2 ^ 64 * b * down e = mul-lt-mul_of_pos_right h (down_pos e) in (
      lt→ltb 0 (1 * 1 * down e + m * up e * 1) (omega (arith, down_pos e)),
      lt→ltb (m * up e * 1) (1 * 2 ^ 64 * down e) (lt_of_mul-lt-mul_right b (omega (arith, v.1))),
    )

cut_value : (x : Float) (a b : ℕ) → 0 < b → HasValue x false a b → a < 2 ^ 64 * b → to_unsigned 64 x ≡ a / b
unfolding to_unsigned
cut_value nan a b B v h = absurd v
cut_value (inf s) a b B v h = absurd v
cut_value (fin true m e) a b B v h = absurd (true≢false v.0)
cut_value (fin false m e) a b B v h =
    let p : m * up e / down e ≡ a / b = div_same (m * up e) (down e) a b (down_pos e) B v.1 in
    let q : a / b < 2 ^ 64 = (div-lt_iff_lt-mul B).1 h in
    omega arith

-- ---- an angle in its range

pub either_le : (p q r s : ℕ) (b : Bool) → (r ≡ s → p ≤ q) → T (ltb p q || (eqb r s && b)) → p ≤ q
either_le p q r s b f t = go (ltb p q) refl t
  where
    go : (l : Bool) → ltb p q ≡ l → T (l || (eqb r s && b)) → p ≤ q
    go true e u = le_of_lt (ltb-true p q e)
    go false e u = f (eqb→eq r s (and_l (eqb r s) b u))

-- x is at most 360 in size
pub turn_bound : (s : Bool) (m : ℕ) (e : ℤ) → T (in_turn (fin s m e)) → m * up e ≤ 360 * down e
unfolding le lt eq of_bits neg
turn_bound true m e t =
    let u = and_l (le (fin true 45 (pos 3)) (fin true m e)) (le (fin true m e) (fin false 45 (pos 3))) t in
    let v = either_le (m * up e * 1) (360 * down e) (360 * down e) (m * up e * 1) true (λ z. le_of_eq (sym z)) u in
    omega arith
turn_bound false m e t =
    let u = and_r (le (fin true 45 (pos 3)) (fin false m e)) (le (fin false m e) (fin false 45 (pos 3))) t in
    let v = either_le (m * up e * 1) (360 * down e) (m * up e * 1) (360 * down e) true le_of_eq u in
    omega arith

-- ---- what `steps` asks and gives

room : (m : ℕ) (e : ℤ) → m * up e ≤ 360 * down e → m * up e * degree < 2 ^ 64 * down e
room m e h = omega (arith, down_pos e)

abbrev on_grid : Float → Float
on_grid x = mul binary32 (fabsf_of x) (fin false 1 (pos 26))

pub steps_asks : (x : Float) → T (fits binary32 x) → T (in_turn x) → T (lt (fin true 1 (pos 0)) (on_grid x)) × T (lt (on_grid x) (fin false 1 (pos 64)))
unfolding le lt eq of_bits neg fabsf_of
steps_asks nan f t = absurd t
steps_asks (inf true) f t = absurd t
steps_asks (inf false) f t = absurd t
steps_asks (fin s m e) f t =
    let h = turn_bound s m e t in
    cut_asks (on_grid (fin s m e)) (m * up e * degree) (down e) (down_pos e) (product_value s m e f h) (room m e h)

pub steps_gives : (x : Float) → T (fits binary32 x) → T (in_turn x) → (to_unsigned 64 (on_grid x) ≡ steps_of x) × (steps_of x ≤ 360 * degree)
unfolding le lt eq of_bits neg fabsf_of steps_of
steps_gives nan f t = absurd t
steps_gives (inf true) f t = absurd t
steps_gives (inf false) f t = absurd t
steps_gives (fin s m e) f t =
    let h = turn_bound s m e t in
    (cut_value (on_grid (fin s m e)) (m * up e * degree) (down e) (down_pos e) (product_value s m e f h) (room m e h), div-le_of_le-mul (down e) (omega arith))

-- ---- what `grid` gives, by the sign

no_less : (a b : ℕ) → b ≤ a → a < b → ⊥
no_less a b h i = omega arith

nil : (a : ℕ) → a ≤ 0 → a ≡ 0
nil a h = omega arith

pub minus_gives : (x : Float) → T (in_turn x) → lt x float.zero ≡ true → 360 * degree - steps_of x ≡ grid_of x
unfolding le lt eq of_bits neg steps_of grid_of
minus_gives nan t h = absurd t
minus_gives (inf true) t h = absurd t
minus_gives (inf false) t h = absurd (false≢true h)
minus_gives (fin true m e) t h = refl
minus_gives (fin false m e) t h = absurd (no_less (m * up e * 1) (0 * 1 * down e) (omega arith) (ltb-true (m * up e * 1) (0 * 1 * down e) h))

-- a minus zero is no step below 360 degrees
pub plus_gives : (x : Float) → T (in_turn x) → lt x float.zero ≡ false → 360 * degree + steps_of x ≡ grid_of x
unfolding le lt eq of_bits neg steps_of grid_of
plus_gives nan t h = absurd t
plus_gives (inf true) t h = absurd t
plus_gives (inf false) t h = absurd t
plus_gives (fin true m e) t h =
    let p = ltb-false 0 (m * up e * 1 + 0 * 1 * down e) h in
    rw (nil (m * up e) (omega arith), zero-mul degree, zero-div (down e))
plus_gives (fin false m e) t h = refl

-- ---- a whole number as a float

pub in_float_lem : (n : ℕ) → n ≤ 16777216 → T (in_float binary32 (pos n))
unfolding in_float
in_float_lem n h = le→leb n 16777216 h
