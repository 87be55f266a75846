-- A finite f32 is a whole number of units of 2 ^ -149, the smallest f32. Products, sums and reciprocals in these units, and how near they lie to the
-- exact ones. Assumes nothing.
use Rattle.std.proofs.Common.{◌≡◌, ℕ, ◌+◌, ◌*◌, ◌^◌, ◌<◌, ◌≤◌, Bool, true, false, T, sym, refl, ap, ◌∙◌, subst, ap₂, true≢false, mul-pos}
use Rattle.std.proofs.Common.{le_of_mul-le-mul_right, arith, pow_pos, ne_eqb}
use mathlib.Core.Bool.{false≢true}
use native.Mathlib.Nat.{mul-mul-mul_comm}
use lib.Ieee.{Float, nan, inf, fin, binary32, fits, up, down, unlike, round, add, sum, mul, div}
use lib.Ieee.Exact.{HasValue, units_val}
use lib.Ieee.Fits.{round_is, down_pos}
use lib.Ieee.Order.{drop, kept}
use lib.Ieee.Positive.{first_pos}
use lib.Ieee.Scale.{round_same, grid, overflow, finite, round_under}
use Rattle.number.proofs.Signs.{round_neg, finite_neg}
use Rattle.number.proofs.Exact.{whole_number}
use Rattle.number.proofs.Rounding.{Rounded, rounded, RoundedWhole, rounded_whole, rounded_away}

-- x has the sign s and is a units
pub record Units (x : Float) (s : Bool) (a : ℕ) : Type 0 where
  pub value : HasValue x s a (2 ^ 149)

pub in_units : (x : Float) → T (fits binary32 x) → finite x ≡ true → (s : Bool) × (a : ℕ) × Units x s a
in_units nan t h = absurd (false≢true h)
in_units (inf s) t h = absurd (false≢true h)
in_units (fin s m e) t h = let (a, v) = whole_number binary32 s m e t in (s, a, record { value = v })

-- ---- a rounded fraction

rounds : (s : Bool) (a c : ℕ) → grid binary32 a c < overflow binary32 → Units (round binary32 s a c) s (grid binary32 a c)
rounds s a c h =
    record {
      value =
          subst (λ (z : Float). HasValue z s (grid binary32 a c) (2 ^ 149)) (sym (round_is binary32 s a c))
          (units_val binary32 s (kept 24 (a * 2 ^ 149) c) (drop 24 (a * 2 ^ 149) c) h);
    }

finite_plus : (a c : ℕ) → finite (round binary32 false a c) ≡ true → grid binary32 a c < overflow binary32
finite_plus a c h = round_under binary32 a c (subst T (sym h) tt)

bounded : (s : Bool) (a c : ℕ) → finite (round binary32 s a c) ≡ true → grid binary32 a c < overflow binary32
bounded false a c h = finite_plus a c h
bounded true a c h = finite_plus a c (sym (finite_neg (round binary32 false a c)) ∙ ap finite (sym (round_neg binary32 false a c)) ∙ h)

-- ---- a product

unfoldable pub times : ℕ → ℕ → ℕ
times a b = grid binary32 (a * b) (2 ^ 149 * 2 ^ 149)

mul_value : (x y : Float) (s t : Bool) (a b c : ℕ) → 0 < c → HasValue x s a c → HasValue y t b c
    → mul binary32 x y ≡ round binary32 (unlike s t) (a * b) (c * c)
unfolding mul
mul_value nan y s t a b c C h k = absurd h
mul_value (inf u) y s t a b c C h k = absurd h
mul_value (fin u m e) nan s t a b c C h k = absurd k
mul_value (fin u m e) (inf v) s t a b c C h k = absurd k
mul_value (fin u m e) (fin v n i) s t a b c C h k =
    ap (λ (z : Bool). round binary32 (unlike z v) (m * up e * (n * up i)) (down e * down i)) h.0
    ∙ ap (λ (z : Bool). round binary32 (unlike s z) (m * up e * (n * up i)) (down e * down i)) k.0
    ∙ round_same binary32 (unlike s t) (m * up e * (n * up i)) (down e * down i) (a * b) (c * c) (mul-pos (down_pos e) (down_pos i)) (mul-pos C C)
    (mul-mul-mul_comm (m * up e) (n * up i) c c ∙ ap (λ (z : ℕ). z * (n * up i * c)) h.1 ∙ ap (λ (z : ℕ). a * down e * z) k.1
    ∙ mul-mul-mul_comm a (down e) b (down i))

module _ (x y : Float) {s t : Bool} {a b : ℕ} (h : Units x s a) (k : Units y t b) where
  mul_is : mul binary32 x y ≡ round binary32 (unlike s t) (a * b) (2 ^ 149 * 2 ^ 149)
  mul_is = mul_value x y s t a b (2 ^ 149) (pow_pos 149) h.value k.value

  pub mul_units : times a b < overflow binary32 → Units (mul binary32 x y) (unlike s t) (times a b)
  unfolding times
  mul_units l = subst (λ (z : Float). Units z (unlike s t) (times a b)) (sym mul_is) (rounds (unlike s t) (a * b) (2 ^ 149 * 2 ^ 149) l)

  pub mul_bounded : finite (mul binary32 x y) ≡ true → times a b < overflow binary32
  unfolding times
  mul_bounded f = bounded (unlike s t) (a * b) (2 ^ 149 * 2 ^ 149) (ap finite (sym mul_is) ∙ f)

-- ---- a sum of two of one sign

unfoldable pub plus : ℕ → ℕ → ℕ
plus a b = grid binary32 (a + b) (2 ^ 149)

one_sign : (s : Bool) (a b c : ℕ) → sum binary32 s a s b c ≡ round binary32 s (a + b) c
unfolding sum
one_sign true a b c = refl
one_sign false a b c = refl

add_value : (x y : Float) (s : Bool) (a b c : ℕ) → 0 < c → HasValue x s a c → HasValue y s b c → add binary32 x y ≡ round binary32 s (a + b) c
unfolding add
add_value nan y s a b c C h k = absurd h
add_value (inf u) y s a b c C h k = absurd h
add_value (fin u m e) nan s a b c C h k = absurd k
add_value (fin u m e) (inf v) s a b c C h k = absurd k
add_value (fin u m e) (fin v n i) s a b c C h k =
    ap₂ (λ (g j : Bool). sum binary32 g (m * up e * down i) j (n * up i * down e) (down e * down i)) h.0 k.0
    ∙ one_sign s (m * up e * down i) (n * up i * down e) (down e * down i)
    ∙ round_same binary32 s (m * up e * down i + n * up i * down e) (down e * down i) (a + b) c (mul-pos (down_pos e) (down_pos i)) C
    (cross (m * up e) (n * up i) (down e) (down i) h.1 k.1)
  where
    cross : (x y d g : ℕ) → x * c ≡ a * d → y * c ≡ b * g → (x * g + y * d) * c ≡ (a + b) * (d * g)
    cross x y d g p q =
        let u : x * c * g ≡ a * d * g = ap (λ (z : ℕ). z * g) p in
        let v : y * c * d ≡ b * g * d = ap (λ (z : ℕ). z * d) q in
        omega arith

module _ (x y : Float) {s : Bool} {a b : ℕ} (h : Units x s a) (k : Units y s b) where
  add_is : add binary32 x y ≡ round binary32 s (a + b) (2 ^ 149)
  add_is = add_value x y s a b (2 ^ 149) (pow_pos 149) h.value k.value

  pub add_units : plus a b < overflow binary32 → Units (add binary32 x y) s (plus a b)
  unfolding plus
  add_units l = subst (λ (z : Float). Units z s (plus a b)) (sym add_is) (rounds s (a + b) (2 ^ 149) l)

  pub add_bounded : finite (add binary32 x y) ≡ true → plus a b < overflow binary32
  unfolding plus
  add_bounded f = bounded s (a + b) (2 ^ 149) (ap finite (sym add_is) ∙ f)

-- ---- a reciprocal

unfoldable pub inverse : ℕ → ℕ
inverse a = grid binary32 (2 ^ 149) a

div_value : (x y : Float) (b d : ℕ) → 0 < b → HasValue x false 1 1 → HasValue y false b d → div binary32 x y ≡ round binary32 false d b
unfolding div
div_value nan y b d B h k = absurd h
div_value (inf s) y b d B h k = absurd h
div_value (fin true m e) y b d B h k = absurd (true≢false h.0)
div_value (fin false m e) nan b d B h k = absurd k
div_value (fin false m e) (inf t) b d B h k = absurd k
div_value (fin false m e) (fin true n i) b d B h k = absurd (true≢false k.0)
div_value (fin false m e) (fin false n i) b d B h k =
    let above : 0 < n * up i * d = subst (λ (z : ℕ). 0 < z) (sym k.1) (mul-pos B (down_pos i)) in
    simp (ne_eqb n 0 (λ z. not_zero n (first_pos n (up i) (first_pos (n * up i) d above)) z))
    (round_same binary32 false (m * up e * down i) (n * up i * down e) d b (mul-pos (first_pos (n * up i) d above) (down_pos e)) B
    (cross (m * up e) (n * up i) (down e) (down i) h.1 k.1))
  where
    not_zero : (n : ℕ) → 0 < n → n ≡ 0 → ⊥
    not_zero n p z = omega arith

    cross : (x y g i : ℕ) → x * 1 ≡ 1 * g → y * d ≡ b * i → x * i * b ≡ d * (y * g)
    cross x y g i p q =
        let u : x * (b * i) ≡ g * (b * i) = ap (λ (z : ℕ). z * (b * i)) (omega arith) in
        let v : y * d * g ≡ b * i * g = ap (λ (z : ℕ). z * g) q in
        omega arith

module _ (x y : Float) {b : ℕ} (B : 0 < b) (h : HasValue x false 1 1) (k : Units y false b) where
  div_is : div binary32 x y ≡ round binary32 false (2 ^ 149) b
  div_is = div_value x y b (2 ^ 149) B h k.value

  pub div_units : finite (div binary32 x y) ≡ true → Units (div binary32 x y) false (inverse b)
  unfolding inverse
  div_units f =
      subst (λ (z : Float). Units z false (inverse b)) (sym div_is)
      (rounds false (2 ^ 149) b (bounded false (2 ^ 149) b (ap finite (sym div_is) ∙ f)))

-- ---- how near they lie

pub times_near : (a b : ℕ) → Rounded (a * b) (2 ^ 149) (times a b)
unfolding times
times_near a b = go (2 ^ 149) (a * b) (times a b) (pow_pos 149) (rounded (a * b) (2 ^ 149 * 2 ^ 149) (mul-pos (pow_pos 149) (pow_pos 149)))
  where
    go : (u n g : ℕ) → 0 < u → Rounded (n * u) (u * u) g → Rounded n u g
    go u n g U h = record { over = le_of_mul-le-mul_right {k = u} (omega arith) U; under = le_of_mul-le-mul_right {k = u} (omega arith) U }

-- a product that rounds to none is at most half of a unit
pub times_away : (a b : ℕ) → times a b ≡ 0 → 2 * (a * b) ≤ 2 ^ 149
unfolding times
times_away a b z = go (2 ^ 149) (a * b) (pow_pos 149) (rounded_away (a * b) (2 ^ 149 * 2 ^ 149) (mul-pos (pow_pos 149) (pow_pos 149)) z)
  where
    go : (u n : ℕ) → 0 < u → 2 * (n * u) ≤ u * u → 2 * n ≤ u
    go u n U h = le_of_mul-le-mul_right {k = u} (omega arith) U

pub plus_near : (a b : ℕ) → RoundedWhole (a + b) (plus a b)
unfolding plus
plus_near a b = rounded_whole (a + b) (2 ^ 149) (a + b) (pow_pos 149) refl

pub inverse_near : (a : ℕ) → 0 < a → Rounded (2 ^ 149 * 2 ^ 149) a (inverse a)
unfolding inverse
inverse_near a A = rounded (2 ^ 149) a A
