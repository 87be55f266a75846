-- A rounded fraction lies near the fraction: at most 2 ^ -24 of it and half of the smallest f32 away; and a whole number of the smallest at most 2 ^ -24
-- of it. What rounds to zero is at most half of the smallest. Assumes nothing.
use Rattle.std.proofs.Common.{◌≡◌, ℕ, ◌+◌, ◌-◌, ◌*◌, ◌/◌, ◌%◌, ◌^◌, ◌<◌, ◌≤◌, not, T, ◌⊎◌, sym, ap, ◌∙◌, subst, inl, inr, le_trans, le_of_eq, mul-le-mul_right}
use Rattle.std.proofs.Common.{mod-lt, eq-zero-or-pos, mul-pos, div-add-mod', le-div_iff_mul-le, zero-mul, mul-one, le_of_mul-le-mul_right, arith, eqb→eq}
use Rattle.std.proofs.Common.{leb→le, pow_pos, pow-add}
use Prim.Native.Nat.{compare, Ordering}
use lib.Dec.{is_le, compare_is_eq, nleb→lt}
use lib.Ieee.{binary32, size, nearest}
use lib.Ieee.Digits.{size_reaches}
use lib.Ieee.Nearest.{closest}
use lib.Ieee.Order.{drop, kept}
use lib.Ieee.Scale.{grid}

-- ---- whole numbers

-- x and y are at most u / 2 apart
abbrev Half : ℕ → ℕ → ℕ → Type 0
Half u x y = (2 * x ≤ 2 * y + u) × (2 * y ≤ 2 * x + u)

by_rest : (n u q r : ℕ) → q * u + r ≡ n → r < u → (o : Ordering)
    → (T (is_le o) → r * 2 ≤ u) → (T (not (is_le o)) → u < r * 2) → (T (compare_is_eq o) → r * 2 ≡ u)
    → Half u (nearest q o * u) n
by_rest n u q r e l Ordering.lt a b c = let h : r * 2 ≤ u = a tt in (omega arith, omega arith)
by_rest n u q r e l Ordering.eq a b c =
    let h : r * 2 ≡ u = c tt in
    let m : q % 2 * u ≤ 1 * u = mul-le-mul_right u (omega arith) in
    (omega arith, omega arith)
by_rest n u q r e l Ordering.gt a b c = let h : u < r * 2 = b tt in (omega arith, omega arith)

nearest_half : (n u : ℕ) → 0 < u → Half u (closest n u * u) n
nearest_half n u U =
    by_rest n u (n / u) (n % u) (div-add-mod' n u) (mod-lt n U) (compare (n % u * 2) u) (leb→le (n % u * 2) u) (nleb→lt (n % u * 2) u) (eqb→eq (n % u * 2) u)

-- ---- a fraction n / c of which the p leading digits are kept

turned : (q c t : ℕ) → q * (c * t) ≡ q * t * c
turned q c t = omega arith

-- no digit is dropped, or n / c has p digits from the last that is kept
last_digit : (p n c : ℕ) → 0 < p → 0 < c → (c * 2 ^ drop p n c ≡ c) ⊎ (2 ^ (p - 1) * (c * 2 ^ drop p n c) ≤ n)
last_digit p n c P C = elim (eq-zero-or-pos k) [
  | inl z ↦ inl (ap (λ (x : ℕ). c * 2 ^ x) z ∙ mul-one c)
  | inr g ↦
      inr (le_trans (le_of_eq (turned (2 ^ (p - 1)) c (2 ^ k)))
      ((le-div_iff_mul-le C).0 (le_trans (le_of_eq (sym (pow-add 2 (p - 1) k))) (size_reaches (n / c) (p - 1 + k) (inside (size (n / c)) P g)))))
]
  where
    k : ℕ
    k = drop p n c

    inside : (z : ℕ) → 0 < p → 0 < z - p → p - 1 + (z - p) < z
    inside z P g = omega arith

kept_half : (p n c : ℕ) → 0 < c → Half (c * 2 ^ drop p n c) (kept p n c * 2 ^ drop p n c * c) n
kept_half p n c C =
    let k = drop p n c in
    subst (λ (x : ℕ). Half (c * 2 ^ k) x n) (turned (kept p n c) c (2 ^ k)) (nearest_half n (c * 2 ^ k) (mul-pos C (pow_pos k)))

-- ---- an f32, in units of the smallest, 2 ^ -149

-- g units for n / c of them
pub record Rounded (n c g : ℕ) : Type 0 where
  pub over : 16777216 * (g * c) ≤ 16777217 * n + 8388608 * c
  pub under : 16777215 * n ≤ 16777216 * (g * c) + 8388608 * c

pub rounded : (a c : ℕ) → 0 < c → Rounded (a * 2 ^ 149) c (grid binary32 a c)
rounded a c C = go (a * 2 ^ 149) (grid binary32 a c) (kept_half 24 (a * 2 ^ 149) c C) (last_digit 24 (a * 2 ^ 149) c (omega arith) C)
  where
    go : (n g : ℕ) {u : ℕ} → Half u (g * c) n → (u ≡ c) ⊎ (8388608 * u ≤ n) → Rounded n c g
    go n g h (inl e) = record { over = omega arith; under = omega arith }
    go n g h (inr l) = record { over = omega arith; under = omega arith }

-- g units for w of them
pub record RoundedWhole (w g : ℕ) : Type 0 where
  pub over : 16777216 * g ≤ 16777217 * w
  pub under : 16777215 * w ≤ 16777216 * g

pub rounded_whole : (a c w : ℕ) → 0 < c → a * 2 ^ 149 ≡ w * c → RoundedWhole w (grid binary32 a c)
rounded_whole a c w C e = go (a * 2 ^ 149) (grid binary32 a c) e (kept_half 24 (a * 2 ^ 149) c C) (last_digit 24 (a * 2 ^ 149) c (omega arith) C)
  where
    -- both are whole, so less than 1 apart is equal
    same : (g : ℕ) → 2 * (g * c) ≤ 2 * (w * c) + c → 2 * (w * c) ≤ 2 * (g * c) + c → g ≡ w
    same g h k =
        let a : 2 * g ≤ 2 * w + 1 = le_of_mul-le-mul_right (omega arith) C in
        let b : 2 * w ≤ 2 * g + 1 = le_of_mul-le-mul_right (omega arith) C in
        omega arith

    go : (n g : ℕ) {u : ℕ} → n ≡ w * c → Half u (g * c) n → (u ≡ c) ⊎ (8388608 * u ≤ n) → RoundedWhole w g
    go n g e h (inl f) = let z = same g (omega arith) (omega arith) in record { over = omega arith; under = omega arith }
    go n g e h (inr l) =
        record {
          over = le_of_mul-le-mul_right {k = c} (omega arith) C;
          under = le_of_mul-le-mul_right {k = c} (omega arith) C;
        }

-- n / c units that round to none are at most half of one
pub rounded_away : (a c : ℕ) → 0 < c → grid binary32 a c ≡ 0 → 2 * (a * 2 ^ 149) ≤ c
rounded_away a c C z =
    let n = a * 2 ^ 149 in
    go n (grid binary32 a c * c) (ap (λ (g : ℕ). g * c) z ∙ zero-mul c) (kept_half 24 n c C) (last_digit 24 n c (omega arith) C)
  where
    go : (n g : ℕ) {u : ℕ} → g ≡ 0 → Half u g n → (u ≡ c) ⊎ (8388608 * u ≤ n) → 2 * n ≤ c
    go n g e h (inl l) = omega arith
    go n g e h (inr l) = omega arith
