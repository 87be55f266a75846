-- x lies between the squares of the two midpoints beside the root, said of bits. Assumes nothing.
use mathlib.Core.Path.{◌≡◌, refl, sym, ap, ◌∙◌, subst}
use mathlib.Core.Logic.{inl, inr}
use mathlib.Core.Bool.{Bool, true, false, not}
use Prim.Native.Nat.{ℕ, zero, suc, ◌+◌, ◌-◌, ◌*◌, ◌/◌, ◌%◌, ◌^◌, ◌≤◌, ◌<◌}
use native.Mathlib.Nat.{eq-or-lt_of_le, mul_assoc, mul-le-mul_right, mul-pos, add_assoc, pow-suc}
use native.Mathlib.Omega.{arith}
use lib.Dec.{T, ltb, ltb→lt, nltb→le}
use lib.Pow.{pow-add, pow_pos}
use lib.Count.{count_leading_zeros, leading_le}
use borrow.Author.Tests.{eq-eqb, ne_eqb}
use Rattle.root.specs.Root.{nearest_root_of, significand_of, exponent_of, squared_of, root_bits_of}
use Rattle.root.proofs.Whole.{Near}
use Rattle.root.proofs.Scaled.{Finite, low, high, zeros_ge, exponent_range, squared_range, squared_near, digits_range}
use Rattle.root.proofs.Patterns.{size_at, size_low, size_high, size_at_lem}

-- ---- x, in squaredOf units, is squaredOf * 4 ^ k

shift : (a i j k : ℕ) → i + j ≡ k → a * 2 ^ i * 2 ^ j ≡ a * 2 ^ k
shift a i j k e = mul_assoc a (2 ^ i) (2 ^ j) ∙ ap (λ (x : ℕ). a * x) (sym (pow-add 2 i j) ∙ ap (λ (x : ℕ). 2 ^ x) e)

as_significand : (b : ℕ) → Finite b → size_at b * 2 ^ 149 ≡ significand_of b * 2 ^ (exponent_of b + 23)
as_significand b f = go (ltb b 8388608) (ltb→lt b 8388608) (nltb→le b 8388608)
  where
    places : (z : ℕ) → 8 ≤ z → z ≤ 32 → z - 8 + (134 - z + 23) ≡ 149
    places z h k = omega arith

    field : 8388608 ≤ b → b / 8388608 - 1 + 149 ≡ 125 + b / 8388608 + 23
    field h = omega arith

    go : (t : Bool) → (T t → b < 8388608) → (T (not t) → 8388608 ≤ b) → size_at b * 2 ^ 149 ≡ significand_of b * 2 ^ (exponent_of b + 23)
    go true l g =
        let h : b < 8388608 = l tt in
        let z = count_leading_zeros 32 b in
        ap (λ (x : ℕ). x * 2 ^ 149) (size_low b (omega arith))
        ∙ sym (shift b (z - 8) (134 - z + 23) 149 (places z (zeros_ge b f.0 h) (leading_le 32 b)))
        ∙ ap (λ (x : ℕ). x * 2 ^ (134 - z + 23)) (sym (low b h).0)
        ∙ ap (λ (x : ℕ). significand_of b * 2 ^ (x + 23)) (sym (low b h).1)
    go false l g =
        let h : 8388608 ≤ b = g tt in
        ap (λ (x : ℕ). x * 2 ^ 149) (size_high b h)
        ∙ shift (8388608 + b % 8388608) (b / 8388608 - 1) 149 (125 + b / 8388608 + 23) (field h)
        ∙ ap (λ (x : ℕ). x * 2 ^ (125 + b / 8388608 + 23)) (sym (high b h).0)
        ∙ ap (λ (x : ℕ). significand_of b * 2 ^ (x + 23)) (sym (high b h).1)

halves : (a s j k : ℕ) → s + (k + k) ≡ j → a * 2 ^ j ≡ a * 2 ^ s * (2 ^ k * 2 ^ k)
halves a s j k e = sym (shift a s (k + k) j e) ∙ ap (λ (x : ℕ). a * 2 ^ s * x) (pow-add 2 k k)

as_square : (b : ℕ) → significand_of b * 2 ^ (exponent_of b + 23) ≡ squared_of b * (2 ^ (exponent_of b / 2) * 2 ^ (exponent_of b / 2))
unfolding squared_of
as_square b = go (exponent_of b % 2) refl
  where
    even : (p : ℕ) → p % 2 ≡ 0 → 23 + (p / 2 + p / 2) ≡ p + 23
    even p h = omega arith

    uneven : (p r : ℕ) → p % 2 ≡ suc r → 24 + (p / 2 + p / 2) ≡ p + 23
    uneven p r h = omega arith

    not_even : (r : ℕ) → exponent_of b % 2 ≡ suc r → exponent_of b % 2 ≡ 0 → ⊥
    not_even r h e = omega arith

    go : (r : ℕ) → exponent_of b % 2 ≡ r → significand_of b * 2 ^ (exponent_of b + 23) ≡ squared_of b * (2 ^ (exponent_of b / 2) * 2 ^ (exponent_of b / 2))
    go zero h = simp (eq-eqb (exponent_of b % 2) 0 h) (halves (significand_of b) 23 (exponent_of b + 23) (exponent_of b / 2) (even (exponent_of b) h))
    go (suc r) h =
        simp (ne_eqb (exponent_of b % 2) 0 (not_even r h)) (halves (significand_of b) 24 (exponent_of b + 23) (exponent_of b / 2) (uneven (exponent_of b) r h))

-- ---- the midpoints, with P for 2 ^ k

under_mid : (n q P : ℕ) → 0 < P → n ≤ q * (q + 1) → 4 * (n * (P * P)) < (q * P + (q + 1) * P) * (q * P + (q + 1) * P)
under_mid n q P p h =
    let s : 0 < P * P = mul-pos p p in
    let m : n * (P * P) ≤ q * (q + 1) * (P * P) = mul-le-mul_right (P * P) h in
    omega arith

-- q is r + 1
over_mid : (n r P : ℕ) → 0 < P → (r + 1) * r < n → (r * P + (r + 1) * P) * (r * P + (r + 1) * P) < 4 * (n * (P * P))
over_mid n r P p h =
    let s : 0 < P * P = mul-pos p p in
    let m : ((r + 1) * r + 1) * (P * P) ≤ n * (P * P) = mul-le-mul_right (P * P) (omega arith) in
    omega arith

-- below a power of two the f32s stand twice as dense
over_edge : (n P : ℕ) → 0 < P → 2 ^ 46 ≤ n → (16777215 * P + 8388608 * (P * 2)) * (16777215 * P + 8388608 * (P * 2)) < 4 * (n * (P * 2 * (P * 2)))
over_edge n P p h =
    let s : 0 < P * P = mul-pos p p in
    let m : 2 ^ 46 * (P * P) ≤ n * (P * P) = mul-le-mul_right (P * P) h in
    omega arith

-- ---- the same of the bits

abbrev pub Mid : ℕ → ℕ → Type 0
Mid b c =
    ((size_at (c - 1) + size_at c) * (size_at (c - 1) + size_at c) < 4 * (size_at b * 2 ^ 149)) ×
    (4 * (size_at b * 2 ^ 149) < (size_at c + size_at (c + 1)) * (size_at c + size_at (c + 1)))

module _ (b : ℕ) (f : Finite b) where
  pub k : ℕ
  k = exponent_of b / 2

  pub q : ℕ
  q = nearest_root_of (squared_of b)

  k_pos : 1 ≤ k
  unfolding k
  k_pos = omega (arith, (exponent_range b f).0)

  pub k_small : k ≤ 189
  unfolding k
  k_small = omega (arith, (exponent_range b f).1)

  pub squared_is : size_at b * 2 ^ 149 ≡ squared_of b * (2 ^ k * 2 ^ k)
  unfolding k
  squared_is = as_significand b f ∙ as_square b

  bits_is : root_bits_of b ≡ k * 8388608 + q
  unfolding k q root_bits_of
  bits_is = refl

  pub q_near : Near (squared_of b) q
  unfolding q
  q_near = squared_near b f

  pub q_range : (8388608 ≤ q) × (q < 16777216)
  unfolding q
  q_range = digits_range b f

  pub at : size_at (root_bits_of b) ≡ q * 2 ^ k
  at = ap size_at bits_is ∙ size_at_lem k q q_range.0 (omega (arith, q_range.1))

  at_next : size_at (root_bits_of b + 1) ≡ (q + 1) * 2 ^ k
  at_next =
      ap (λ (x : ℕ). size_at (x + 1)) bits_is ∙ ap size_at (add_assoc (k * 8388608) q 1) ∙ size_at_lem k (q + 1) (omega (arith, q_range.0))
      (omega (arith, q_range.1))

  under_holds
      : 4 * (size_at b * 2 ^ 149) < (size_at (root_bits_of b) + size_at (root_bits_of b + 1)) * (size_at (root_bits_of b) + size_at (root_bits_of b + 1))
  under_holds = rw (squared_is, at, at_next) (under_mid (squared_of b) q (2 ^ k) (pow_pos k) q_near.1)

  -- q is r + 1, and r has 24 digits too
  inside : 8388608 < q
      → (size_at (root_bits_of b - 1) + size_at (root_bits_of b)) * (size_at (root_bits_of b - 1) + size_at (root_bits_of b)) < 4 * (size_at b * 2 ^ 149)
  inside g =
      let r = q - 1 in
      let e : r + 1 ≡ q = omega arith in
      let before : size_at (root_bits_of b - 1) ≡ r * 2 ^ k =
      ap (λ (x : ℕ). size_at (x - 1)) bits_is ∙ ap size_at (back (k * 8388608) q (omega arith)) ∙ size_at_lem k r (omega arith) (omega (arith, q_range.1)) in
      let n : (r + 1) * r < squared_of b = subst (λ (x : ℕ). x * r < squared_of b) (sym e) q_near.0 in
      rw (squared_is, before, at) (subst (λ (x : ℕ). (r * 2 ^ k + x * 2 ^ k) * (r * 2 ^ k + x * 2 ^ k) < 4 * (squared_of b * (2 ^ k * 2 ^ k))) e
      (over_mid (squared_of b) r (2 ^ k) (pow_pos k) n))
    where
      back : (a q : ℕ) → 1 ≤ q → a + q - 1 ≡ a + (q - 1)
      back a q h = omega arith

  edge : 8388608 ≡ q
      → (size_at (root_bits_of b - 1) + size_at (root_bits_of b)) * (size_at (root_bits_of b - 1) + size_at (root_bits_of b)) < 4 * (size_at b * 2 ^ 149)
  edge g =
      let j = k - 1 in
      let e : suc j ≡ k = omega (arith, k_pos) in
      let twice : 2 ^ k ≡ 2 ^ j * 2 = ap (λ (x : ℕ). 2 ^ x) (sym e) ∙ pow-suc 2 j in
      let before : size_at (root_bits_of b - 1) ≡ 16777215 * 2 ^ j =
      ap (λ (x : ℕ). size_at (x - 1)) bits_is ∙ ap size_at (back k q k_pos (sym g)) ∙ size_at_lem j 16777215 (omega arith) (omega arith) in
      let here : size_at (root_bits_of b) ≡ 8388608 * (2 ^ j * 2) = at ∙ ap (λ (x : ℕ). x * 2 ^ k) (sym g) ∙ ap (λ (x : ℕ). 8388608 * x) twice in
      let all : size_at b * 2 ^ 149 ≡ squared_of b * (2 ^ j * 2 * (2 ^ j * 2)) = squared_is ∙ ap (λ (x : ℕ). squared_of b * (x * x)) twice in
      rw (all, before, here) (over_edge (squared_of b) (2 ^ j) (pow_pos j) (squared_range b f).0)
    where
      back : (k q : ℕ) → 1 ≤ k → q ≡ 8388608 → k * 8388608 + q - 1 ≡ (k - 1) * 8388608 + 16777215
      back k q h e = omega arith

  over_holds : (size_at (root_bits_of b - 1) + size_at (root_bits_of b)) * (size_at (root_bits_of b - 1) + size_at (root_bits_of b)) < 4 * (size_at b * 2 ^ 149)
  over_holds = elim (eq-or-lt_of_le q_range.0) [ inl e ↦ edge e | inr l ↦ inside l ]

  pub mid : Mid b (root_bits_of b)
  mid = (over_holds, under_holds)
