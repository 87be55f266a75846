-- The bits of a finite number above zero: `significand_of` has 24 digits, and `squared_of` lies from 2 ^ 46 to 2 ^ 48 - 2 ^ 24. Assumes nothing.
use mathlib.Core.Path.{◌≡◌, sym, ap, ◌∙◌, subst}
use mathlib.Core.Bool.{Bool, true, false, not, cond}
use Prim.Native.Nat.{ℕ, suc, ◌+◌, ◌-◌, ◌*◌, ◌/◌, ◌%◌, ◌^◌, ◌≤◌, ◌<◌}
use native.Mathlib.Nat.{mul-le-mul, lt_of_not-le, lt_of_lt_of_le, le_trans, le_of_eq, mul-le-mul_right, mul-lt-mul_of_pos_right}
use native.Mathlib.Omega.{arith}
use lib.Dec.{T, ltb, eqb, ltb→lt, nltb→le}
use borrow.Author.Tests.{lt-ltb, le-ltb}
use lib.Pow.{pow-add, pow_pos, pow_mono}
use lib.Count.{count_leading_zeros, leading_top}
use Rattle.root.specs.Root.{nearest_root_of, significand_of, exponent_of, squared_of, root_bits_of}
use Rattle.root.proofs.Whole.{Near, nearest_near}

-- ---- below 2 ^ 23, where the number is subnormal

-- b has j + 1 digits, and is moved up by 23 - j places
moved : (b : ℕ) → 1 ≤ b → b < 8388608 → (j : ℕ) × (count_leading_zeros 32 b ≡ 31 - j) × (j < 23) × (8388608 ≤ b * 2 ^ (23 - j)) × (b * 2 ^ (23 - j) < 16777216)
moved b p h =
    let l = leading_top 32 b p (wide b h) in
    let j = l.0 in
    let j-lt : j < 23 = lt_of_not-le (λ (g : 23 ≤ j). clash (2 ^ j) (pow_mono g) l.2 h) in (
      j,
      count (count_leading_zeros 32 b) j l.1,
      j-lt,
      le_trans (le_of_eq (ap (λ (x : ℕ). 2 ^ x) (sym (whole j j-lt)) ∙ pow-add 2 j (23 - j))) (mul-le-mul_right (2 ^ (23 - j)) l.2),
      lt_of_lt_of_le (mul-lt-mul_of_pos_right l.3 (pow_pos (23 - j)))
          (le_of_eq (sym (pow-add 2 (suc j) (23 - j)) ∙ ap (λ (x : ℕ). 2 ^ x) (whole_up j j-lt))),
    )
  where
    wide : (b : ℕ) → b < 8388608 → b < 2 ^ 32
    wide b h = omega arith

    clash : (q : ℕ) → 8388608 ≤ q → q ≤ b → b < 8388608 → ⊥
    clash q a c d = omega arith

    count : (z j : ℕ) → z + suc j ≡ 32 → z ≡ 31 - j
    count z j e = omega arith

    whole : (j : ℕ) → j < 23 → j + (23 - j) ≡ 23
    whole j g = omega arith

    whole_up : (j : ℕ) → j < 23 → suc j + (23 - j) ≡ 24
    whole_up j g = omega arith

pub zeros_ge : (b : ℕ) → 1 ≤ b → b < 8388608 → 8 ≤ count_leading_zeros 32 b
zeros_ge b p h = let m = moved b p h in omega (arith, m.1, m.2)

places_of : (b : ℕ) (p : 1 ≤ b) (h : b < 8388608) → count_leading_zeros 32 b - 8 ≡ 23 - (moved b p h).0
places_of b p h = let m = moved b p h in omega (arith, m.1, m.2)

pub moved_ge : (b : ℕ) → 1 ≤ b → b < 8388608 → 8388608 ≤ b * 2 ^ (count_leading_zeros 32 b - 8)
moved_ge b p h = subst (λ (x : ℕ). 8388608 ≤ b * 2 ^ x) (sym (places_of b p h)) (moved b p h).3

moved_small : (b : ℕ) → 1 ≤ b → b < 8388608 → b * 2 ^ (count_leading_zeros 32 b - 8) < 16777216
moved_small b p h = subst (λ (x : ℕ). b * 2 ^ x < 16777216) (sym (places_of b p h)) (moved b p h).4

pub moved_lt : (b : ℕ) → 1 ≤ b → b < 8388608 → b * 2 ^ (count_leading_zeros 32 b - 8) < 4294967296
moved_lt b p h = omega (arith, moved_small b p h)

-- ---- all

abbrev pub Finite : ℕ → Type 0
Finite b = (1 ≤ b) × (b < 0x7f80_0000)

pub low : (b : ℕ) → b < 8388608 → (significand_of b ≡ b * 2 ^ (count_leading_zeros 32 b - 8)) × (exponent_of b ≡ 134 - count_leading_zeros 32 b)
unfolding significand_of exponent_of
low b h = (simp (lt-ltb b 8388608 h), simp (lt-ltb b 8388608 h))

pub high : (b : ℕ) → 8388608 ≤ b → (significand_of b ≡ 8388608 + b % 8388608) × (exponent_of b ≡ 125 + b / 8388608)
unfolding significand_of exponent_of
high b h = (simp (le-ltb b 8388608 h), simp (le-ltb b 8388608 h))

pub significand_range : (b : ℕ) → Finite b → (8388608 ≤ significand_of b) × (significand_of b < 16777216)
unfolding significand_of
significand_range b f = go (ltb b 8388608) (ltb→lt b 8388608)
  where
    go : (t : Bool) → (T t → b < 8388608)
        → (8388608 ≤ cond t (b * 2 ^ (count_leading_zeros 32 b - 8)) (8388608 + b % 8388608)) ×
        (cond t (b * 2 ^ (count_leading_zeros 32 b - 8)) (8388608 + b % 8388608) < 16777216)
    go true h = (moved_ge b f.0 (h tt), moved_small b f.0 (h tt))
    go false h = (omega arith, omega arith)

pub exponent_range : (b : ℕ) → Finite b → (103 ≤ exponent_of b) × (exponent_of b < 380)
unfolding exponent_of
exponent_range b f = go (ltb b 8388608) (ltb→lt b 8388608) (nltb→le b 8388608)
  where
    go : (t : Bool) → (T t → b < 8388608) → (T (not t) → 8388608 ≤ b)
        → (103 ≤ cond t (134 - count_leading_zeros 32 b) (125 + b / 8388608)) × (cond t (134 - count_leading_zeros 32 b) (125 + b / 8388608) < 380)
    go true h k = let m = moved b f.0 (h tt) in (omega (arith, m.1, m.2), omega (arith, m.1, m.2))
    go false h k = let l : 8388608 ≤ b = k tt in (omega (arith, f.1), omega (arith, f.1))

pub squared_range : (b : ℕ) → Finite b → (2 ^ 46 ≤ squared_of b) × (squared_of b ≤ 2 ^ 48 - 2 ^ 24)
unfolding squared_of
squared_range b f = go (eqb (exponent_of b % 2) 0) (significand_range b f)
  where
    go : (t : Bool) → (8388608 ≤ significand_of b) × (significand_of b < 16777216)
        → (2 ^ 46 ≤ cond t (significand_of b * 8388608) (significand_of b * 16777216)) ×
        (cond t (significand_of b * 8388608) (significand_of b * 16777216) ≤ 2 ^ 48 - 2 ^ 24)
    go true h = (omega arith, omega arith)
    go false h = (omega arith, omega arith)

-- ---- the root

pub squared_near : (b : ℕ) → Finite b → Near (squared_of b) (nearest_root_of (squared_of b))
squared_near b f = let s = squared_range b f in nearest_near (squared_of b) (omega (arith, s.0)) (omega (arith, s.1))

-- the root's significand has 24 digits
pub root_range : (n q : ℕ) → 2 ^ 46 ≤ n → n ≤ 2 ^ 48 - 2 ^ 24 → Near n q → (2 ^ 23 ≤ q) × (q < 2 ^ 24)
root_range n q lo hi h = (
  not_less (λ (g : q < 2 ^ 23). small (mul-le-mul (below g) (at g)) h.1 lo),
  lt_of_not-le (λ (g : 2 ^ 24 ≤ q). large (mul-le-mul g (above g)) h.0 hi),
)
  where
    below : q < 2 ^ 23 → q ≤ 2 ^ 23 - 1
    below g = omega arith

    at : q < 2 ^ 23 → q + 1 ≤ 2 ^ 23
    at g = omega arith

    small : q * (q + 1) ≤ (2 ^ 23 - 1) * 2 ^ 23 → n ≤ q * (q + 1) → 2 ^ 46 ≤ n → ⊥
    small a b c = omega arith

    above : 2 ^ 24 ≤ q → 2 ^ 24 - 1 ≤ q - 1
    above g = omega arith

    large : 2 ^ 24 * (2 ^ 24 - 1) ≤ q * (q - 1) → q * (q - 1) < n → n ≤ 2 ^ 48 - 2 ^ 24 → ⊥
    large a b c = omega arith

    not_less : ((q < 2 ^ 23) → ⊥) → 2 ^ 23 ≤ q
    not_less f = omega arith

pub digits_range : (b : ℕ) → Finite b → (2 ^ 23 ≤ nearest_root_of (squared_of b)) × (nearest_root_of (squared_of b) < 2 ^ 24)
digits_range b f = let s = squared_range b f in root_range (squared_of b) (nearest_root_of (squared_of b)) s.0 s.1 (squared_near b f)

-- the root's bits are those of a finite number above zero, and so are their neighbours
pub root_bits_range : (b : ℕ) → Finite b → (2 ≤ root_bits_of b) × (root_bits_of b + 1 < 0x7f80_0000)
unfolding root_bits_of
root_bits_range b f = let p = exponent_range b f in let d = digits_range b f in (omega (arith, p.0, d.0), omega (arith, p.1, d.1))
