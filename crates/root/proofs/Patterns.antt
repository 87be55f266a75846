-- The bit patterns of the finite f32s that are not negative: each one's size in units of 2 ^ -149, and that it grows with the pattern. Assumes nothing.
use mathlib.Core.Path.{◌≡◌, refl, sym, ap, ◌∙◌, subst}
use mathlib.Core.Logic.{inl, inr}
use mathlib.Core.Bool.{Bool, true, false, not, ◌&&◌, true≢false}
use Prim.Native.Nat.{ℕ, zero, suc, ◌+◌, ◌-◌, ◌*◌, ◌/◌, ◌%◌, ◌^◌, ◌≤◌, ◌<◌}
use native.Mathlib.Nat.{eq-or-lt_of_le, lt_irrefl, lt_of_lt_of_le, le_refl, le_trans, le_of_eq, le_of_lt}
use native.Mathlib.Nat.{mul-one, zero-mul, mul-pos, mul_right_comm, mul-div_cancel, mul-lt-mul_of_pos_right, div-lt_iff_lt-mul, pow-suc}
use native.Mathlib.Decide.{dec_lt, le_ind}
use native.Mathlib.Numerals.{add-one, lt-add-one}
use borrow.Author.Tests.{le-ltb, lt-leb, ne_eqb}
use native.Mathlib.Omega.{arith}
use lib.IntN.{ℤ, pos}
use lib.Dec.{T, ltb, leb, eqb, ltb→lt, lt→ltb}
use lib.Pow.{pow_pos}
use lib.Ieee.{Float, nan, inf, fin, binary32, up, down, size, fits, of_fields, of_bits, to_bits, nan_bits}
use lib.Ieee.Digits.{size-le}
use lib.Ieee.Fits.{and_r, down_pos, kept-lt}
use lib.Ieee.Bits.{of_bits-to_bits, nan_bits_above}
use lib.Ieee.Exact.{HasValue, odd_sign}
use lib.Ieee.Positive.{positive}
use Rattle.root.specs.Root.{size_of}

-- a number by its fields, in units of 2 ^ -149: x is the exponent's, t the digits'
abbrev size_by : ℕ → ℕ → ℕ
size_by zero t = t
size_by (suc x) t = (8388608 + t) * 2 ^ x

-- the number with the bits b
abbrev pub size_at : ℕ → ℕ
size_at b = size_by (b / 8388608) (b % 8388608)

-- ---- what a pattern is read as

by_fields : (s : Bool) (x t : ℕ) → x < 255 → HasValue (of_fields binary32 s x t) s (size_by x t) (2 ^ 149)
unfolding of_fields
by_fields s zero t h = rw mul-one at (odd_sign 24 s t 0 149)
by_fields s (suc x) t h = simp (ne_eqb (suc x) 255 (λ e. omega arith)) (odd_sign 24 s (8388608 + t) x 149)

pub read : (b : ℕ) → b < 0x7f80_0000 → HasValue (of_bits binary32 b) false (size_at b) (2 ^ 149)
unfolding of_bits
read b h =
    let unsigned : leb 0x8000_0000 b ≡ false = lt-leb 0x8000_0000 b (omega arith) in
    let whole : b % 0x8000_0000 ≡ b = omega arith in
    simp (unsigned, whole) (by_fields false (b / 8388608) (b % 8388608) (omega arith))

pub size_of_value : (x : Float) (a : ℕ) → HasValue x false a (2 ^ 149) → size_of x ≡ a
size_of_value nan a h = absurd h
size_of_value (inf s) a h = absurd h
size_of_value (fin s m e) a h = ap (λ (y : ℕ). y / down e) h.1 ∙ mul-div_cancel a (down_pos e)

pub size_of_bits : (b : ℕ) → b < 0x7f80_0000 → size_of (of_bits binary32 b) ≡ size_at b
size_of_bits b h = size_of_value (of_bits binary32 b) (size_at b) (read b h)

positive_value : (x : Float) (a : ℕ) → 0 < a → HasValue x false a (2 ^ 149) → T (positive x)
positive_value nan a p h = absurd h
positive_value (inf s) a p h = absurd h
positive_value (fin true m e) a p h = absurd (true≢false h.0)
positive_value (fin false zero e) a p h = absurd (lt_irrefl 0 (subst (λ (x : ℕ). 0 < x) (sym h.1 ∙ zero_left (up e)) (mul-pos p (down_pos e))))
  where
    zero_left : (u : ℕ) → 0 * u * 2 ^ 149 ≡ 0
    zero_left u = ap (λ (x : ℕ). x * 2 ^ 149) (zero-mul u) ∙ zero-mul (2 ^ 149)
positive_value (fin false (suc m) e) a p h = lt→ltb 0 (suc m) (omega arith)

-- ---- the size grows with the pattern

fields : (b x t : ℕ) → b ≡ x * 8388608 + t → t < 8388608 → size_at b ≡ size_by x t
fields b x t e h =
    let field : b / 8388608 ≡ x = omega arith in
    let digits : b % 8388608 ≡ t = omega arith in
    rw (field, digits)

pub size_high : (b : ℕ) → 8388608 ≤ b → size_at b ≡ (8388608 + b % 8388608) * 2 ^ (b / 8388608 - 1)
size_high b h = fields b (suc (b / 8388608 - 1)) (b % 8388608) (omega arith) (omega arith)

-- 2 ^ k times a q of 24 digits, or 2 ^ 24
pub size_at_lem : (k q : ℕ) → 8388608 ≤ q → q ≤ 16777216 → size_at (k * 8388608 + q) ≡ q * 2 ^ k
size_at_lem k q l h = elim (eq-or-lt_of_le h) [
  | inl e ↦ fields (k * 8388608 + q) (suc (suc k)) 0 (omega arith) (omega arith) ∙ next (2 ^ k) e (pow-suc 2 k)
  | inr g ↦ fields (k * 8388608 + q) (suc k) (q - 8388608) (omega arith) (omega arith) ∙ ap (λ (x : ℕ). x * 2 ^ k) (same g)
]
  where
    next : (p : ℕ) → q ≡ 16777216 → 2 ^ suc k ≡ p * 2 → (8388608 + 0) * 2 ^ suc k ≡ q * p
    next p e f = subst (λ (x : ℕ). (8388608 + 0) * 2 ^ suc k ≡ x * p) (sym e) (omega arith)

    same : q < 16777216 → 8388608 + (q - 8388608) ≡ q
    same g = omega arith

-- up to 2 ^ 23 the pattern is the size
pub size_low : (b : ℕ) → b ≤ 8388608 → size_at b ≡ b
size_low b h = elim (eq-or-lt_of_le h) [
  | inl e ↦ subst (λ (x : ℕ). size_at x ≡ x) (sym e) refl
  | inr l ↦ fields b 0 b (omega arith) l
]

-- the next pattern is the next size up
pub size_grows : (b : ℕ) → size_at b < size_at (b + 1)
size_grows b = elim (dec_lt b 8388608) [
  | yes l ↦ low (size_low b (le_of_lt l)) (size_low (b + 1) (omega arith))
  | no n ↦
      let g : 8388608 ≤ b = omega arith in
      let k = b / 8388608 - 1 in
      let q = 8388608 + b % 8388608 in
      let here : size_at b ≡ q * 2 ^ k = ap size_at (parts g) ∙ size_at_lem k q (omega arith) (omega arith) in
      let next : size_at (b + 1) ≡ (q + 1) * 2 ^ k = ap size_at (parts_next g) ∙ size_at_lem k (q + 1) (omega arith) (omega arith) in
      rw (here, next) (mul-lt-mul_of_pos_right (lt-add-one q) (pow_pos k))
]
  where
    low : size_at b ≡ b → size_at (b + 1) ≡ b + 1 → size_at b < size_at (b + 1)
    low e f = omega (arith, e, f)

    parts : 8388608 ≤ b → b ≡ (b / 8388608 - 1) * 8388608 + (8388608 + b % 8388608)
    parts g = omega arith

    parts_next : 8388608 ≤ b → b + 1 ≡ (b / 8388608 - 1) * 8388608 + (8388608 + b % 8388608 + 1)
    parts_next g = omega arith

pub size_mono : (b c : ℕ) → b ≤ c → size_at b ≤ size_at c
size_mono b c h =
    le_ind (λ (x : ℕ). size_at b ≤ size_at x) (le_refl (size_at b))
    (λ x l i. le_trans i (subst (λ (y : ℕ). size_at x ≤ size_at y) (add-one x) (le_of_lt (size_grows x)))) c h

pub positive_bits : (b : ℕ) → 1 ≤ b → b < 0x7f80_0000 → T (positive (of_bits binary32 b))
positive_bits b p h = positive_value (of_bits binary32 b) (size_at b) (le_trans (le_of_eq (sym (size_low 1 (omega arith)))) (size_mono 1 b p)) (read b h)

-- ---- the pattern of a finite number above zero

-- below the infinity's
pub bits_lt : (m : ℕ) (e : ℤ) → T (fits binary32 (fin false (suc m) e)) → to_bits binary32 (fin false (suc m) e) < 0x7f80_0000
unfolding fits to_bits
bits_lt m e t =
    let n = suc m * up e * 2 ^ 149 / down e in
    let l : suc m * up e < 2 ^ 128 * down e =
    ltb→lt (suc m * up e) (2 ^ 128 * down e)
    (and_r (eqb (suc m % 2) 1 && ltb (suc m) (2 ^ 24) && leb (down e) (2 ^ 149)) (ltb (suc m * up e) (2 ^ 128 * down e)) t) in
    let n-lt : n < 2 ^ 277 = (div-lt_iff_lt-mul (down_pos e)).1 (scaled (suc m * up e) (down e) l) in
    bound (size n) (n / 2 ^ (size n - 24)) (size-le n 277 n-lt) (kept-lt 24 n)
  where
    scaled : (a d : ℕ) → a < 2 ^ 128 * d → a * 2 ^ 149 < 2 ^ 277 * d
    scaled a d h = lt_of_lt_of_le (mul-lt-mul_of_pos_right h (pow_pos 149)) (le_of_eq (mul_right_comm (2 ^ 128) d (2 ^ 149)))

    bound : (z q : ℕ) → z ≤ 277 → q < 2 ^ 24 → 0 + (z - 24) * 8388608 + q < 0x7f80_0000
    bound z q h l = omega arith

zero_is : of_bits binary32 0 ≡ fin false 0 (pos 0)
unfolding of_bits
zero_is = refl

-- above zero's
pub bits_pos : (m : ℕ) (e : ℤ) → T (fits binary32 (fin false (suc m) e)) → 1 ≤ to_bits binary32 (fin false (suc m) e)
bits_pos m e t = go (to_bits binary32 (fin false (suc m) e)) (of_bits-to_bits binary32 (fin false (suc m) e) t)
  where
    go : (b : ℕ) → of_bits binary32 b ≡ fin false (suc m) e → 1 ≤ b
    go zero h = let z : zero ≡ suc m = cc (zero_is) in omega arith
    go (suc b) h = omega arith

-- a pattern below the infinity's is no NaN's
pub no_nan_bits : (b : ℕ) → b < 0x7f80_0000 → T (not (nan_bits binary32 b))
no_nan_bits b h = subst (λ (t : Bool). T (not t)) (sym (nan_bits_above binary32 b ∙ le-ltb 0x7f80_0000 (b % 0x8000_0000) (low b h))) tt
  where
    low : (b : ℕ) → b < 0x7f80_0000 → b % 0x8000_0000 ≤ 0x7f80_0000
    low b h = omega arith
