-- The kit's digits, as few as hold the number, are the number in decimal; and how many they are at most. Assumes nothing.
use Prim.Native.Nat.{ℕ, zero, suc, ◌+◌, ◌-◌, ◌/◌, ◌%◌, ◌^◌, ◌≤◌, ◌<◌}
use native.Mathlib.Omega.{arith}
use native.Mathlib.Nat.{pow-succ', one-le-pow, pow-le-pow_right}
use native.Mathlib.Decide.{dec_lt}
use mathlib.Core.Path.{◌≡◌, ap, ap₂, sym, subst, ◌∙◌}
use mathlib.Core.List.{List, [], ◌∷◌, ◌++◌}
use lib.ListN.{length, length-append}
use borrow.Author.Tests.{lt-ltb, le-ltb}
use Rattle.io.specs.Digits.{hex_digit_ascii, last_digits, IsDigitCount}
use Rattle.text.specs.Text.{decimal_in, decimal_of}

glyph_is : (n : ℕ) → hex_digit_ascii (n % 10) ≡ n % 10 + 48
glyph_is n = rw (lt-ltb (n % 10) 10 (omega arith)) (omega arith)

one_digit : (k n : ℕ) → n < 10 → decimal_in (suc k) n ≡ (n + 48) ∷ []
one_digit k n h = rw (lt-ltb n 10 h)

more_digits : (k n : ℕ) → 10 ≤ n → decimal_in (suc k) n ≡ decimal_in k (n / 10) ++ ((n % 10 + 48) ∷ [])
more_digits k n h = rw (le-ltb n 10 h)

-- k digits are the fewest, and there is room for them
in_decimal : (k room n : ℕ) → suc k ≤ room → n < 10 ^ suc k → (1 ≤ k → 10 ^ k ≤ n) → last_digits 10 (suc k) n ≡ decimal_in room n
in_decimal zero zero n r h l = absurd (omega arith)
in_decimal zero (suc room) n r h l =
    let m : n < 10 = omega arith in
    ap (λ (d : ℕ). d ∷ []) (glyph_is n ∙ omega arith) ∙ sym (one_digit room n m)
in_decimal (suc k) zero n r h l = absurd (omega arith)
in_decimal (suc k) (suc room) n r h l =
    let big : 10 ^ suc k ≤ n = l (omega arith) in
    let a = pow-succ' 10 (suc k) in
    let b = pow-succ' 10 k in
    let c : 1 ≤ 10 ^ k = one-le-pow k 10 (omega arith) in
    ap₂ (λ (x : List ℕ) (d : ℕ). x ++ (d ∷ []))
    (in_decimal k room (n / 10) (omega arith) (omega (arith, a)) (λ g. omega (arith, b)))
    (glyph_is n)
    ∙ sym (more_digits room n (omega (arith, b)))

is_decimal : (k n : ℕ) → k ≤ 20 → IsDigitCount 10 1 n k → last_digits 10 k n ≡ decimal_of n
unfolding decimal_of
is_decimal zero n r f = absurd (omega (arith, f.0))
is_decimal (suc k) n r f =
    let e : suc k - 1 ≡ k = omega arith in
    in_decimal k 20 n r f.1 (λ g. subst (λ (m : ℕ). 10 ^ m ≤ n) e (f.2 (omega arith)))

-- ---- how many digits

-- a number of 64 bits has no more than 20
twenty : (k n : ℕ) → n < 18446744073709551616 → IsDigitCount 10 1 n k → k ≤ 20
twenty k n h f = go (dec_lt 20 k)
  where
    go : Dec (20 < k) → k ≤ 20
    go (no l) = omega arith
    go (yes l) =
        let a : 10 ^ 20 ≤ 10 ^ (k - 1) = pow-le-pow_right {n = 10} (omega arith) {i = 20} {j = k - 1} (omega arith) in
        absurd (omega (arith, a, f.2 (omega arith)))

-- so the kit's digits of a number of 64 bits are the number in decimal
pub kit_digits : {k n : ℕ} {digits : List ℕ} → n < 18446744073709551616 → digits ≡ last_digits 10 k n → IsDigitCount 10 1 n k
    → digits ≡ decimal_of n
kit_digits {k} {n} h e f = e ∙ is_decimal k n (twenty k n h f) f

few : (k room n : ℕ) → n < 10 ^ suc k → length (decimal_in room n) ≤ suc k
few k zero n h = omega arith
few zero (suc room) n h = let m : n < 10 = omega arith in omega (arith, ap length (one_digit room n m))
few (suc k) (suc room) n h = go (dec_lt n 10) (few k room (n / 10) (omega (arith, pow-succ' 10 (suc k))))
  where
    go : Dec (n < 10) → length (decimal_in room (n / 10)) ≤ suc k → length (decimal_in (suc room) n) ≤ suc (suc k)
    go (yes g) l = omega (arith, ap length (one_digit room n g))
    go (no g) l = omega (arith, ap length (more_digits room n (omega arith)), length-append (decimal_in room (n / 10)) ((n % 10 + 48) ∷ []))

pub one : (n : ℕ) → n < 10 → length (decimal_of n) ≡ 1
unfolding decimal_of
one n h = ap length (one_digit 19 n h)

pub three : (n : ℕ) → n < 1000 → length (decimal_of n) ≤ 3
unfolding decimal_of
three n h = few 2 20 n (omega arith)

many : (k n : ℕ) → length (decimal_in k n) ≤ k
many zero n = omega arith
many (suc k) n = go (dec_lt n 10) (many k (n / 10))
  where
    go : Dec (n < 10) → length (decimal_in k (n / 10)) ≤ k → length (decimal_in (suc k) n) ≤ suc k
    go (yes g) l = omega (arith, ap length (one_digit k n g))
    go (no g) l = omega (arith, ap length (more_digits k n (omega arith)), length-append (decimal_in k (n / 10)) ((n % 10 + 48) ∷ []))

pub at_most_twenty : (n : ℕ) → length (decimal_of n) ≤ 20
unfolding decimal_of
at_most_twenty n = many 20 n
