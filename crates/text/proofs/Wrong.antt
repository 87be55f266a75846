-- Wrong answers that the promises refuse, each by evaluation. Assumes nothing.
use Prim.Native.Nat.{ℕ}
use native.Mathlib.Omega.{arith}
use mathlib.Core.Path.{◌≡◌, ap}
use mathlib.Core.List.{List, [], ◌∷◌, ◌++◌}
use lib.ListN.{get_or, replicate}
use Rattle.text.specs.Text.{space, newline, digit_of, word_of, pair_of, words_of, decimal_of, named_of, refused_word, refused_of, last_line}
use Rattle.text.specs.Putting.{over, Fits}

-- of 10: `0000000a`, lower case; of 1: `10000000`, the lowest digit first
pub of_word
    : (48 ∷ 48 ∷ 48 ∷ 48 ∷ 48 ∷ 48 ∷ 48 ∷ 97 ∷ [] ≡ word_of 10 → ⊥)
    × (49 ∷ 48 ∷ 48 ∷ 48 ∷ 48 ∷ 48 ∷ 48 ∷ 48 ∷ [] ≡ word_of 1 → ⊥)
unfolding word_of digit_of
of_word = (λ h. let z : ◌≡◌ {A = ℕ} 97 65 = cc in omega arith, λ h. let z : ◌≡◌ {A = ℕ} 49 48 = cc in omega arith)

abbrev blank : ℕ → List ℕ
blank n = replicate n 0

-- of 1, 2, 3, 4: in another order; where there is room for 35 bytes; no newline
pub of_put_words
    : (Fits (words_of 1 2 3 4) (blank 36) (words_of 4 3 2 1) 36 → ⊥)
    × ((after : List ℕ) → Fits (words_of 1 2 3 4) (blank 35) after 35 → ⊥)
    × (Fits (words_of 1 2 3 4) (blank 36) (pair_of 1 2 space ++ pair_of 3 4 space) 36 → ⊥)
unfolding words_of pair_of word_of digit_of over
of_put_words = (
  λ h. let z : ◌≡◌ {A = ℕ} 52 49 = ap (λ (s : List ℕ). get_or s 7 0) h.holds in omega arith,
  λ after h. let e = h.count in omega arith,
  λ h. let z : ◌≡◌ {A = ℕ} 32 10 = ap (λ (s : List ℕ). get_or s 35 0) h.holds in omega arith,
)

-- of 7: `07`, a zero in front; of 10: `0`, its last digit, `01`, and `1` where there is room for one
pub of_put_decimal
    : ((after : List ℕ) → Fits (decimal_of 7) (blank 2) after 2 → ⊥)
    × ((after : List ℕ) → Fits (decimal_of 10) (blank 2) after 1 → ⊥)
    × (Fits (decimal_of 10) (blank 2) (48 ∷ 49 ∷ []) 2 → ⊥)
    × (Fits (decimal_of 10) (blank 1) (49 ∷ []) 1 → ⊥)
unfolding decimal_of over
of_put_decimal = (
  λ after h. let e = h.count in omega arith,
  λ after h. let e = h.count in omega arith,
  λ h. let z : ◌≡◌ {A = ℕ} 48 49 = ap (λ (s : List ℕ). get_or s 0 0) h.holds in omega arith,
  λ h. let e = h.count in omega arith,
)

-- of `a` and 7: two spaces apart; `a=7`; no newline; the line cut where there is room for three bytes
pub of_put_named
    : ((after : List ℕ) → Fits (named_of (97 ∷ []) 7) (blank 5) after 5 → ⊥)
    × (Fits (named_of (97 ∷ []) 7) (blank 4) (97 ∷ 61 ∷ 55 ∷ newline ∷ []) 4 → ⊥)
    × ((after : List ℕ) → Fits (named_of (97 ∷ []) 7) (blank 4) after 3 → ⊥)
    × ((after : List ℕ) → Fits (named_of (97 ∷ []) 7) (blank 3) after 3 → ⊥)
unfolding named_of decimal_of over
of_put_named = (
  λ after h. let e = h.count in omega arith,
  λ h. let z : ◌≡◌ {A = ℕ} 61 32 = ap (λ (s : List ℕ). get_or s 1 0) h.holds in omega arith,
  λ after h. let e = h.count in omega arith,
  λ after h. let e = h.count in omega arith,
)

-- of 10: `refused 0`; of 4: `refused 1`, the right number with no newline, and a line cut where there is room for nine bytes
pub of_put_refused
    : ((after : List ℕ) → Fits (refused_of 10) (blank 12) after 10 → ⊥)
    × (Fits (refused_of 4) (blank 10) (refused_word ++ (space ∷ 49 ∷ newline ∷ [])) 10 → ⊥)
    × ((after : List ℕ) → Fits (refused_of 4) (blank 10) after 9 → ⊥)
    × ((after : List ℕ) → Fits (refused_of 4) (blank 9) after 9 → ⊥)
unfolding refused_of named_of decimal_of over
of_put_refused = (
  λ after h. let e = h.count in omega arith,
  λ h. let z : ◌≡◌ {A = ℕ} 49 52 = ap (λ (s : List ℕ). get_or s 8 0) h.holds in omega arith,
  λ after h. let e = h.count in omega arith,
  λ after h. let e = h.count in omega arith,
)

-- of 0, where no refusal came: the line `refused 0`, or a newline; of 8: nothing; the line of 5
pub of_put_last
    : ((after : List ℕ) → Fits (last_line 0) (blank 12) after 10 → ⊥)
    × ((after : List ℕ) → Fits (last_line 0) (blank 12) after 1 → ⊥)
    × ((after : List ℕ) → Fits (last_line 8) (blank 12) after 0 → ⊥)
    × (Fits (last_line 8) (blank 12) (over (refused_of 5) (blank 12)) 10 → ⊥)
unfolding refused_of named_of decimal_of over
of_put_last = (
  λ after h. let e = h.count in omega arith,
  λ after h. let e = h.count in omega arith,
  λ after h. let e = h.count in omega arith,
  λ h. let z : ◌≡◌ {A = ℕ} 53 56 = ap (λ (s : List ℕ). get_or s 8 0) h.holds in omega arith,
)
