-- What printed lines say of a run, byte by byte: how many have ended, and the first that is a refusal.
use Rattle.std.specs.Prelude.{ℕ, ◌+◌, ◌*◌, ◌-◌, Bool, false, not, ◌||◌, cond, List, [], ◌∷◌, eqb, ltb}
use Rattle.verdict.specs.declared.Verdict.{Verdict}

abbrev pub verdict : ℕ → ℕ → ℕ → Bool → Verdict
verdict lines refused n e = record { lines = lines; line = refused; number = n; ended = e }

abbrev pub no_verdict : Verdict
no_verdict = verdict 0 0 0 false

-- one more, up to the largest number
unfoldable pub next_of : ℕ → ℕ
next_of n = cond (ltb n 18446744073709551615) (n + 1) n

abbrev newline : ℕ
newline = 10

abbrev letter_r : ℕ
letter_r = 114

-- what is no digit ends the number, where one is known
abbrev pub ended_of : Verdict → Bool
ended_of v = not (eqb v.number 0)

-- the digits that follow one another, `0` to `9`, are the number, up to three of them
unfoldable pub digit_of : Verdict → ℕ → Verdict
digit_of v b =
    cond v.ended v
    (cond (ltb b 48 || ltb 57 b) (verdict v.lines v.line v.number (ended_of v))
    (cond (ltb 99 v.number) v (verdict v.lines v.line (v.number * 10 + (b - 48)) false)))

-- a newline ends a line; the first `r` makes its line the refused one, and the first digits after it are its number
unfoldable pub byte_of : Verdict → ℕ → Verdict
byte_of v b =
    cond (eqb b newline) (verdict (next_of v.lines) v.line v.number (ended_of v))
    (cond (eqb v.line 0) (cond (eqb b letter_r) (verdict v.lines (next_of v.lines) v.number v.ended) v) (digit_of v b))

unfoldable pub verdict_of : Verdict → List ℕ → Verdict
verdict_of v [] = v
verdict_of v (b ∷ bs) = verdict_of (byte_of v b) bs

abbrev pub is_refused : Verdict → Bool
is_refused v = not (eqb v.line 0)
