-- Wrong answers that the promises refuse, each by evaluation. Assumes nothing.
use Prim.Native.Nat.{ℕ}
use native.Mathlib.Omega.{arith}
use mathlib.Core.Path.{◌≡◌, ap}
use mathlib.Core.Bool.{true, false, not}
use mathlib.Core.List.{List, [], ◌∷◌, ◌++◌}
use mathlib.Core.Logic.{◌⊎◌, inl, inr}
use lib.Dec.{eqb}
use Rattle.verdict.specs.declared.Verdict.{Verdict}
use Rattle.verdict.specs.Verdict.{verdict, no_verdict, next_of, digit_of, byte_of, verdict_of, is_refused}

-- a run that begins with a line, or as a refused one
pub of_none : (verdict 1 0 0 false ≡ no_verdict → ⊥) × (verdict 0 1 0 false ≡ no_verdict → ⊥)
of_none = (
  λ h. let z : ◌≡◌ {A = ℕ} 1 0 = ap (λ (v : Verdict). v.lines) h in omega arith,
  λ h. let z : ◌≡◌ {A = ℕ} 1 0 = ap (λ (v : Verdict). v.line) h in omega arith,
)

-- `refused `
abbrev refused : List ℕ
refused = 114 ∷ 101 ∷ 102 ∷ 117 ∷ 115 ∷ 101 ∷ 100 ∷ 32 ∷ []

-- `0`, `refused 4 12` and `refused 5`, each with its newline
abbrev lines : List ℕ
lines = 48 ∷ 10 ∷ refused ++ (52 ∷ 32 ∷ 49 ∷ 50 ∷ 10 ∷ refused ++ (53 ∷ 10 ∷ []))

-- the last refusal for the first; its number with the other's line; the refused line not counted; digits behind the number taken for its own
-- of `refused 10`: one digit read
pub of_over
    : (verdict 3 3 5 true ≡ verdict_of no_verdict lines → ⊥)
    × (verdict 3 2 5 true ≡ verdict_of no_verdict lines → ⊥)
    × (verdict 1 2 4 true ≡ verdict_of no_verdict lines → ⊥)
    × (verdict 3 2 412 true ≡ verdict_of no_verdict lines → ⊥)
    × (verdict 1 1 1 true ≡ verdict_of no_verdict (refused ++ (49 ∷ 48 ∷ 10 ∷ [])) → ⊥)
unfolding verdict_of byte_of digit_of next_of
of_over = (
  λ h. let z : ◌≡◌ {A = ℕ} 3 2 = ap (λ (v : Verdict). v.line) h in omega arith,
  λ h. let z : ◌≡◌ {A = ℕ} 5 4 = ap (λ (v : Verdict). v.number) h in omega arith,
  λ h. let z : ◌≡◌ {A = ℕ} 1 3 = ap (λ (v : Verdict). v.lines) h in omega arith,
  λ h. let z : ◌≡◌ {A = ℕ} 412 4 = ap (λ (v : Verdict). v.number) h in omega arith,
  λ h. let z : ◌≡◌ {A = ℕ} 1 10 = ap (λ (v : Verdict). v.number) h in omega arith,
)

-- a refusal that is not told; one told though there is none, also where a number stands without a line
pub of_tell
    : (false ≡ is_refused (verdict 3 2 4 true) → ⊥)
    × (true ≡ is_refused (verdict 3 0 0 false) → ⊥)
    × (true ≡ is_refused (verdict 3 0 4 true) → ⊥)
of_tell = (
  λ h. let z : ◌≡◌ {A = ℕ} 0 1 = cc in omega arith,
  λ h. let z : ◌≡◌ {A = ℕ} 0 1 = cc in omega arith,
  λ h. let z : ◌≡◌ {A = ℕ} 0 1 = cc in omega arith,
)

-- of the number 8, or of 200 beyond the table, none told; of 0, one
pub of_tell_log : (false ≡ not (eqb 8 0) → ⊥) × (false ≡ not (eqb 200 0) → ⊥) × (true ≡ not (eqb 0 0) → ⊥)
of_tell_log = (
  λ h. let z : ◌≡◌ {A = ℕ} 0 1 = cc in omega arith,
  λ h. let z : ◌≡◌ {A = ℕ} 0 1 = cc in omega arith,
  λ h. let z : ◌≡◌ {A = ℕ} 0 1 = cc in omega arith,
)

-- the status of a failure: 1, as of a refusal; 2
pub of_tell_failed : (◌⊎◌ (◌≡◌ {A = ℕ} 1 0) (◌≡◌ {A = ℕ} 1 141) → ⊥) × (◌⊎◌ (◌≡◌ {A = ℕ} 2 0) (◌≡◌ {A = ℕ} 2 141) → ⊥)
of_tell_failed = (
  λ h. elim h [ inl e ↦ omega (arith, e) | inr e ↦ omega (arith, e) ],
  λ h. elim h [ inl e ↦ omega (arith, e) | inr e ↦ omega (arith, e) ],
)
