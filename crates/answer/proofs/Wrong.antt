-- Wrong numbers and states that the table's law and the promises refuse, each by evaluation. Assumes nothing.
use Prim.Native.Nat.{ℕ}
use mathlib.Core.Path.{◌≡◌, ap}
use mathlib.Core.Bool.{true, false}
use mathlib.Core.List.{[], ◌∷◌}
use native.Mathlib.Omega.{arith}
use lib.Ieee.{nan}
use Rattle.answer.specs.declared.Answer.{Answer}
use Rattle.answer.specs.declared.Answer.TheVariants.{Rates, Refused}
use Rattle.answer.specs.declared.change.Change.{Change}
use Rattle.answer.specs.declared.change.Reading.{Reading}
use Rattle.answer.specs.declared.refusal.Refusal.TheVariants.{Unknown, NotFinite, TooMany}
use Rattle.answer.specs.declared.refusal.Refusal.{Refusal}
use Rattle.std.specs.declared.result.Result.{Result}
use Rattle.std.specs.declared.result.Result.TheVariants.{Ok, Err}
use Rattle.answer.specs.Rows.{row_of, number_in}
use Rattle.answer.specs.Answers.{number_of}
use Rattle.answer.specs.Refusals.{check, refusal_of}

-- where 4 and 5 both fail: 5, or none; where none fails: the last number
pub of_refusal
    : (refusal_of (check 4 true ∷ check 5 true ∷ []) ≡ 5 → ⊥)
    × (refusal_of (check 4 true ∷ check 5 true ∷ []) ≡ 0 → ⊥)
    × (refusal_of (check 4 false ∷ check 5 false ∷ []) ≡ 5 → ⊥)
unfolding refusal_of
of_refusal = (λ h. omega arith, λ h. omega arith, λ h. omega arith)

-- of what is not finite 4, of the last row 0
pub of_row : (4 ≡ row_of NotFinite → ⊥) × (0 ≡ row_of TooMany → ⊥)
of_row = (λ h. omega arith, λ h. omega arith)

abbrev told : Result (Unit {0}) Refusal → ℕ
told r = number_in r

-- of a refusal 0, of none a number
pub of_number_in : (0 ≡ told (Err Unknown) → ⊥) × (1 ≡ told (Ok tt) → ⊥)
of_number_in = (λ h. omega arith, λ h. omega arith)

-- of a refusal 0; of rates, whatever they are, a refusal's number
pub of_number : (0 ≡ number_of (Refused Unknown) → ⊥) × (5 ≡ number_of (Rates nan nan nan) → ⊥)
of_number = (λ h. omega arith, λ h. omega arith)

-- of a refusal none, and another; of rates, whatever they are, a refusal
pub of_check
    : (told (Ok tt) ≡ number_of (Refused Unknown) → ⊥)
    × (told (Err NotFinite) ≡ number_of (Refused Unknown) → ⊥)
    × (told (Err NotFinite) ≡ number_of (Rates nan nan nan) → ⊥)
of_check = (λ h. omega arith, λ h. omega arith, λ h. omega arith)

-- a change and a reading of the state n
abbrev changed : ℕ → Result (Unit {0}) Refusal → Change ℕ
changed n r = record { state = n; result = r }

abbrev answering : ℕ → Answer → Reading ℕ
answering n a = record { state = n; answer = a }

module _ {c d : Change ℕ} (h : c ≡ d) where
  its_state : c.state ≡ d.state
  its_state = ap (λ (e : Change ℕ). e.state) h

  its_number : told c.result ≡ told d.result
  its_number = ap (λ (e : Change ℕ). told e.result) h

-- another state; a refusal
pub of_made : (changed 2 (Ok tt) ≡ changed 1 (Ok tt) → ⊥) × (changed 1 (Err Unknown) ≡ changed 1 (Ok tt) → ⊥)
of_made = (λ h. omega (arith, its_state h), λ h. omega (arith, its_number h))

-- another state; none; another refusal
pub of_refused_change
    : (changed 2 (Err Unknown) ≡ changed 1 (Err Unknown) → ⊥)
    × (changed 1 (Ok tt) ≡ changed 1 (Err Unknown) → ⊥)
    × (changed 1 (Err NotFinite) ≡ changed 1 (Err Unknown) → ⊥)
of_refused_change = (λ h. omega (arith, its_state h), λ h. omega (arith, its_number h), λ h. omega (arith, its_number h))

module _ {c d : Reading ℕ} (h : c ≡ d) where
  read_state : c.state ≡ d.state
  read_state = ap (λ (e : Reading ℕ). e.state) h

  read_number : number_of c.answer ≡ number_of d.answer
  read_number = ap (λ (e : Reading ℕ). number_of e.answer) h

-- another state; rates; another refusal
pub of_refused_reading
    : (answering 2 (Refused Unknown) ≡ answering 1 (Refused Unknown) → ⊥)
    × (answering 1 (Rates nan nan nan) ≡ answering 1 (Refused Unknown) → ⊥)
    × (answering 1 (Refused NotFinite) ≡ answering 1 (Refused Unknown) → ⊥)
of_refused_reading = (λ h. omega (arith, read_state h), λ h. omega (arith, read_number h), λ h. omega (arith, read_number h))
