-- A run of calls, over any state and any calls: what each leaves and tells, by the definitions that the calls' promises cite.
use Rattle.std.specs.Prelude.{ℕ, ◌≡◌, List, [], ◌∷◌}
use Rattle.answer.specs.declared.Answer.{Answer}
use Rattle.answer.specs.Answers.{refused}
use Rattle.answer.specs.Refusals.{Check, refusal_of, accepted}
use Rattle.answer.specs.Promises.{Changed, Moved}

-- what a call tells: its answer, or a change's number
pub data Told : Type 0 where
  answer : Answer → Told
  number : ℕ → Told

-- what a call leaves and tells
pub record Step (S : Type 0) : Type 0 where
  pub state : S
  pub told : Told

-- what a call is made of: its checks, the state that it makes, and where it answers the answer
pub data Outline (S : Type 0) : Type 0 where
  sets : List Check → S → Outline S
  answers : List Check → S → Answer → Outline S

abbrev pub changed_by : {S : Type 0} → S → S → ℕ → Step S
changed_by new old n = record { state = accepted n new old; told = number n }

abbrev pub moved_by : {S : Type 0} → Answer → S → S → ℕ → Step S
moved_by a new old n = record { state = accepted n new old; told = answer (accepted n a (refused n)) }

abbrev pub step_by : {S : Type 0} → S → Outline S → Step S
step_by old (sets cs new) = changed_by new old (refusal_of cs)
step_by old (answers cs new a) = moved_by a new old (refusal_of cs)

-- what a call's promise says of what it leaves and tells
abbrev pub Promised : {S : Type 0} → S → Outline S → S → Told → Type 0
Promised old (sets cs new) now (number n) = Changed cs new old now n
Promised old (sets cs new) now (answer r) = ⊥
Promised old (answers cs new a) now (answer r) = Moved cs a new old now r
Promised old (answers cs new a) now (number n) = ⊥

-- what the code's calls leave and tell is the step: their promises say so
abbrev pub Covered : Type 1
Covered = (S : Type 0) (old : S) (o : Outline S) (now : S) (t : Told) → Promised old o now t → step_by old o ≡ record { state = now; told = t }

module _ {S C : Type 0} (outline : S → C → Outline S) where
  abbrev pub step_of : S → C → Step S
  step_of s c = step_by s (outline s c)

  abbrev pub run_of : S → List C → List (Step S)
  run_of s [] = []
  run_of s (c ∷ cs) = step_of s c ∷ run_of (step_of s c).state cs

-- so it is of every state that the steps leave
abbrev pub Throughout : {S : Type 0} → (S → Type 0) → List (Step S) → Type 0
Throughout Q [] = Unit {0}
Throughout Q (s ∷ ss) = Q s.state × Throughout Q ss

-- what holds of a state and is kept by every call holds throughout a run
abbrev pub Kept : Type 1
Kept =
    (S C : Type 0) (outline : S → C → Outline S) (Q : S → Type 0)
    → ((s : S) → Q s → (c : C) → Q (step_of outline s c).state) → (s : S) → Q s → (cs : List C) → Throughout Q (run_of outline s cs)
