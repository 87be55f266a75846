-- What a call promises, stated once for every type of answers and of states: of one that answers, of one that changes something, of one that does both.
use Rattle.std.specs.Prelude.{ℕ, ◌≡◌, List, []}
use Rattle.answer.specs.declared.Answer.{Answer}
use Rattle.std.specs.declared.result.Result.{Result}
use Rattle.std.specs.declared.result.Result.TheVariants.{Ok, Err}
use Rattle.answer.specs.declared.refusal.Refusal.{Refusal}
use Rattle.answer.specs.Refusals.{Check, refusal_of, accepted}
use Rattle.answer.specs.Said.{Said, number_said, values_said}
use Rattle.answer.specs.Rows.{refusal_at, result_said}
use Rattle.answer.specs.Answers.{answer_said, refused}

-- r is the refusal that the checks give, or where they give none the answer a; a refusal carries its number and nothing else.
-- `said` is what each case of the answer's type says, `refused` the refusal of a number.
pub record Answered {A B : Type 0} (said : A → Said B) (refused : ℕ → A) (cs : List Check) (a r : A) : Type 0 where
  pub exact : r ≡ accepted (refusal_of cs) a (refused (refusal_of cs))
  pub number : number_said (said r) ≡ refusal_of cs
  pub values : values_said (said r) ≡ accepted (refusal_of cs) (values_said (said a)) []

-- r answers a by these checks
abbrev pub Answers : List Check → Answer → Answer → Type 0
Answers cs a r = Answered answer_said refused cs a r

-- r gives a by these checks; `vals` are a's values
abbrev pub Results : {A B : Type 0} → (A → List B) → List Check → A → Result A Refusal → Type 0
Results vals cs a r = Answered (result_said vals) (λ n. Err (refusal_at n)) cs (Ok a) r

-- r is the number that the checks give, and what was lent or handed in is `new`, or where they refuse what it was
pub record Changed {S : Type 0} (cs : List Check) (new old now : S) (r : ℕ) : Type 0 where
  pub number : r ≡ refusal_of cs
  pub holds : now ≡ accepted (refusal_of cs) new old

-- r answers a by these checks, and the state is `new`, or where they refuse what it was
pub record Moved {S : Type 0} (cs : List Check) (a : Answer) (new old now : S) (r : Answer) : Type 0 where
  pub answer : Answers cs a r
  pub state : now ≡ accepted (refusal_of cs) new old

-- ---- the promises determine

-- two results that both satisfy a promise are the same
abbrev pub One : {A : Type 0} → (A → Type 0) → Type 0
One {A} P = (r s : A) → P r → P s → r ≡ s

-- where something was lent, a promise is of what that holds afterwards too, and both are the same
abbrev pub OneLent : {A B : Type 0} → (A → B → Type 0) → Type 0
OneLent {A} {B} P = (now also : A) (r s : B) → P now r → P also s → (r ≡ s) × (now ≡ also)

-- so it is with the three records, whatever the type
pub record OnlyOne : Type 1 where
  pub answered : {A B : Type 0} (said : A → Said B) (refused : ℕ → A) (cs : List Check) (a : A) → One (Answered said refused cs a)
  pub changed : {S : Type 0} (cs : List Check) (new old : S) → OneLent (Changed cs new old)
  pub moved : {S : Type 0} (cs : List Check) (a : Answer) (new old : S) → OneLent (Moved cs a new old)
