-- The number and the values of each case of `Answer`.
use Rattle.std.specs.Prelude.{ℕ, List, [], ◌∷◌, Float}
use Rattle.answer.specs.declared.Answer.{Answer}
use Rattle.answer.specs.declared.Answer.TheVariants.{Rates, Turned, Oriented, Refused}
use Rattle.answer.specs.Said.{Said, values, refusal, number_said, values_said}
use Rattle.answer.specs.Rows.{row_of, refusal_at}

abbrev pub answer_said : Answer → Said Float
answer_said (Rates x y z) = values (x ∷ y ∷ z ∷ [])
answer_said (Turned x y z) = values (x ∷ y ∷ z ∷ [])
answer_said (Oriented w x y z) = values (w ∷ x ∷ y ∷ z ∷ [])
answer_said (Refused e) = refusal (row_of e)

-- the answer that is a refusal by its number
abbrev pub refused : ℕ → Answer
refused n = Refused (refusal_at n)

abbrev pub number_of : Answer → ℕ
number_of a = number_said (answer_said a)

abbrev pub values_of : Answer → List Float
values_of a = values_said (answer_said a)
