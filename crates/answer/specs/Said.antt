-- What an answer says, of any type of answers: values, or a refusal's number and nothing else.
use Rattle.std.specs.Prelude.{ℕ, List, [], ◌∷◌}

pub data Said (B : Type 0) : Type 0 where
  values : List B → Said B
  refusal : ℕ → Said B

-- 0 for every answer that is no refusal
abbrev pub number_said : {B : Type 0} → Said B → ℕ
number_said (values vs) = 0
number_said (refusal n) = n

abbrev pub values_said : {B : Type 0} → Said B → List B
values_said (values vs) = vs
values_said (refusal n) = []

-- what an answer of one thing says
abbrev pub alone : {A : Type 0} → A → List A
alone a = a ∷ []
