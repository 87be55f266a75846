-- One vector turned: 4 for a number above 23, then 5 for a vector that is not finite, else the turned vector.
use Rattle.std.specs.Prelude.{not, List, [], ◌∷◌, ℕ, ltb}
use Rattle.answer.specs.declared.Answer.{Answer}
use Rattle.answer.specs.declared.Answer.TheVariants.{Turned}
use Rattle.answer.specs.Refusals.{Check, check, Exactly}
use Rattle.number.specs.Same.{Same}
use Rattle.vector.specs.declared.Vector.{Vector}
use Rattle.vector.specs.Mounting.{Mounting, turn}
use Rattle.vector.specs.Vectors.{finite_vector}

abbrev pub turn_checks : Vector → ℕ → List Check
turn_checks v n = check 4 (ltb 23 n) ∷ check 5 (not (finite_vector v)) ∷ []

abbrev pub turned_answer : Vector → Answer
turned_answer v = Turned v.x v.y v.z

-- the table's law of them
abbrev pub ExactlyWhen : Type 0
ExactlyWhen = (v : Vector) (n : ℕ) → Exactly (turn_checks v n)

-- w is v turned by m, zero's sign ignored
pub record TurnedBy (m : Mounting) (v w : Vector) : Type 0 where
  pub x : Same w.x (turn m v).x
  pub y : Same w.y (turn m v).y
  pub z : Same w.z (turn m v).z
