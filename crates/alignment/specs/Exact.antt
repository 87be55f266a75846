-- 01, "The refusal table": of both calls each number is given exactly when its row says.
use Rattle.std.specs.Prelude.{ℕ}
use Rattle.answer.specs.Refusals.{Exactly}
use Rattle.vector.specs.declared.Vector.{Vector}
use Rattle.vector.specs.Turned.{turn_checks}
use Rattle.alignment.specs.Matrix.{matrix_checks}

pub record ExactlyWhen : Type 0 where
  pub to_matrix : (n : ℕ) → Exactly (matrix_checks n)
  pub rotate : (v : Vector) (n : ℕ) → Exactly (turn_checks v n)
