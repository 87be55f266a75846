-- 01, "What we will read in the promises": two results that both satisfy a call's promise are the same.
use Rattle.std.specs.Prelude.{ℕ}
use Rattle.answer.specs.Promises.{One, Answers}
use Rattle.vector.specs.declared.Vector.{Vector}
use Rattle.vector.specs.Turned.{turn_checks, turned_answer}
use Rattle.alignment.specs.Matrix.{to_matrix_of, rotate_of, matrix_checks, Gives}

pub record Determined : Type 0 where
  pub to_matrix : (n : ℕ) → One (Gives (matrix_checks n) (to_matrix_of n))
  pub rotate : (v : Vector) (n : ℕ) → One (Answers (turn_checks v n) (turned_answer (rotate_of n v)))
