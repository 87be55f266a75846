-- 01, "What we will read in the promises": two results that both satisfy the promise of the one call that refuses are the same.
use Rattle.std.specs.Prelude.{ℕ}
use Rattle.answer.specs.Promises.{One, Answers}
use Rattle.vector.specs.declared.Vector.{Vector}
use Rattle.vector.specs.Mounting.{turn_of}
use Rattle.vector.specs.Turned.{turn_checks, turned_answer}

pub record Determined : Type 0 where
  pub turned : (v : Vector) (n : ℕ) → One (Answers (turn_checks v n) (turned_answer (turn_of n v)))
