-- The rows of both calls ascend, so the law of the refusal table holds of them. Assumes nothing.
use Rattle.answer.specs.Refusals.{ascends}
use Rattle.answer.proofs.Table.{by_the_table}
use Rattle.vector.specs.Turned.{turn_checks}
use Rattle.alignment.specs.Matrix.{matrix_checks}
use Rattle.alignment.specs.Exact.{ExactlyWhen}

pub exactly_when : ExactlyWhen
unfolding ascends
exactly_when = record { to_matrix = λ n. by_the_table (matrix_checks n) tt; rotate = λ v n. by_the_table (turn_checks v n) tt }
