-- A promise has one result: `Determined` holds. Assumes nothing.
use Rattle.answer.proofs.Answering.{only_one}
use Rattle.alignment.specs.Determined.{Determined}

pub determined : Determined
determined = record { to_matrix = λ n. only_one.answered _ _ _ _; rotate = λ v n. only_one.answered _ _ _ _ }
