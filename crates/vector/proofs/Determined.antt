-- A promise has one result: `Determined` holds. Assumes nothing.
use Rattle.answer.proofs.Answering.{only_one}
use Rattle.vector.specs.Determined.{Determined}

pub determined : Determined
determined = record { turned = λ v n. only_one.answered _ _ _ _ }
