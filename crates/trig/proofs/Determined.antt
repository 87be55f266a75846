-- A promise has one result: `Determined` holds. Assumes nothing.
use Rattle.answer.proofs.Answering.{only_one}
use Rattle.trig.specs.Calls.{Determined}

pub determined : Determined
determined =
    record {
      sin_degrees = λ x. only_one.answered _ _ _ _;
      cos_degrees = λ x. only_one.answered _ _ _ _;
      angle_degrees = λ y x. only_one.answered _ _ _ _;
    }
