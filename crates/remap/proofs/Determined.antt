-- A promise has one result: `Determined` holds. Assumes nothing.
use Rattle.answer.proofs.Answering.{only_one}
use Rattle.remap.specs.Determined.{Determined}

pub determined : Determined
determined =
    record {
      remap = λ v n. only_one.answered _ _ _ _;
      write_name = λ n s. only_one.changed _ _ _;
      read_name = λ s. only_one.answered _ _ _ _;
      compose = λ a b. only_one.answered _ _ _ _;
      inverse = λ n. only_one.answered _ _ _ _;
    }
