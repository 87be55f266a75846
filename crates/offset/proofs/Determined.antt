-- A promise has one result: `Determined` holds. Assumes nothing.
use Rattle.answer.proofs.Answering.{one_change, only_one}
use Rattle.offset.specs.Determined.{Determined}

pub determined : Determined
determined =
    record {
      read_offset = λ s. only_one.answered _ _ _ _;
      write_offset = λ o s. only_one.changed _ _ _;
      restore = λ b s m. one_change _ _ _;
    }
