-- A promise has one result: `Determined` holds. Assumes nothing.
use Rattle.answer.proofs.Answering.{one_change, only_one}
use Rattle.editions.specs.Determined.{Determined}

pub determined : Determined
determined =
    record {
      move_up = λ s p before. only_one.changed _ _ _;
      move_down = λ s before. only_one.changed _ _ _;
      restore = λ b s m. one_change _ _ _;
    }
