-- A promise has one result: `Determined` holds. Assumes nothing.
use Rattle.answer.proofs.Answering.{one_change, one_reading, only_one}
use Rattle.bias.specs.Determined.{Determined}

pub determined : Determined
determined =
    record {
      start = λ s. only_one.answered _ _ _ _;
      update = λ b g. one_reading _ _ _ _;
      update_lent = λ b g. only_one.moved _ _ _ _;
      set_offset = λ b v. one_change _ _ _;
      restart = λ b. one_change _ _ _;
      set_settings = λ b s. one_change _ _ _;
      settings = λ b. only_one.answered _ _ _ _;
      offset = λ b. only_one.answered _ _ _ _;
      is_active = λ b. only_one.answered _ _ _ _;
    }
