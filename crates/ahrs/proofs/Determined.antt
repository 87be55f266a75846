-- A promise has one result: `Determined` holds. Assumes nothing.
use Rattle.answer.proofs.Answering.{one_change, one_reading, only_one}
use Rattle.ahrs.specs.Determined.{Determined}

pub determined : Determined
determined =
    record {
      start = λ t. only_one.answered _ _ _ _;
      update = λ s g a m. one_reading _ _ _ _;
      update_lent = λ s g a m. only_one.moved _ _ _ _;
      restart = λ s. one_change _ _ _;
      skip_startup = λ s. one_change _ _ _;
      set_settings = λ s t. one_change _ _ _;
      set_sample_period = λ s p. one_change _ _ _;
      set_quaternion = λ s q. one_change _ _ _;
      settings = λ s. only_one.answered _ _ _ _;
      quaternion = λ s. only_one.answered _ _ _ _;
      vector = λ s v. only_one.answered _ _ _ _;
      flags = λ s. only_one.answered _ _ _ _;
      internal_states = λ s r t p q. only_one.answered _ _ _ _ r t p.answer q.answer;
      ignored_counts = λ s. only_one.answered _ _ _ _;
    }
