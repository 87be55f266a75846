-- A promise has one result: `Determined` holds. Assumes nothing.
use Rattle.answer.proofs.Answering.{one_change, one_reading}
use Rattle.heading.specs.Calls.{Determined}

pub determined : Determined
determined =
    record {
      set_heading = λ s heading. one_change _ _ _;
      update_external_heading = λ s g a heading. one_reading _ _ _ _;
      update_no_magnetometer = λ s g a. one_reading _ _ _ _;
    }
