-- The rows of every call ascend, so the law of the refusal table holds of them. Assumes nothing.
use Rattle.answer.specs.Refusals.{ascends}
use Rattle.answer.proofs.Table.{by_the_table}
use Rattle.bias.specs.Calls.{settings_checks, reading_checks, offset_checks, state_checks, change_checks}
use Rattle.bias.specs.Exact.{ExactlyWhen}

pub exactly_when : ExactlyWhen
unfolding ascends
exactly_when =
    record {
      start = λ s. by_the_table (settings_checks s) tt;
      reading = λ b g. by_the_table (reading_checks b g) tt;
      set_offset = λ b v. by_the_table (offset_checks b v) tt;
      set_settings = λ b s. by_the_table (change_checks b s) tt;
      of_the_state = λ b. by_the_table (state_checks b) tt;
    }
