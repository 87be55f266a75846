-- The rows of every call ascend, so the law of the refusal table holds of them. Assumes nothing.
use Rattle.answer.specs.Refusals.{ascends}
use Rattle.answer.proofs.Table.{by_the_table}
use Rattle.settings.proofs.Refusing as settings
use Rattle.ahrs.specs.Calls.{update_checks, state_checks, change_checks, period_checks, quaternion_checks, vector_checks}
use Rattle.ahrs.specs.Exact.{ExactlyWhen}

pub exactly_when : ExactlyWhen
unfolding ascends
exactly_when =
    record {
      start = settings.exactly_when;
      update = λ s g a m. by_the_table (update_checks s g a m) tt;
      set_settings = λ s t. by_the_table (change_checks s t) tt;
      set_sample_period = λ s p. by_the_table (period_checks s p) tt;
      set_quaternion = λ s q. by_the_table (quaternion_checks s q) tt;
      of_the_state = λ s. by_the_table (state_checks s) tt;
      vector = λ s v. by_the_table (vector_checks s v) tt;
    }
