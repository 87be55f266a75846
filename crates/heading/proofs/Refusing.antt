-- The rows of every call ascend, so the law of the refusal table holds of them. Assumes nothing.
use Rattle.answer.specs.Refusals.{ascends}
use Rattle.answer.proofs.Table.{by_the_table}
use Rattle.heading.specs.Calls.{set_checks, external_checks, unaided_checks, ExactlyWhen}

pub exactly_when : ExactlyWhen
unfolding ascends
exactly_when =
    record {
      set_heading = λ s heading. by_the_table (set_checks s heading) tt;
      update_external_heading = λ s g a heading. by_the_table (external_checks s g a heading) tt;
      update_no_magnetometer = λ s g a. by_the_table (unaided_checks s g a) tt;
    }
