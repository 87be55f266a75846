-- The rows of each call ascend, so the law of the refusal table holds of them. Assumes nothing.
use Rattle.answer.specs.Refusals.{ascends}
use Rattle.answer.proofs.Table.{by_the_table}
use Rattle.trig.specs.Calls.{angle_checks, point_checks, ExactlyWhen}

pub exactly_when : ExactlyWhen
unfolding ascends
exactly_when =
    record {
      sin_degrees = λ x. by_the_table (angle_checks x) tt;
      cos_degrees = λ x. by_the_table (angle_checks x) tt;
      angle_degrees = λ y x. by_the_table (point_checks y x) tt;
    }
