-- The rows of every call ascend, so the law of the refusal table holds of them. Assumes nothing.
use Rattle.answer.specs.Refusals.{ascends}
use Rattle.answer.proofs.Table.{by_the_table}
use Rattle.remap.specs.Names.{read_checks, write_checks}
use Rattle.remap.specs.Composition.{compose_checks, inverse_checks}
use Rattle.remap.specs.Exact.{ExactlyWhen}

pub exactly_when : ExactlyWhen
unfolding ascends
exactly_when =
    record {
      read_name = λ s. by_the_table (read_checks s) tt;
      write_name = λ n room. by_the_table (write_checks n room) tt;
      compose = λ a b. by_the_table (compose_checks a b) tt;
      inverse = λ n. by_the_table (inverse_checks n) tt;
    }
