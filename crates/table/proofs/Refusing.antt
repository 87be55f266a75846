-- The rows of a choice ascend and those of a rewrite are numbered, so the laws of the table and of the order hold of them. Assumes nothing.
use Rattle.answer.specs.Refusals.{ascends}
use Rattle.answer.specs.Order.{numbered}
use Rattle.answer.proofs.Table.{by_the_table}
use Rattle.answer.proofs.Ordering.{by_the_order}
use Rattle.table.specs.Calls.{choose_checks, rewrite_checks}
use Rattle.table.specs.Exact.{ExactlyWhen}

pub exactly_when : ExactlyWhen
unfolding ascends numbered
exactly_when =
    record {
      choose = λ p row s. by_the_table (choose_checks p row s) tt;
      rewrite = λ p shared s. by_the_order (rewrite_checks p shared s) tt;
    }
