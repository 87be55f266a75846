-- A promise has one result: `Determined` holds. Assumes nothing.
use mathlib.Core.Path.{sym, ◌∙◌}
use Rattle.answer.proofs.Answering.{one_change, only_one}
use Rattle.table.specs.Exact.{Determined}

pub determined : Determined
determined =
    record {
      start = λ row s. only_one.answered _ _ _ _;
      choose = λ s p row. one_change _ _ _;
      choose_lent = λ t p row. one_change _ _ _;
      rewrite = λ o p s. one_change _ _ _;
      rewrite_lent = λ t o p s now also r r' h k. (one_change _ _ _ r r' h.settled k.settled, h.table ∙ sym k.table);
      foot_choose = λ t f side row. one_change _ _ _;
      foot_rewrite = λ t f side s now also r r' h k. (one_change _ _ _ r r' h.settled k.settled, h.table ∙ sym k.table);
    }
