-- `table::Foot::rewrite` meets its contract: what the lent rewrite promises of the party, of the foot.
use Rattle.table.proofs.Sides.{foot_rewritten}
use Rattle.table.proofs.foot.Foot.rewrite.Goals as goal

pub returns : goal.returns
returns c = foot_rewritten _ _ _ _ _ c.party.ensures c.other_row.ensures c.stood.ensures c.rewrite_lent-change.ensures
