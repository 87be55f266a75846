-- `offset::restoring::turned` meets its contract: no other answer comes than a turned vector.
use Rattle.offset.proofs.Turning.{is_turned}
use Rattle.offset.proofs.restoring.turned.Goals as goal

pub unreachable-requires : goal.unreachable-requires
unreachable-requires c = c.in_default.not-Turned _ _ _ (is_turned _ _ c.requires.0 c.requires.1 c.turned.ensures)
