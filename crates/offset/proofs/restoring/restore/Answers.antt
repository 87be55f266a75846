-- `offset::restoring::restore` meets its contract: refused by the record's checks, or the turned offset is set.
use Rattle.offset.proofs.Restored.{turnable, restored}
use Rattle.offset.proofs.restoring.restore.Goals as goal

pub reframed-requires : goal.reframed-requires
reframed-requires c = turnable _ _ _ c.is_finite.ensures c.in_default.ensures c.offset_at-offset.ensures

pub returns : goal.returns
returns c =
    restored _ _ _ c.is_finite.ensures c.in_default.ensures c.offset_at-offset.ensures c.set_offset.result c.reframed.ensures c.set_offset.ensures
