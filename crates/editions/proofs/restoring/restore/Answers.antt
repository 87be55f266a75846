-- `editions::restoring::restore` meets its contract: refused by the record's checks, or restored by the first edition's reader.
use Rattle.editions.proofs.Restored.{long, restored}
use Rattle.editions.proofs.restoring.restore.Goals as goal

pub lowered-requires : goal.lowered-requires
lowered-requires c =
    let a = c.args in
    long a.bias a.bytes.now a.mounting c.edition_of-edition.ensures c.is_finite.ensures c.in_default.ensures

pub returns : goal.returns
returns c =
    let a = c.args in
    restored a.bias a.bytes.now a.mounting c.edition_of-edition.ensures c.is_finite.ensures c.in_default.ensures c.lowered.ensures
    c.restore.result c.restore.ensures
