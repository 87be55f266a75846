-- `vector::Vector::turned` meets its contract: refused by its two tests, or the vector that the mounting's places read.
use Rattle.std.proofs.Common.{ap, not}
use Rattle.vector.proofs.Axes.{no_mounting, not_finite, turns}
use Rattle.vector.proofs.Vector.turned.Goals as goal

pub returns-in_default : goal.returns-in_default
returns-in_default c = no_mounting c.args.self c.args.mounting c.in_default.ensures

pub returns-then-not-all_finite : goal.returns-then-not-all_finite
returns-then-not-all_finite c =
    not_finite c.args.self c.args.mounting c.in-Some.ensures c.all_finite.ensures (ap not c.if-not-all_finite.true)

pub returns : goal.returns
returns c = turns c.args.self c.args.mounting c.in-Some.ensures c.all_finite.ensures (ap not c.if-not-all_finite.false) c.read_by.ensures
