-- `trig::point::angle` meets its contract: where one is not finite, and where both are.
use lib.Ieee.{of_bits, div}
use Rattle.trig.proofs.Bearings.{each_finite, finite_is, other_is}
use Rattle.trig.proofs.point.angle.Goals as goal

pub returns-then-not-is_finite : goal.returns-then-not-is_finite
unfolding of_bits div
returns-then-not-is_finite c =
    let e = other_is c.args.y c.args.x c.is_finite.ensures c.is_finite-2.ensures c.if-not-is_finite.true in
    record { value = e.0; toward = e.1 }

pub bearing-requires : goal.bearing-requires
bearing-requires c = each_finite c.args.y c.args.x c.is_finite.ensures c.is_finite-2.ensures c.if-not-is_finite.false

pub returns : goal.returns
returns c =
    let e = finite_is c.args.y c.args.x c.is_finite.ensures c.is_finite-2.ensures c.if-not-is_finite.false c.bearing.ensures in
    record { value = e.0; toward = e.1 }
