-- `trig::point::bearing` meets its contract, by the larger size.
use Rattle.trig.proofs.Bearings.{steep_asks, flat_asks, steep_is, flat_is, none_is}
use Rattle.trig.proofs.point.bearing.Goals as goal

pub ratio-requires : goal.ratio-requires
ratio-requires c = steep_asks c.args.y c.args.x c.fabsf-ay.ensures c.fabsf-ax.ensures c.requires.0 c.requires.1 c.if-ax-ay.true

pub returns-then-ax-ay : goal.returns-then-ax-ay
returns-then-ax-ay c =
    steep_is c.args.y c.args.x c.fabsf-ay.ensures c.fabsf-ax.ensures c.if-ax-ay.true c.ratio.ensures c.octant.ensures c.steep.ensures
    c.degrees.ensures

pub ratio-requires-then-ax : goal.ratio-requires-then-ax
ratio-requires-then-ax c =
    flat_asks c.args.y c.args.x c.fabsf-ay.ensures c.fabsf-ax.ensures c.requires.0 c.requires.1 c.if-ax-ay.false c.if-ax.true

pub returns-then-ax : goal.returns-then-ax
returns-then-ax c =
    flat_is c.args.y c.args.x c.fabsf-ay.ensures c.fabsf-ax.ensures c.if-ax-ay.false c.if-ax.true c.ratio-then-ax.ensures
    c.octant-then-ax.ensures c.flat.ensures c.degrees-then-ax.ensures

pub returns : goal.returns
returns c = none_is c.args.y c.args.x c.fabsf-ay.ensures c.fabsf-ax.ensures c.if-ax-ay.false c.if-ax.false
