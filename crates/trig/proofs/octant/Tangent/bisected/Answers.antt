-- `trig::octant::Tangent::bisected` meets its contract: after i rounds the span is `span_of p i`.
use Rattle.std.proofs.Common.{refl, arith}
use Rattle.trig.specs.Octant.{span_of}
use Rattle.trig.proofs.Search.{between, once_more}
use Rattle.trig.proofs.octant.Tangent.bisected.Goals as goal

pub loop-init : goal.loop-init
unfolding span_of
loop-init c = refl

pub halved-span-requires : goal.halved-span-requires
halved-span-requires c =
    let b = between c.args.self.p c.loop.counter c.args.self.small c.loop.invariant in
    (omega (arith, b.apart, b.inside), b.inside)

pub loop-preserved : goal.loop-preserved
loop-preserved c = once_more c.args.self.p c.loop.counter c.loop.invariant c.halved-span.ensures
