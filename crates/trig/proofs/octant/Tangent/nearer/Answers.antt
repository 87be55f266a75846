-- `trig::octant::Tangent::nearer` meets its contract: the tangent is between the ends, so neither difference goes below 0.
use Rattle.std.proofs.Common.{arith}
use Rattle.trig.proofs.Search.{Between, between}
use Rattle.trig.proofs.Octants.{takes_lo, takes_hi}
use Rattle.trig.proofs.octant.Tangent.nearer.Goals as goal

pub invariant_of-lo : goal.invariant_of-lo
invariant_of-lo c =
    let held : Between c.args.self.p c.args.span = between c.args.self.p 22 c.args.self.small c.requires in
    record { small = omega (arith, held.apart, held.inside) }

pub overflow_sub-short : goal.overflow_sub-short
overflow_sub-short c =
    let held : Between c.args.self.p c.args.span = between c.args.self.p 22 c.args.self.small c.requires in
    omega (arith, held.low, c.run.ensures.value, c.rise.ensures.value)

pub invariant_of-hi : goal.invariant_of-hi
invariant_of-hi c =
    let held : Between c.args.self.p c.args.span = between c.args.self.p 22 c.args.self.small c.requires in
    record { small = held.inside }

pub overflow_sub-past : goal.overflow_sub-past
overflow_sub-past c =
    let held : Between c.args.self.p c.args.span = between c.args.self.p 22 c.args.self.small c.requires in
    omega (arith, held.high, c.rise-2.ensures.value, c.run-2.ensures.value)

pub returns-then-short-past : goal.returns-then-short-past
returns-then-short-past c =
    takes_lo c.args.self.p c.args.span c.run.ensures.value c.rise.ensures.value c.rise-2.ensures.value c.run-2.ensures.value c.if-short-past.true

pub returns-else-short-past : goal.returns-else-short-past
returns-else-short-past c =
    takes_hi c.args.self.p c.args.span c.run.ensures.value c.rise.ensures.value c.rise-2.ensures.value c.run-2.ensures.value c.if-short-past.false
