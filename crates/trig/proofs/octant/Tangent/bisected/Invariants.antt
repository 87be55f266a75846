-- After i rounds the span is `span_of p i`.
use Rattle.std.proofs.Common.{◌≡◌}
use Rattle.trig.specs.Octant.{span_of}
use Rattle.trig.proofs.octant.Tangent.bisected.Given as goal

abbrev pub invariant-loop : goal.invariant-loop
invariant-loop l = l.span ≡ span_of l.self.p l.counter
