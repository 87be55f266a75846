-- `trig::wave::Lifted::rest` meets its contract: what is left is at most 45 degrees.
use Rattle.std.proofs.Common.{◌∙◌, lit<}
use Rattle.trig.specs.Degrees.{left}
use Rattle.trig.specs.Wave.{degree}
use Rattle.trig.proofs.Reduce.{left_small}
use Rattle.trig.proofs.wave.Lifted.rest.Goals as goal

pub radians-requires : goal.radians-requires
unfolding left
radians-requires c = rw (c.abs_diff.ensures, c.quarters.ensures.value) (left_small c.args.self.y degree (lit< tt))

pub returns : goal.returns
unfolding left
returns c = c.radians.ensures ∙ rw (c.abs_diff.ensures, c.quarters.ensures.value)
