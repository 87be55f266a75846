-- `trig::limit::rejection_threshold` meets its contract.
use Rattle.trig.specs.Limit.{rejection_threshold_of}
use Rattle.trig.proofs.limit.rejection_threshold.Goals as goal

pub returns-then-degrees : goal.returns-then-degrees
unfolding rejection_threshold_of
returns-then-degrees c = rw c.if-degrees.true

pub returns : goal.returns
unfolding rejection_threshold_of
returns c = rw (c.if-degrees.false, c.sin-half_sin.ensures.value)
