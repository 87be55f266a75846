-- `trig::calls::sin_degrees` meets its contract: a number that its checks let through is near.
use Rattle.trig.proofs.Answering.{in_range}
use Rattle.trig.proofs.calls.sin_degrees.Goals as goal

pub returns-clause-near : goal.returns-clause-near
returns-clause-near c = c.sin.ensures.near (in_range c.args.x c.in_ok-check.ensures)
