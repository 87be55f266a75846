-- `trig::octant::Tangent::guess` meets its contract: its calls are `guess_of`, written out.
use Rattle.trig.specs.Octant.{guess_of}
use Rattle.trig.proofs.octant.Tangent.guess.Goals as goal

pub returns : goal.returns
unfolding guess_of
returns c = cc
