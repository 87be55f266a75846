-- `number::is_finite` meets its contract: x - x is equal to itself only where x is finite.
use lib.Ieee.{binary32}
use Rattle.number.proofs.Size.{less_itself}
use Rattle.number.proofs.float.is_finite.Goals as goal

pub returns : goal.returns
returns c = less_itself binary32 c.args.x
