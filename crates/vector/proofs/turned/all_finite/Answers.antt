-- `vector::turned::all_finite` meets its contract.
use Rattle.vector.proofs.AllFinite.{all_three_finite}
use Rattle.vector.proofs.turned.all_finite.Goals as goal

pub returns : goal.returns
returns c = all_three_finite c.args.v
