-- `offset::is_storable` meets its contract: the tests of a float's bits are those of the float.
use native.Mathlib.Omega.{arith}
use Rattle.offset.proofs.Storable.{storable_bits}
use Rattle.offset.proofs.is_storable.Goals as goal

pub returns : goal.returns
returns c = rw (c.is_finite_bits.ensures, storable_bits c.args.bits (omega arith))
