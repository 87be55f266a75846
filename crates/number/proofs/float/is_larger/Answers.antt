-- `number::is_larger` meets its contract: below zero the size is the opposite, elsewhere the number itself but for the sign of a zero.
use Rattle.std.proofs.Common.{ap}
use lib.Ieee.{Float, lt, of_bits}
use Rattle.number.proofs.Size.{fabsf_negative, size_above}
use Rattle.number.proofs.float.is_larger.Goals as goal

pub returns-then-x : goal.returns-then-x
unfolding of_bits
returns-then-x c = ap (λ (y : Float). lt c.args.limit y) (fabsf_negative c.args.x c.if-x.true)

pub returns : goal.returns
unfolding of_bits
returns c = size_above _ c.args.x c.if-x.false
