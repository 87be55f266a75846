-- `number::fabsf` meets its contract: each return has the sign's test that it needs, and a zero that an `f32` holds is written in one way.
use Rattle.std.proofs.Common.{T, sym, subst}
use lib.Ieee.{of_bits}
use Rattle.number.proofs.Size.{fabsf_negative, fabsf_nought, fabsf_other}
use Rattle.number.proofs.float.fabsf.Goals as goal

pub returns-then-x : goal.returns-then-x
unfolding of_bits
returns-then-x c = fabsf_negative c.args.x c.if-x.true

pub returns-then-x-2 : goal.returns-then-x-2
unfolding of_bits
returns-then-x-2 c = fabsf_nought c.args.x (subst T (sym c.well_formed.0.1) tt) c.if-x-2.true

pub returns : goal.returns
unfolding of_bits
returns c = fabsf_other c.args.x c.if-x.false c.if-x-2.false
