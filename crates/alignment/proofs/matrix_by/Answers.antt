-- `alignment::matrix_by` meets its contract: each of the six rows has the floats of its axis.
use lib.Ieee.{of_bits, of_int, round, units, odd, neg}
use Rattle.alignment.proofs.matrix_by.Goals as goal

pub returns : goal.returns
unfolding of_bits of_int round units odd neg
returns c = c.from.ensures
