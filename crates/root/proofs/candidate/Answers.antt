-- `root::candidate` meets its contract: an n below 2 ^ 53 is an f64.
use native.Mathlib.Omega.{arith}
use Prim.Native.Nat.{◌≤◌, ◌^◌}
use lib.Dec.{le→leb}
use lib.Ieee.{in_float}
use Rattle.root.proofs.candidate.Goals as goal

pub int_to_float-t : goal.int_to_float-t
unfolding in_float
int_to_float-t c = let h : c.args.n ≤ 2 ^ 53 = omega arith in le→leb c.args.n (2 ^ 53) h
