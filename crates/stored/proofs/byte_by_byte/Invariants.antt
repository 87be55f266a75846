-- `stored::byte_by_byte` prints within the slice.
use Rattle.std.proofs.Common.{◌≤◌, length}
use Rattle.stored.proofs.byte_by_byte.Given as goal

abbrev pub invariant-loop-i : goal.invariant-loop-i
invariant-loop-i g l = l.fed.n ≤ length l.out
