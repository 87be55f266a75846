-- `trials::main` ends: the measure is how many bytes are left.
use Rattle.std.proofs.Common.{length}
use Rattle.trials.proofs.main.Given as goal

abbrev pub decreases-loop-next : goal.decreases-loop-next
decreases-loop-next l = length l.rest
