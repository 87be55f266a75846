-- Of the vectors that were read no more are wrong.
use Rattle.std.proofs.Common.{◌≡◌, ◌≤◌}
use Rattle.bench.proofs.roots.run.Given as goal

abbrev pub invariant-loop-read : goal.invariant-loop-read
invariant-loop-read l = (l.tally.wrong ≤ l.read) × (l.tally.read ≡ l.read)
