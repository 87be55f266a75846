-- `lines::feed` meets its contract.
use Rattle.lines.proofs.Feeding.{Feeding}
use Rattle.lines.proofs.feed.Given as goal

abbrev pub invariant-loop-byte : goal.invariant-loop-byte
invariant-loop-byte l = Feeding l.part l.initial.out l.initial.fed.line l.out l.fed l.byte-index
