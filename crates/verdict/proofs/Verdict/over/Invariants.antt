-- `verdict::Verdict::over` meets its contract.
use mathlib.Core.Path.{◌≡◌}
use lib.ListN.{drop}
use Rattle.verdict.specs.Verdict.{verdict_of}
use Rattle.verdict.proofs.Verdict.over.Given as goal

-- what the rest will make of it is what the whole makes
abbrev pub invariant-loop-byte : goal.invariant-loop-byte
invariant-loop-byte l = verdict_of l.verdict (drop l.byte-index l.text) ≡ verdict_of l.fn.self l.text
