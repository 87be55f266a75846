-- `remap::names::Mounting::is_named` meets its contract.
use mathlib.Core.Path.{◌≡◌}
use lib.ListN.{drop}
use Rattle.remap.specs.Names.{name_of, same}
use Rattle.remap.proofs.mounting.Mounting.is_named.Given as goal

abbrev pub invariant-loop-k : goal.invariant-loop-k
invariant-loop-k l = same l.name (name_of l.fn.self.number) ≡ same (drop l.k l.name) (drop l.k (name_of l.fn.self.number))
