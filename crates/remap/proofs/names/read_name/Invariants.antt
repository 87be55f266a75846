-- `remap::names::read_name` meets its contract: no mounting below the number has the name.
use Prim.Native.Nat.{◌-◌}
use mathlib.Core.Path.{◌≡◌}
use Rattle.remap.specs.First.{first}
use Rattle.remap.specs.Names.{name_of, same, named_by}
use Rattle.remap.proofs.names.read_name.Given as goal

abbrev pub invariant-loop-number : goal.invariant-loop-number
invariant-loop-number l = named_by l.name ≡ first (λ n. same l.name (name_of n)) (24 - l.number) l.number
