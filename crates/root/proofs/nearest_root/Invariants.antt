-- `root::nearest_root` meets its contract. The invariant is the candidate's range, and the measure its distance from the root.
use Prim.Native.Nat.{◌+◌, ◌-◌, ◌<◌, ◌^◌}
use Rattle.root.specs.Root.{nearest_root_of}
use Rattle.root.proofs.nearest_root.Given as goal

abbrev pub invariant-loop-r : goal.invariant-loop-r
invariant-loop-r l = l.r < 2 ^ 25

abbrev pub decreases-loop-r : goal.decreases-loop-r
decreases-loop-r l = (nearest_root_of l.n - l.r) + (l.r - nearest_root_of l.n)
