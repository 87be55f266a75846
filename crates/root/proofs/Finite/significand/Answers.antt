-- `root::Finite::significand` meets its contract.
use native.Mathlib.Nat.{mod-eq_of_lt}
use mathlib.Core.Path.{◌∙◌}
use borrow.Author.Tests.{lt-ltb}
use Rattle.root.specs.Root.{significand_of}
use Rattle.root.proofs.Scaled.{zeros_ge, moved_lt}
use Rattle.root.proofs.Finite.significand.Goals as goal

pub overflow_sub-b : goal.overflow_sub-b
overflow_sub-b c = zeros_ge c.args.self.bits c.args.self.in_range.0 c.if-b-lt8388608.true

pub returns-then-b-lt8388608 : goal.returns-then-b-lt8388608
unfolding significand_of
returns-then-b-lt8388608 c =
    let below = c.if-b-lt8388608.true in
    c.from.ensures ∙ simp (lt-ltb _ _ below) (mod-eq_of_lt (moved_lt c.args.self.bits c.args.self.in_range.0 below))
