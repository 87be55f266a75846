-- `remap::names::read_name` meets its contract.
use mathlib.Core.Path.{refl, sym, ◌∙◌}
use Rattle.answer.specs.Said.{alone}
use Rattle.answer.proofs.Tests.{differs}
use Rattle.answer.proofs.Answering.{fails, refuses_result}
use Rattle.answer.specs.declared.refusal.Refusal.TheVariants.{Length}
use Rattle.remap.proofs.Naming.{reads, unknown}
use Rattle.remap.proofs.Searching.{first_next, first_here, first_end}
use Rattle.remap.proofs.names.read_name.Goals as goal

pub returns-then-name-ne6 : goal.returns-then-name-ne6
returns-then-name-ne6 c = refuses_result alone _ _ Length (sym (fails 1 _ (differs _ 6 c.if-name-ne6.true)))

pub loop-number-init : goal.loop-number-init
loop-number-init c = refl

pub returns-then-is_named : goal.returns-then-is_named
returns-then-is_named c =
    let here = first_here _ 24 _ c.loop-number-test.true (sym c.is_named.ensures ∙ c.if-is_named.true) in
    reads _ c.if-name-ne6.false _ c.loop-number-test.true (c.loop-number.invariant ∙ here)

pub loop-number-preserved : goal.loop-number-preserved
loop-number-preserved c = c.loop-number.invariant ∙ first_next _ 24 _ c.loop-number-test.true (sym c.is_named.ensures ∙ c.if-is_named.false)

pub returns : goal.returns
returns c = unknown _ c.if-name-ne6.false _ c.loop-number-test.false (c.loop-number.invariant ∙ first_end _ 24 _ c.loop-number-test.false)
