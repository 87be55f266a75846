-- `remap::names::byte_of` meets its contract, by the test of the place.
use borrow.Author.Tests.{eq-eqb, ne_eqb}
use Rattle.remap.specs.Inner.{byte_of}
use Rattle.remap.proofs.names.byte_of.Goals as goal

pub returns-then-k-eq0 : goal.returns-then-k-eq0
unfolding byte_of
returns-then-k-eq0 c = simp (eq-eqb _ _ c.if-k-eq0.true)

pub returns-else-k-eq0 : goal.returns-else-k-eq0
unfolding byte_of
returns-else-k-eq0 c = simp (ne_eqb _ _ c.if-k-eq0.false)
