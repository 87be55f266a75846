-- `remap::names::Mounting::is_named` meets its contract.
use native.Mathlib.Omega.{arith}
use mathlib.Core.Path.{sym, ◌∙◌}
use Rattle.remap.proofs.Naming.{name_next, name_not, name_end, byte_at}
use Rattle.remap.proofs.mounting.Mounting.is_named.Goals as goal

pub returns-then-byte-byte_of : goal.returns-then-byte-byte_of
returns-then-byte-byte_of c =
    let byte = c.byte_of.ensures ∙ byte_at _ _ c.args.self.below (omega arith) c.axes-axes.ensures in
    sym (c.loop-k.invariant ∙ name_not _ _ _ c.requires (omega arith) (λ e. c.if-byte-byte_of.true (e ∙ sym byte)))

pub loop-k-preserved : goal.loop-k-preserved
loop-k-preserved c =
    let byte = c.byte_of.ensures ∙ byte_at _ _ c.args.self.below (omega arith) c.axes-axes.ensures in
    c.loop-k.invariant ∙ name_next _ _ _ c.requires (omega arith) (c.if-byte-byte_of.false ∙ byte)

pub returns : goal.returns
returns c = sym (c.loop-k.invariant ∙ name_end _ _ _ c.requires (omega arith))
