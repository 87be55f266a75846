-- `lines::Line::answer` meets its contract.
use Rattle.std.proofs.Common.{rules, Err}
use native.Mathlib.Omega.{arith}
use mathlib.Core.Path.{◌≡◌, sym, ◌∙◌}
use Rattle.lines.proofs.Answering.{malformed, first_unknown, second_unknown, two_names}
use Rattle.lines.proofs.Line.answer.Goals as goal

pub returns-then-self-text : goal.returns-then-self-text
returns-then-self-text c = malformed _ _ c.if-self-text.true

pub returns-in_err-first : goal.returns-in_err-first
returns-in_err-first c =
    let is : c.from_residual.result ≡ Err c.in_err-first.field-0.0 = search rules in
    is ∙ first_unknown _ _ (omega arith) c.if-self-text.false _ c.in_err-first.was c.read_name.ensures.exact

pub returns-in_err-second : goal.returns-in_err-second
returns-in_err-second c =
    let is : c.from_residual-in_err-second.result ≡ Err c.in_err-second.field-0.0 = search rules in
    is
    ∙ second_unknown _ _ (omega arith) c.if-self-text.false _ _ c.in_ok-first.was c.read_name.ensures.exact c.in_err-second.was c.read_name-2.ensures.exact

pub returns : goal.returns
returns c =
    two_names _ _ (omega arith) c.if-self-text.false (sym c.in_ok-first.was ∙ c.read_name.ensures.exact) (sym c.in_ok-second.was ∙ c.read_name-2.ensures.exact)
    c.compose.ensures.exact
