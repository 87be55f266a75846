-- `lines::Line::print` meets its contract.
use mathlib.Core.Path.{ap, sym, subst, ◌∙◌}
use Rattle.lines.specs.Rule.{text_of}
use Rattle.lines.specs.Inner.{Printable}
use Rattle.lines.proofs.Answering.{printable}
use Rattle.lines.proofs.Keeping.{answered, silent}
use Rattle.text.proofs.Putting.{puts_as, puts_nothing}
use Rattle.lines.proofs.Line.print.Goals as goal

pub returns-then-byte-ne10 : goal.returns-then-byte-ne10
returns-then-byte-ne10 c = puts_as (silent _ _ c.if-byte-ne10.true) (puts_nothing _)

pub put-requires-clause-printable : goal.put-requires-clause-printable
put-requires-clause-printable c = subst Printable (sym c.answer.ensures) (printable _ _)

pub returns : goal.returns
returns c = puts_as (ap text_of c.answer.ensures ∙ answered _ _ c.if-byte-ne10.false) c.put.ensures
