-- `lines::last` meets its contract.
use mathlib.Core.Path.{refl, ap, sym, subst, ◌∙◌}
use Rattle.text.specs.Putting.{Puts}
use Rattle.lines.specs.Rule.{text_of, last_of}
use Rattle.lines.specs.Inner.{Printable}
use Rattle.lines.proofs.Answering.{printable}
use Rattle.text.proofs.Putting.{puts_as, puts_nothing}
use Rattle.text.proofs.Feeding.{refused, fed}
use Rattle.lines.proofs.Promising.{no_room_for_last, room_for_last}
use Rattle.lines.proofs.Keeping.{last_empty, last_line}
use Rattle.lines.proofs.last.Goals.{then-line-eq0, else-line-eq0}
use Rattle.lines.proofs.last.Goals as goal

pub returns-then-out-lt10 : goal.returns-then-out-lt10
returns-then-out-lt10 c = refused _ _ _ _ _ 0 (no_room_for_last c.args.out.now c.if-out-lt10.true)

pub put-n-requires-clause-printable : goal.put-n-requires-clause-printable
put-n-requires-clause-printable c = subst Printable (sym c.answer.ensures) (printable _ _)

pub returns : goal.returns
returns c =
    let line = c.args.line in
    let put : Puts (last_of line.n line.text) c.args.out.now c.if-line-eq0.out c.if-line-eq0.n = elim c.if-line-eq0.branch [
      | then-line-eq0 w ↦
          let p = puts_as (last_empty line.n line.text w.if-line-eq0.true) (puts_nothing c.args.out.now) in
          record { count = w.n-is ∙ p.count; holds = w.out-is ∙ p.holds }
      | else-line-eq0 w ↦
          let p = puts_as (ap text_of w.answer.ensures ∙ last_line line.n line.text w.if-line-eq0.false) w.put-n.ensures in
          record { count = w.n-is ∙ p.count; holds = w.out-is ∙ p.holds }
    ] in
    fed _ _ _ _ _ (room_for_last c.args.out.now c.if-out-lt10.false) refl c.fresh.ensures put
