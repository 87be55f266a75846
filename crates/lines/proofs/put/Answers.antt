-- `lines::put` meets its contract.
use Prim.Native.Nat.{◌<◌}
use native.Mathlib.Omega.{arith}
use mathlib.Core.Path.{ap, sym, subst, ◌∙◌}
use Rattle.text.specs.Text.{refused_of}
use Rattle.text.proofs.Putting.{puts_as}
use Rattle.text.proofs.Refused.{puts_low}
use Rattle.lines.specs.Rule.{text_of}
use Rattle.lines.specs.Inner.{Printable}
use Rattle.lines.proofs.Keeping.{name_line}
use Rattle.lines.proofs.put.Goals as goal

pub returns-in-Ok : goal.returns-in-Ok
returns-in-Ok c =
    puts_as (ap text_of (sym c.in-Ok.is)) (name_line _ c.args.out.now (c.copy_from_slice.ensures.after ∙ c.name.ensures) c.requires.in_bounds)

pub returns-in-Err : goal.returns-in-Err
unfolding text_of
returns-in-Err c =
    let small = subst Printable c.in-Err.is c.requires.printable in
    let low : c.number.result < 10 = omega (arith, c.number.ensures, small) in
    puts_as (ap refused_of c.number.ensures ∙ ap text_of (sym c.in-Err.is)) (puts_low _ c.args.out.now low c.requires.in_bounds c.put_refused.ensures)
