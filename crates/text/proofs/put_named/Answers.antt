-- `text::put_named` meets its contract.
use native.Mathlib.Omega.{arith}
use mathlib.Core.Path.{ap, ◌∙◌}
use lib.ListN.{length}
use Rattle.text.proofs.Putting.{puts_as}
use Rattle.text.proofs.Digits.{kit_digits}
use Rattle.text.proofs.Named.{no_named, puts_named}
use Rattle.text.proofs.put_named.Goals as goal

pub returns-then-out-k : goal.returns-then-out-k
returns-then-out-k c =
    let d = c.decimal-k.ensures in
    no_named _ _ c.args.out.now (d.in_bounds.1 ∙ ap length (kit_digits c.ranges.number.fits d.digits d.len))
    (omega (arith, c.if-out-k.true))

pub returns-then-out-k-2 : goal.returns-then-out-k-2
returns-then-out-k-2 c =
    let d = c.decimal-k.ensures in
    no_named _ _ c.args.out.now (d.in_bounds.1 ∙ ap length (kit_digits c.ranges.number.fits d.digits d.len))
    (omega (arith, c.if-out-k.false, c.if-out-k-2.true))

pub returns : goal.returns
returns c =
    let d = c.decimal-k.ensures in
    let is = kit_digits c.ranges.number.fits d.digits d.len in
    puts_named _ _ c.args.out.now (d.in_bounds.1 ∙ ap length is) (omega (arith, c.if-out-k.false, c.if-out-k-2.false))
    c.copy-n.ensures (puts_as is c.copy.ensures)
