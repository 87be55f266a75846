-- `text::words::put_words` meets its contract.
use Rattle.text.proofs.Putting.{puts_as}
use Rattle.text.proofs.Pairs.{no_words, puts_words}
use Rattle.text.proofs.words.put_words.Goals as goal

pub returns-then-out-lt36 : goal.returns-then-out-lt36
returns-then-out-lt36 c = no_words _ _ _ _ c.args.out.now c.if-out-lt36.true

pub returns : goal.returns
returns c =
    let old = c.args.out.now in
    puts_words _ _ _ _ old c.if-out-lt36.false c.copy.auto.out (puts_as c.pair.ensures c.copy.ensures)
    (puts_as c.pair-2.ensures c.copy-2.ensures)
