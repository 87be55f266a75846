-- `playback::line::put_line` meets its contract.
use Rattle.playback.proofs.Lining.{puts_line}
use Rattle.playback.proofs.line.put_line.Goals as goal

pub returns : goal.returns
returns c =
    puts_line c.args.q c.args.out.now c.requires c.bits_of-w.ensures c.bits_of-x.ensures c.bits_of-y.ensures
    c.bits_of-z.ensures c.put_words.ensures
