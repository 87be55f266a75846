-- `text::put_last` meets its contract.
use Rattle.text.proofs.Refused.{no_last, is_last}
use Rattle.text.proofs.put_last.Goals as goal

pub returns-then-number-eq0 : goal.returns-then-number-eq0
returns-then-number-eq0 c = no_last _ c.if-number-eq0.true

pub returns : goal.returns
returns c = is_last _ c.if-number-eq0.false c.put_refused.ensures
