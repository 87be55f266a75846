-- `editions::moving::check_move` meets its contract: the room, then the record.
use mathlib.Core.Path.{sym, ◌∙◌}
use Rattle.answer.proofs.Tests.{agrees, differs}
use Rattle.answer.proofs.Answering.{fails, passes}
use Rattle.editions.proofs.moving.check_move.Goals as goal

pub returns-then-room-to : goal.returns-then-room-to
returns-then-room-to c = sym (fails 1 _ (differs _ _ c.if-room-to.true))

pub returns : goal.returns
returns c = c.check_edition.ensures ∙ sym (passes 1 _ (agrees _ _ c.if-room-to.false))
