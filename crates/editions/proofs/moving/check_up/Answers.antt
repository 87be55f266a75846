-- `editions::moving::check_up` meets its contract: the move's number, or the settings'.
use Rattle.std.proofs.Common.{rules, ◌≡◌}
use Rattle.std.specs.declared.result.Result.TheVariants.{Err}
use mathlib.Core.Path.{sym, ◌∙◌}
use Rattle.answer.proofs.Answering.{is_row}
use Rattle.answer.proofs.Ordering.{at_once_by, later}
use Rattle.editions.specs.Edition.{first, second}
use Rattle.editions.specs.Move.{move_checks}
use Rattle.editions.proofs.Accepting.{move_numbered}
use Rattle.editions.proofs.moving.check_up.Goals as goal

pub returns-in_err-check_move : goal.returns-in_err-check_move
returns-in_err-check_move c =
    let is : c.from_residual.result ≡ Err c.in_err-check_move.field-0.0 = search rules in
    rw is (at_once_by (move_checks first second c.args.source.now c.args.room) _ c.in_err-check_move.ensures (is_row _))

pub returns : goal.returns
returns c =
    let a = c.args in
    c.check.ensures
    ∙ sym
    (later (move_checks first second a.source.now a.room) _ (move_numbered a.source.now a.settings a.room)
    (sym c.in_ok-check_move.ensures))
