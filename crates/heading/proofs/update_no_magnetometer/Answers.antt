-- `heading::update_no_magnetometer` meets its contract: by what its halves gave.
use mathlib.Core.Path.{◌≡◌, sym, subst}
use Rattle.answer.proofs.Tests.{untrue, still}
use Rattle.answer.specs.declared.change.Reading.{Reading}
use Rattle.ahrs.specs.declared.Ahrs.{Ahrs}
use Rattle.heading.specs.Calls.{UpdatesUnaided}
use Rattle.heading.proofs.Unaided.{unaided_refused, startup_over, second_refused, north_set}
use Rattle.heading.proofs.update_no_magnetometer.Goals as goal

pub returns-then-is_err : goal.returns-then-is_err
returns-then-is_err c = unaided_refused _ _ _ c.update-reading.ensures _ c.check.ensures c.is_err.ensures.value c.if-is_err.true

pub returns-then-not-reading : goal.returns-then-not-reading
returns-then-not-reading c =
    startup_over _ _ _ c.update-reading.ensures _ c.check.ensures c.is_err.ensures.value c.if-is_err.false (untrue _ c.if-not-reading.true)

pub returns-in-Err : goal.returns-in-Err
returns-in-Err c =
    let a = c.args in
    subst
    (λ (r : Reading Ahrs). UpdatesUnaided a.state a.gyroscope a.accelerometer r)
    (sym c.refused.ensures)
    (second_refused _ _ _ c.update-reading.ensures _ c.check.ensures c.is_err.ensures.value c.if-is_err.false (still _ c.if-not-reading.false) _
    c.set_heading-zeroed.ensures c.in-Err.is)

pub returns : goal.returns
returns c =
    north_set _ _ _ c.update-reading.ensures _ c.check.ensures c.is_err.ensures.value c.if-is_err.false (still _ c.if-not-reading.false) _
    c.set_heading-zeroed.ensures c.in_default.is
