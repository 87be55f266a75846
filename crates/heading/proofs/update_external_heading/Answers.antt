-- `heading::update_external_heading` meets its contract: by the number of what was given, and by that of the update inside.
use mathlib.Core.Path.{◌≡◌, sym, subst}
use Rattle.answer.specs.declared.change.Reading.{Reading}
use Rattle.ahrs.specs.declared.Ahrs.{Ahrs}
use Rattle.heading.specs.Calls.{UpdatesHeading}
use Rattle.heading.proofs.External.{external_refused, external_7, external_made}
use Rattle.heading.proofs.update_external_heading.Goals as goal

pub returns-in-Err : goal.returns-in-Err
returns-in-Err c =
    let a = c.args in
    subst
    (λ (r : Reading Ahrs). UpdatesHeading a.state a.gyroscope a.accelerometer a.heading r)
    (sym c.refused.ensures)
    (external_refused _ _ _ _ c.is_finite.ensures c.is_finite-2.ensures c.in-Err.ensures)

pub returns-then-is_finite-is_err : goal.returns-then-is_finite-is_err
returns-then-is_finite-is_err c =
    let a = c.args in
    subst
    (λ (r : Reading Ahrs). UpdatesHeading a.state a.gyroscope a.accelerometer a.heading r)
    (sym c.refused-then-is_finite-is_err.ensures)
    (external_7 _ _ _ _ c.is_finite.ensures c.is_finite-2.ensures c.in_default.ensures c.heading_magnetometer-magnetometer.ensures
    c.update-reading.ensures _ c.check-2.ensures c.roll-at.ensures c.is_finite-3.ensures c.is_err.ensures.value c.if-is_finite-is_err.true)

pub returns : goal.returns
returns c =
    external_made _ _ _ _ c.is_finite.ensures c.is_finite-2.ensures c.in_default.ensures c.heading_magnetometer-magnetometer.ensures c.update-reading.ensures _
    c.check-2.ensures c.roll-at.ensures c.is_finite-3.ensures c.is_err.ensures.value c.if-is_finite-is_err.false
