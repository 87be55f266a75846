-- `heading::set_heading` meets its contract: by what its tests found.
use Rattle.ahrs.specs.Filter.{with_quaternion}
use Rattle.heading.proofs.Setting.{set_refused, set_7, set_made}
use Rattle.heading.proofs.set_heading.Goals as goal

pub returns-in-Err : goal.returns-in-Err
returns-in-Err c = set_refused _ _ c.in-Err.ensures c.refused.ensures

pub returns-then-not-is_finite : goal.returns-then-not-is_finite
returns-then-not-is_finite c =
    set_7 _ _ c.in_default.ensures c.yaw-at.ensures c.headed-quaternion.ensures c.is_finite.ensures c.is_finite-2.ensures c.if-not-is_finite.true
    c.refused-then-not-is_finite.ensures

pub returns : goal.returns
unfolding with_quaternion
returns c =
    set_made _ _ c.in_default.ensures c.yaw-at.ensures c.headed-quaternion.ensures c.is_finite.ensures c.is_finite-2.ensures c.if-not-is_finite.false
    c.made.ensures
