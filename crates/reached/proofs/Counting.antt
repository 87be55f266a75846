-- What holds of a sensor's counts after a reset and after its own update holds after the filter's. Assumes nothing.
use mathlib.Core.Bool.{Bool, true, false, cond}
use lib.IntN.{ℤ}
use lib.Ieee.{Float}
use Rattle.vector.specs.declared.Vector.{Vector}
use Rattle.vector.specs.Vectors.{is_zero_of, cross_of, normalize_of}
use Rattle.settings.specs.declared.config.Config.{Config}
use Rattle.step.specs.declared.Rejection.{Rejection}
use Rattle.step.specs.declared.sensor.Feedback.{Feedback}
use Rattle.ahrs.specs.declared.Ahrs.{Ahrs}
use Rattle.step.specs.Sensor.{residual_of, skipped_of, rejected_of, half_inclination_feedback_of, half_heading_feedback_of}
use Rattle.settings.specs.Axes.{any_of, over_of}
use Rattle.ahrs.specs.Filter.{soft_restarted_of, overrange_of, half_feedback_of, updated_of}

module _
    (P : ℤ → Rejection → Type 0)
    (skipped : (timeout : ℤ) (r : Rejection) → P timeout r → P timeout (skipped_of r).rejection) where
  picked
      : (timeout : ℤ) (r : Rejection) (f : Feedback) (b : Bool)
      → P timeout r → P timeout f.rejection → P timeout (cond b (skipped_of r) f).rejection
  picked timeout r f true h k = skipped timeout r h
  picked timeout r f false h k = k

  -- one sensor's, whatever the residual and the limit
  module _
      (c : Config)
      (rejected
      : (r : Rejection) (v : Vector) (startup : Bool) (limit : Float)
      → P c.rejection_timeout (rejected_of r v startup limit c.rejection_timeout).rejection) where
    after_inclination
        : (r : Rejection) (gravity a : Vector) (startup : Bool)
        → P c.rejection_timeout r → P c.rejection_timeout (half_inclination_feedback_of r gravity a startup c).rejection
    unfolding half_inclination_feedback_of
    after_inclination r gravity a startup h =
        picked _ r _ (is_zero_of a) h (rejected r (residual_of (normalize_of a) gravity) startup c.acceleration_rejection)

    after_heading
        : (r : Rejection) (gravity west m : Vector) (startup : Bool)
        → P c.rejection_timeout r → P c.rejection_timeout (half_heading_feedback_of r gravity west m startup c).rejection
    unfolding half_heading_feedback_of
    after_heading r gravity west m startup h =
        picked _ r _ (is_zero_of m) h (rejected r (residual_of (normalize_of (cross_of gravity m)) west) startup c.magnetic_rejection)

-- an overrange keeps what holds of a state and of one that is softly restarted
pub after_overrange
    : (Q : Ahrs → Type 0) (s : Ahrs) (g : Vector) → Q s → Q (soft_restarted_of s (over_of s.config g)) → Q (overrange_of s g)
unfolding overrange_of
after_overrange Q s g h k = go (any_of (over_of s.config g))
  where
    go : (b : Bool) → Q (cond b (soft_restarted_of s (over_of s.config g)) s)
    go true = k
    go false = h

-- now is the state after the overrange
module _
    (P : ℤ → Rejection → Type 0) (s : Ahrs) (g a m : Vector)
    (skipped : (timeout : ℤ) (r : Rejection) → P timeout r → P timeout (skipped_of r).rejection)
    (rejected
    : (r : Rejection) (v : Vector) (startup : Bool) (limit : Float)
    → let timeout = (overrange_of s g).config.rejection_timeout in P timeout (rejected_of r v startup limit timeout).rejection) where
  pub acceleration_after
      : P (overrange_of s g).config.rejection_timeout (overrange_of s g).acceleration
      → P (updated_of s g a m).config.rejection_timeout (updated_of s g a m).acceleration
  unfolding updated_of half_feedback_of
  acceleration_after h = after_inclination P skipped (overrange_of s g).config rejected (overrange_of s g).acceleration _ a _ h

  pub magnetic_after
      : P (overrange_of s g).config.rejection_timeout (overrange_of s g).magnetic
      → P (updated_of s g a m).config.rejection_timeout (updated_of s g a m).magnetic
  unfolding updated_of half_feedback_of
  magnetic_after h = after_heading P skipped (overrange_of s g).config rejected (overrange_of s g).magnetic _ _ m _ h
