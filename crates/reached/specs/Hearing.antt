-- What one sensor hears in a run of calls, as far as its counts go. An update that is accepted brings it a reading, good, over its limit or all zero, where
-- startup is over and no axis over range; with a heading from elsewhere the magnetometer reads what would show it, and with none zeros. Startup, an
-- overrange, a restart and new settings disturb it: the last set its threshold even where they are the old ones. Every other call, and every one that is
-- refused, may come between: it leaves T and the sensor's counts.
use Rattle.std.specs.Prelude.{ℕ, ◌≡◌, cond, ◌||◌, List, [], ◌∷◌, ℤ, Float}
use Rattle.std.proofs.Math.Option.{Option, none, some}
use Rattle.std.specs.Float.Ieee.{le}
use Rattle.answer.specs.Refusals.{refusal_of, accepted}
use Rattle.answer.specs.Runs.{step_of}
use Rattle.vector.specs.declared.Vector.{Vector}
use Rattle.vector.specs.Vectors.{zero_vector, is_zero_of, norm_squared_of, cross_of, normalize_of}
use Rattle.rejection.specs.declared.Counts.{Counts}
use Rattle.rejection.specs.Readings.{Kind, good, over, all_zero, by_kind, after_all}
use Rattle.settings.specs.Axes.{any_of, over_of}
use Rattle.step.specs.declared.Rejection.{Rejection}
use Rattle.step.specs.Sensor.{counts_of, residual_of}
use Rattle.step.specs.Direction.{half_gravity_of, half_west_of}
use Rattle.ahrs.specs.declared.Ahrs.{Ahrs}
use Rattle.ahrs.specs.Filter.{updated_of}
use Rattle.ahrs.specs.Calls.{update_checks, state_checks, change_checks}
use Rattle.heading.specs.Turn.{magnetometer_of}
use Rattle.heading.specs.Calls.{external_checks, unaided_checks}
use Rattle.reached.specs.Runs.{Call, update, restart, skip_startup, set_settings, set_sample_period, set_quaternion, outline_of}
use Rattle.reached.specs.Runs.{set_heading, update_external_heading, update_no_magnetometer, Readings, readings_of}
use Rattle.reached.specs.Deaf.{Sensor, of_sensor, feedback_by, reached_of}

-- ---- one reading

-- the sensor's half residual in an update
abbrev pub residual_at : Sensor → Ahrs → Vector → Vector → Vector
residual_at k s a m =
    let gravity = half_gravity_of s.settings.convention s.quaternion in
    let west = half_west_of s.settings.convention s.quaternion in
    of_sensor k (residual_of (normalize_of a) gravity) (residual_of (normalize_of (cross_of gravity m)) west)

abbrev pub limit_at : Sensor → Ahrs → Float
limit_at k s = of_sensor k s.config.acceleration_rejection s.config.magnetic_rejection

abbrev pub kind_at : Sensor → Ahrs → Vector → Vector → Kind
kind_at k s a m =
    cond (is_zero_of (of_sensor k a m)) all_zero (cond (le (norm_squared_of (residual_at k s a m)) (limit_at k s)) good over)

-- ---- one call

pub data Heard : Type 0 where
  hears : Kind → Heard
  nothing : Heard
  disturbed : Heard

-- in an update, of whatever kind, by its number and its readings
abbrev pub heard_by : Sensor → Ahrs → ℕ → Vector → Vector → Vector → Heard
heard_by k s n g a m =
    let disturbs = any_of (over_of s.config g) || (updated_of s g a m).startup in
    accepted n (cond disturbs disturbed (hears (kind_at k s a m))) nothing

abbrev pub heard_in : Sensor → Ahrs → Call → Heard
heard_in k s (update g a m) = heard_by k s (refusal_of (update_checks s g a m)) g a m
heard_in k s (update_external_heading g a h) = heard_by k s (refusal_of (external_checks s g a h)) g a (magnetometer_of s.quaternion h)
heard_in k s (update_no_magnetometer g a) = heard_by k s (refusal_of (unaided_checks s g a)) g a zero_vector
heard_in k s restart = accepted (refusal_of (state_checks s)) disturbed nothing
heard_in k s (set_settings t) = accepted (refusal_of (change_checks s t)) disturbed nothing
heard_in k s skip_startup = nothing
heard_in k s (set_sample_period p) = nothing
heard_in k s (set_quaternion q) = nothing
heard_in k s (set_heading h) = nothing

-- ---- a run: its readings in turn, or none of them where a call disturbs it

abbrev pub with_heard : Heard → Option (List Kind) → Option (List Kind)
with_heard (hears x) (some xs) = some (x ∷ xs)
with_heard (hears x) none = none
with_heard nothing rest = rest
with_heard disturbed rest = none

abbrev pub heard_of : Sensor → Ahrs → List Call → Option (List Kind)
heard_of k s [] = some []
heard_of k s (c ∷ cs) = with_heard (heard_in k s c) (heard_of k (step_of outline_of s c).state cs)

-- ---- what the readings make of the sensor

abbrev pub rejection_of : Sensor → Ahrs → Rejection
rejection_of k s = of_sensor k s.acceleration s.magnetic

-- T, and the sensor's counts
pub record Keeps (k : Sensor) (timeout : ℤ) (c : Counts) (s : Ahrs) : Type 0 where
  pub timeout_is : s.config.rejection_timeout ≡ timeout
  pub counts_are : counts_of (rejection_of k s) ≡ c

-- what it adds to the feedback of an update, of whatever kind; that is the sum of both sensors' (`MarkTells` of `Deaf`)
abbrev pub added_by : Sensor → Ahrs → Call → Vector
added_by k s c = feedback_by (rejection_of k (step_of outline_of s c).state)

-- and its half residual there
abbrev pub residual_by : Sensor → Ahrs → Option Readings → Vector
residual_by k s (some r) = residual_at k s r.accelerometer r.magnetometer
residual_by k s none = zero_vector

abbrev pub residual_in : Sensor → Ahrs → Call → Vector
residual_in k s c = residual_by k s (readings_of s c)

-- a run leaves the counts as its readings leave them by themselves
abbrev pub Follows : Type 0
Follows =
    (k : Sensor) (timeout : ℤ) (c : Counts) (s : Ahrs) → Keeps k timeout c s → (cs : List Call) (xs : List Kind) → heard_of k s cs ≡ some xs
    → Keeps k timeout (after_all timeout c xs) (reached_of s cs)

-- a reading that is used adds its residual, and any other zero
abbrev pub Adds : Type 0
Adds =
    (k : Sensor) (timeout : ℤ) (c : Counts) (s : Ahrs) → Keeps k timeout c s → (call : Call) (x : Kind) → heard_in k s call ≡ hears x
    → added_by k s call ≡ cond (by_kind timeout c x).used (residual_in k s call) zero_vector
