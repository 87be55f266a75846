-- 01, "Filter": the state, and how an update moves it, in the Rust's operation order.
use Rattle.std.specs.Prelude.{Bool, true, false, cond, ◌&&◌, ℤ, Float}
use Rattle.std.specs.Float.Ieee.Scale.{finite}
use Rattle.number.specs.Float32.{zero, one}
use Rattle.vector.specs.declared.Vector.{Vector}
use Rattle.math.specs.declared.quaternion.Quaternion.{Quaternion}
use Rattle.vector.specs.Vectors.{zero_vector, finite_vector, add_of, mul_of}
use Rattle.math.specs.Quaternions as quaternion
use Rattle.settings.specs.declared.Settings.{Settings}
use Rattle.settings.specs.declared.config.Config.{Config}
use Rattle.settings.specs.declared.axes.Axes.{Axes}
use Rattle.step.specs.declared.Rejection.{Rejection}
use Rattle.step.specs.declared.rate.Startup.{Startup}
use Rattle.settings.specs.Config.{initial_gain, finite_settings, finite_config}
use Rattle.settings.specs.Axes.{none, any_of, over_of}
use Rattle.step.specs.Sensor.{reset_of, half_inclination_feedback_of, half_heading_feedback_of, finite_rejection}
use Rattle.step.specs.Direction.{half_gravity_of, half_west_of}
use Rattle.step.specs.Rate.{startup_gain_of, rate_of, integrated_of}
use Rattle.ahrs.specs.declared.Ahrs.{Ahrs}
use Rattle.ahrs.specs.declared.update.HalfFeedback.{HalfFeedback}

-- ---- a state's floats

unfoldable pub finite_state : Ahrs → Bool
finite_state s =
    finite_settings s.settings && finite_config s.config && quaternion.finite_quaternion s.quaternion && finite_vector s.accelerometer
    && finite s.startup_gain && finite_rejection s.acceleration && finite_rejection s.magnetic

-- ---- states

-- a start, and a restart, which keeps settings and what they derive
unfoldable pub fresh_of : Settings → Config → Ahrs
fresh_of s c =
    record {
      settings = s;
      config = c;
      quaternion = quaternion.quaternion one zero zero zero;
      accelerometer = zero_vector;
      startup = true;
      startup_gain = initial_gain;
      overrange_recovery = none;
      acceleration = reset_of c.rejection_timeout;
      magnetic = reset_of c.rejection_timeout;
    }

abbrev pub restarted_of : Ahrs → Ahrs
restarted_of s = fresh_of s.settings s.config

-- ---- a state with one of its parts changed, and the rest as it was

abbrev ahrs : Settings → Config → Quaternion → Vector → Bool → Float → Axes → Rejection → Rejection → Ahrs
ahrs t c q a startup gain over acceleration magnetic =
    record {
      settings = t;
      config = c;
      quaternion = q;
      accelerometer = a;
      startup = startup;
      startup_gain = gain;
      overrange_recovery = over;
      acceleration = acceleration;
      magnetic = magnetic;
    }

abbrev given : Ahrs → Settings → Config → Ahrs
given s t c = ahrs t c s.quaternion s.accelerometer s.startup s.startup_gain s.overrange_recovery s.acceleration s.magnetic

abbrev pub starting : Ahrs → Bool → Float → Axes → Ahrs
starting s on gain over = ahrs s.settings s.config s.quaternion s.accelerometer on gain over s.acceleration s.magnetic

abbrev pub rejecting : Ahrs → Rejection → Rejection → Ahrs
rejecting s a m = ahrs s.settings s.config s.quaternion s.accelerometer s.startup s.startup_gain s.overrange_recovery a m

unfoldable pub with_quaternion : Ahrs → Quaternion → Ahrs
with_quaternion s q =
    ahrs s.settings s.config q s.accelerometer s.startup s.startup_gain s.overrange_recovery s.acceleration s.magnetic

unfoldable pub with_threshold : Rejection → ℤ → Rejection
with_threshold r timeout =
    record {
      half_residual = r.half_residual;
      recovery_trigger = r.recovery_trigger;
      recovery_threshold = timeout;
      ignored = r.ignored;
      ignored_count = r.ignored_count;
    }

-- a settings change sets both thresholds to the new T
unfoldable pub with_settings : Ahrs → Settings → Config → Ahrs
with_settings s t c = rejecting (given s t c) (with_threshold s.acceleration c.rejection_timeout) (with_threshold s.magnetic c.rejection_timeout)

abbrev with_period : Config → Float → Config
with_period c period =
    record {
      sample_period = period;
      gain = c.gain;
      startup_gain_rate = c.startup_gain_rate;
      overrange_enabled = c.overrange_enabled;
      overrange_threshold = c.overrange_threshold;
      acceleration_rejection = c.acceleration_rejection;
      magnetic_rejection = c.magnetic_rejection;
      rejection_timeout = c.rejection_timeout;
    }

-- the rate of fall is left
unfoldable pub with_sample_period : Ahrs → Float → Ahrs
with_sample_period s period = given s s.settings (with_period s.config period)

unfoldable pub skipped_startup : Ahrs → Ahrs
skipped_startup s = starting s false s.startup_gain none

-- ---- overrange

-- it restarts all but quaternion and accelerometer, and keeps which axes went over, in place of any before
abbrev pub soft_restarted_of : Ahrs → Axes → Ahrs
soft_restarted_of s over =
    rejecting (starting s true initial_gain over) (reset_of s.config.rejection_timeout) (reset_of s.config.rejection_timeout)

unfoldable pub overrange_of : Ahrs → Vector → Ahrs
overrange_of s g =
    let over = over_of s.config g in
    cond (any_of over) (soft_restarted_of s over) s

-- ---- one update, before any refusal

-- both sensors' feedback; neither reads what the other gives
unfoldable pub half_feedback_of : Ahrs → Vector → Vector → Bool → HalfFeedback
half_feedback_of s accelerometer magnetometer startup =
    let gravity = half_gravity_of s.settings.convention s.quaternion in
    let west = half_west_of s.settings.convention s.quaternion in
    let inclination = half_inclination_feedback_of s.acceleration gravity accelerometer startup s.config in
    let heading = half_heading_feedback_of s.magnetic gravity west magnetometer startup s.config in
    record {
      acceleration = inclination.rejection;
      magnetic = heading.rejection;
      half_feedback = add_of inclination.half_feedback heading.half_feedback;
    }

-- after overrange: what startup leaves, and the gain in use
abbrev pub startup_of : Ahrs → Vector → Startup
startup_of s gyroscope =
    let now = overrange_of s gyroscope in
    startup_gain_of now.config now.startup now.startup_gain now.overrange_recovery

-- the feedback there
abbrev pub feedback_of : Ahrs → Vector → Vector → Vector → HalfFeedback
feedback_of s gyroscope accelerometer magnetometer =
    half_feedback_of (overrange_of s gyroscope) accelerometer magnetometer (startup_of s gyroscope).startup

-- what the orientation is turned by: the rate of turning, times the period
abbrev pub displacement_of : Ahrs → Vector → Vector → Vector → Vector
displacement_of s gyroscope accelerometer magnetometer =
    mul_of (rate_of gyroscope (feedback_of s gyroscope accelerometer magnetometer).half_feedback (startup_of s gyroscope).gain)
    (overrange_of s gyroscope).config.sample_period

unfoldable pub updated_of : Ahrs → Vector → Vector → Vector → Ahrs
updated_of s gyroscope accelerometer magnetometer =
    let now = overrange_of s gyroscope in
    let startup = startup_of s gyroscope in
    let feedback = feedback_of s gyroscope accelerometer magnetometer in
    record {
      settings = now.settings;
      config = now.config;
      quaternion = integrated_of now.quaternion (displacement_of s gyroscope accelerometer magnetometer);
      accelerometer = accelerometer;
      startup = startup.startup;
      startup_gain = startup.startup_gain;
      overrange_recovery = startup.overrange_recovery;
      acceleration = feedback.acceleration;
      magnetic = feedback.magnetic;
    }
