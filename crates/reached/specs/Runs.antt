-- The calls of the filter as those of a run: what each is made of, by the definitions that its promise cites.
use Rattle.std.specs.Prelude.{◌≡◌, List, Float}
use Rattle.std.proofs.Math.Option.{Option, none, some}
use Rattle.answer.specs.declared.change.Change.{Change}
use Rattle.answer.specs.declared.change.Reading.{Reading}
use Rattle.answer.specs.Refusals.{Check}
use Rattle.answer.specs.Rows.{number_in}
use Rattle.answer.specs.Runs.{answer, number, Step, Outline, sets, answers, step_of}
use Rattle.vector.specs.declared.Vector.{Vector}
use Rattle.vector.specs.Vectors.{zero_vector}
use Rattle.math.specs.declared.quaternion.Quaternion.{Quaternion}
use Rattle.settings.specs.declared.Settings.{Settings}
use Rattle.settings.specs.Config.{derived_of}
use Rattle.ahrs.specs.declared.Ahrs.{Ahrs}
use Rattle.ahrs.specs.Filter.{restarted_of, skipped_startup, with_settings, with_sample_period, with_quaternion, updated_of}
use Rattle.ahrs.specs.Calls.{update_checks, oriented_of, Updates, state_checks, Restarts, SkipsStartup}
use Rattle.ahrs.specs.Calls.{change_checks, SetsSettings, period_checks, SetsSamplePeriod, quaternion_checks, SetsQuaternion}
use Rattle.heading.specs.Turn.{magnetometer_of}
use Rattle.heading.specs.Calls.{set_checks, with_heading, SetsHeading, external_checks, external_of, UpdatesHeading}
use Rattle.heading.specs.Calls.{unaided_checks, unaided_of, northed_of, UpdatesUnaided}

pub data Call : Type 0 where
  update : Vector → Vector → Vector → Call
  restart : Call
  skip_startup : Call
  set_settings : Settings → Call
  set_sample_period : Float → Call
  set_quaternion : Quaternion → Call
  set_heading : Float → Call
  update_external_heading : Vector → Vector → Float → Call
  update_no_magnetometer : Vector → Vector → Call

abbrev pub outline_of : Ahrs → Call → Outline Ahrs
outline_of s (update g a m) = answers (update_checks s g a m) (updated_of s g a m) (oriented_of (updated_of s g a m).quaternion)
outline_of s restart = sets (state_checks s) (restarted_of s)
outline_of s skip_startup = sets (state_checks s) (skipped_startup s)
outline_of s (set_settings t) = sets (change_checks s t) (with_settings s t (derived_of t))
outline_of s (set_sample_period p) = sets (period_checks s p) (with_sample_period s p)
outline_of s (set_quaternion q) = sets (quaternion_checks s q) (with_quaternion s q)
outline_of s (set_heading h) = sets (set_checks s h) (with_heading s h)
outline_of s (update_external_heading g a h) = answers (external_checks s g a h) (external_of s g a h) (oriented_of (external_of s g a h).quaternion)
outline_of s (update_no_magnetometer g a) =
    let next = northed_of (unaided_of s g a) in
    answers (unaided_checks s g a) next (oriented_of next.quaternion)

-- the checks of a call
abbrev outlined : Outline Ahrs → List Check
outlined (sets cs new) = cs
outlined (answers cs new a) = cs

abbrev pub checks_of : Ahrs → Call → List Check
checks_of s c = outlined (outline_of s c)

-- ---- the readings of an update, of whatever kind

pub record Readings : Type 0 where
  pub gyroscope : Vector
  pub accelerometer : Vector
  pub magnetometer : Vector

abbrev pub readings : Vector → Vector → Vector → Readings
readings g a m = record { gyroscope = g; accelerometer = a; magnetometer = m }

-- with the magnetometer that would show the heading, or with one of zeros
abbrev pub readings_of : Ahrs → Call → Option Readings
readings_of s (update g a m) = some (readings g a m)
readings_of s (update_external_heading g a h) = some (readings g a (magnetometer_of s.quaternion h))
readings_of s (update_no_magnetometer g a) = some (readings g a zero_vector)
readings_of s restart = none
readings_of s skip_startup = none
readings_of s (set_settings t) = none
readings_of s (set_sample_period p) = none
readings_of s (set_quaternion q) = none
readings_of s (set_heading h) = none

-- ---- the promises

-- what the code's calls leave and tell
abbrev pub read : Reading Ahrs → Step Ahrs
read r = record { state = r.state; told = answer r.answer }

abbrev pub changed : Change Ahrs → Step Ahrs
changed r = record { state = r.state; told = number (number_in r.result) }

-- is the step: the promises say so
pub record Covered : Type 0 where
  pub of_update : (s : Ahrs) (g a m : Vector) (r : Reading Ahrs) → Updates s g a m r → step_of outline_of s (update g a m) ≡ read r
  pub of_restart : (s : Ahrs) (r : Change Ahrs) → Restarts s r → step_of outline_of s restart ≡ changed r
  pub of_skip_startup : (s : Ahrs) (r : Change Ahrs) → SkipsStartup s r → step_of outline_of s skip_startup ≡ changed r
  pub of_settings : (s : Ahrs) (t : Settings) (r : Change Ahrs) → SetsSettings s t r → step_of outline_of s (set_settings t) ≡ changed r
  pub of_sample_period : (s : Ahrs) (p : Float) (r : Change Ahrs) → SetsSamplePeriod s p r → step_of outline_of s (set_sample_period p) ≡ changed r
  pub of_quaternion : (s : Ahrs) (q : Quaternion) (r : Change Ahrs) → SetsQuaternion s q r → step_of outline_of s (set_quaternion q) ≡ changed r
  pub of_heading : (s : Ahrs) (h : Float) (r : Change Ahrs) → SetsHeading s h r → step_of outline_of s (set_heading h) ≡ changed r
  pub of_external_heading
      : (s : Ahrs) (g a : Vector) (h : Float) (r : Reading Ahrs) → UpdatesHeading s g a h r → step_of outline_of s (update_external_heading g a h) ≡ read r
  pub of_no_magnetometer
      : (s : Ahrs) (g a : Vector) (r : Reading Ahrs) → UpdatesUnaided s g a r → step_of outline_of s (update_no_magnetometer g a) ≡ read r
