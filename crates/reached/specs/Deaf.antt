-- 02 P5: how long was it deaf? Of every reached state: a sensor's count is that of the accepted updates at the end of the run, since the last clearing, in
-- which the sensor was ignored.
use Rattle.std.specs.Prelude.{ℕ, suc, ◌≡◌, Bool, true, false, not, cond, List, [], ◌∷◌, eqb, ltb}
use Rattle.answer.specs.Refusals.{Check, refusal_of, accepted}
use Rattle.answer.specs.Runs.{step_of, run_of, Throughout}
use Rattle.vector.specs.declared.Vector.{Vector}
use Rattle.vector.specs.Vectors.{zero_vector, add_of}
use Rattle.settings.specs.declared.Settings.{Settings}
use Rattle.settings.specs.Config.{derived_of}
use Rattle.settings.specs.Axes.{any_of, over_of}
use Rattle.step.specs.declared.Rejection.{Rejection}
use Rattle.step.specs.Sensor.{largest_count, longer_of}
use Rattle.ahrs.specs.declared.Ahrs.{Ahrs}
use Rattle.ahrs.specs.Filter.{fresh_of, feedback_of, updated_of}
use Rattle.ahrs.specs.Calls.{update_checks, state_checks}
use Rattle.heading.specs.Turn.{magnetometer_of}
use Rattle.heading.specs.Calls.{external_checks, unaided_checks}
use Rattle.reached.specs.Runs.{Call, update, restart, skip_startup, set_settings, set_sample_period, set_quaternion, outline_of}
use Rattle.reached.specs.Runs.{set_heading, update_external_heading, update_no_magnetometer}

pub data Sensor : Type 0 where
  accelerometer : Sensor
  magnetometer : Sensor

-- the accelerometer's or the magnetometer's
abbrev pub of_sensor : {A : Type 0} → Sensor → A → A → A
of_sensor accelerometer x y = x
of_sensor magnetometer x y = y

abbrev pub mark_of : Sensor → Ahrs → Bool
mark_of k s = of_sensor k s.acceleration.ignored s.magnetic.ignored

abbrev pub count_of : Sensor → Ahrs → ℕ
count_of k s = of_sensor k s.acceleration.ignored_count s.magnetic.ignored_count

-- ---- a sensor is used or ignored

-- by the mark that an update leaves: it gives its residual to the feedback, or zero where it is ignored
abbrev pub feedback_by : Rejection → Vector
feedback_by r = cond r.ignored zero_vector r.half_residual

-- so it is of every update: the feedback is what both give
abbrev pub MarkTells : Type 0
MarkTells =
    (s : Ahrs) (g a m : Vector)
    → let next = updated_of s g a m in (feedback_of s g a m).half_feedback ≡ add_of (feedback_by next.acceleration) (feedback_by next.magnetic)

-- ---- a run, as far as a sensor's count goes

-- what a call is to the count: it clears it; it is an accepted update, which went over or not and ignored the sensor or not; or neither
pub data Effect : Type 0 where
  clears : Effect
  updates : Bool → Bool → Effect
  leaves : Effect

-- an update's, of whatever kind, by its checks and its readings
abbrev update_effect : Sensor → Ahrs → List Check → Vector → Vector → Vector → Effect
update_effect k s cs g a m = accepted (refusal_of cs) (updates (any_of (over_of s.config g)) (mark_of k (updated_of s g a m))) leaves

abbrev pub effect_of : Sensor → Ahrs → Call → Effect
effect_of k s (update g a m) = update_effect k s (update_checks s g a m) g a m
effect_of k s (update_external_heading g a h) = update_effect k s (external_checks s g a h) g a (magnetometer_of s.quaternion h)
effect_of k s (update_no_magnetometer g a) = update_effect k s (unaided_checks s g a) g a zero_vector
effect_of k s restart = accepted (refusal_of (state_checks s)) clears leaves
effect_of k s skip_startup = leaves
effect_of k s (set_settings t) = leaves
effect_of k s (set_sample_period p) = leaves
effect_of k s (set_quaternion q) = leaves
effect_of k s (set_heading h) = leaves

-- the effects of a run, the latest first, and then those before it
abbrev pub effects_of : Sensor → Ahrs → List Call → List Effect → List Effect
effects_of k s [] before = before
effects_of k s (c ∷ cs) before = effects_of k (step_of outline_of s c).state cs (effect_of k s c ∷ before)

-- the state that it reaches
abbrev pub reached_of : Ahrs → List Call → Ahrs
reached_of s [] = s
reached_of s (c ∷ cs) = reached_of (step_of outline_of s c).state cs

-- whether each accepted update since the last clearing ignored the sensor, the latest first; one that went over is the first since
abbrev pub since_of : List Effect → List Bool
since_of [] = []
since_of (clears ∷ es) = []
since_of (updates true ignored ∷ es) = ignored ∷ []
since_of (updates false ignored ∷ es) = ignored ∷ since_of es
since_of (leaves ∷ es) = since_of es

-- how many in a row did, up to now
abbrev pub in_aRow : List Bool → ℕ
in_aRow [] = 0
in_aRow (true ∷ bs) = suc (in_aRow bs)
in_aRow (false ∷ bs) = 0

-- the latest used it, or none came
abbrev pub used_or_none : List Bool → Bool
used_or_none [] = true
used_or_none (ignored ∷ bs) = not ignored

-- ---- what the count is

abbrev pub at_most : ℕ → ℕ → ℕ
at_most most n = cond (ltb n most) n most

-- after a run from a fresh filter: the count, and the updates since the last clearing
abbrev pub reached_count : Sensor → Settings → List Call → ℕ
reached_count k t cs = count_of k (reached_of (fresh_of t (derived_of t)) cs)

abbrev pub reached_since : Sensor → Settings → List Call → List Bool
reached_since k t cs = since_of (effects_of k (fresh_of t (derived_of t)) cs [])

pub record HowLong : Type 0 where
  -- it is the number of those at the end that ignored the sensor, or the largest u32 where there are more
  pub number : (k : Sensor) (t : Settings) (cs : List Call) → reached_count k t cs ≡ at_most largest_count (in_aRow (reached_since k t cs))
  -- it is 0 exactly when the last accepted update since the clearing used the sensor, or none came
  pub zero : (k : Sensor) (t : Settings) (cs : List Call) → eqb (reached_count k t cs) 0 ≡ used_or_none (reached_since k t cs)

-- ---- what a call leaves of it, on any state

abbrev pub count_after : Effect → ℕ → ℕ
count_after clears n = 0
count_after (updates over ignored) n = cond ignored (longer_of (cond over 0 n)) 0
count_after leaves n = n

abbrev pub EachCall : Type 0
EachCall = (k : Sensor) (s : Ahrs) (c : Call) → count_of k (step_of outline_of s c).state ≡ count_after (effect_of k s c) (count_of k s)

-- ---- the mark and the count agree

abbrev pub Marked : Ahrs → Type 0
Marked s = (k : Sensor) → mark_of k s ≡ not (eqb (count_of k s) 0)

-- of every reached state
abbrev pub StaysMarked : Type 0
StaysMarked =
    (t : Settings) (cs : List Call)
    → Marked (fresh_of t (derived_of t)) × Throughout Marked (run_of outline_of (fresh_of t (derived_of t)) cs)
