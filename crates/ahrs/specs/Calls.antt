-- Each call of the filter by the refusal table: its checks, what it gives, and its promise.
use Rattle.answer.specs.Said.{alone}
use Rattle.std.specs.declared.result.Result.{Result}
use Rattle.std.specs.declared.result.Result.TheVariants.{Ok, Err}
use Rattle.std.specs.Prelude.{◌≡◌, Bool, true, not, ◌&&◌, List, [], ◌∷◌, ◌++◌, Float}
use Rattle.std.specs.Float.Ieee.{lt, le}
use Rattle.std.specs.Float.Ieee.Scale.{finite}
use Rattle.number.specs.Float32.{zero, quarter, four}
use Rattle.answer.specs.declared.Answer.{Answer}
use Rattle.answer.specs.declared.Answer.TheVariants.{Oriented}
use Rattle.answer.specs.Refusals.{Check, check}
use Rattle.answer.specs.declared.change.Change.{Change}
use Rattle.answer.specs.declared.change.Reading.{Reading}
use Rattle.answer.specs.declared.refusal.Refusal.{Refusal}
use Rattle.answer.specs.Rows.{number_in}
use Rattle.answer.specs.Promises.{Results, Changed, Moved}
use Rattle.vector.specs.declared.Vector.{Vector}
use Rattle.math.specs.declared.quaternion.Quaternion.{Quaternion}
use Rattle.vector.specs.Vectors.{finite_vector}
use Rattle.math.specs.Quaternions.{finite_quaternion, norm_squared_of}
use Rattle.settings.specs.declared.Settings.{Settings}
use Rattle.settings.specs.Config.{known_convention, finite_settings, sound_settings, derived_of, finite_config, settings_checks}
use Rattle.ahrs.specs.declared.Ahrs.{Ahrs}
use Rattle.ahrs.specs.declared.read.Flags.{Flags}
use Rattle.ahrs.specs.declared.read.InternalStates.{InternalStates}
use Rattle.ahrs.specs.declared.read.IgnoredCounts.{IgnoredCounts}
use Rattle.ahrs.specs.Filter.{finite_state, fresh_of, restarted_of, skipped_startup, with_settings, with_sample_period, with_quaternion, updated_of}
use Rattle.ahrs.specs.Read.{flags_of, states_of, ignored_of}

-- ---- a start, by the checks of its settings

abbrev pub Starts : Settings → Result Ahrs Refusal → Type 0
Starts t r = Results alone (settings_checks t) (fresh_of t (derived_of t)) r

-- ---- an update

-- the floats of the state and of the three sensors are arguments; those of the orientation are of the new state
abbrev pub update_checks : Ahrs → Vector → Vector → Vector → List Check
update_checks s g a m =
    check 4 (not (known_convention s.settings)) ∷
    check 5 (not (finite_state s && (finite_vector g && finite_vector a && finite_vector m))) ∷
    check 7 (not (finite_state (updated_of s g a m))) ∷
    []

-- the new orientation
abbrev pub oriented_of : Quaternion → Answer
oriented_of q = Oriented q.w q.x q.y q.z

abbrev pub Updates : Ahrs → Vector → Vector → Vector → Reading Ahrs → Type 0
Updates s g a m r =
    Moved (update_checks s g a m) (oriented_of (updated_of s g a m).quaternion) (updated_of s g a m) s r.state r.answer

-- ---- changes

abbrev pub state_checks : Ahrs → List Check
state_checks s = check 4 (not (known_convention s.settings)) ∷ check 5 (not (finite_state s)) ∷ []

abbrev pub Restarts : Ahrs → Change Ahrs → Type 0
Restarts s r = Changed (state_checks s) (restarted_of s) s r.state (number_in r.result)

abbrev pub SkipsStartup : Ahrs → Change Ahrs → Type 0
SkipsStartup s r = Changed (state_checks s) (skipped_startup s) s r.state (number_in r.result)

-- those of the state and those of the new settings, by the table
abbrev pub change_checks : Ahrs → Settings → List Check
change_checks s t =
    check 4 (not (known_convention s.settings && known_convention t)) ∷
    check 5 (not (finite_state s && finite_settings t)) ∷
    check 6 (not (sound_settings t)) ∷
    check 7 (not (finite_config (derived_of t))) ∷
    []

abbrev pub SetsSettings : Ahrs → Settings → Change Ahrs → Type 0
SetsSettings s t r = Changed (change_checks s t) (with_settings s t (derived_of t)) s r.state (number_in r.result)

abbrev pub period_checks : Ahrs → Float → List Check
period_checks s period =
    check 4 (not (known_convention s.settings)) ∷ check 5 (not (finite_state s && finite period)) ∷ check 6 (not (lt zero period)) ∷ []

abbrev pub SetsSamplePeriod : Ahrs → Float → Change Ahrs → Type 0
SetsSamplePeriod s period r = Changed (period_checks s period) (with_sample_period s period) s r.state (number_in r.result)

-- 02 P6: the squared norm, in the Rust's order, is from 0.25 to 4, ends included
unfoldable pub settable : Quaternion → Bool
settable q = le quarter (norm_squared_of q) && le (norm_squared_of q) four

abbrev pub quaternion_checks : Ahrs → Quaternion → List Check
quaternion_checks s q =
    check 4 (not (known_convention s.settings)) ∷ check 5 (not (finite_state s && finite_quaternion q)) ∷ check 9 (not (settable q)) ∷ []

abbrev pub SetsQuaternion : Ahrs → Quaternion → Change Ahrs → Type 0
SetsQuaternion s q r = Changed (quaternion_checks s q) (with_quaternion s q) s r.state (number_in r.result)

-- ---- reads

abbrev pub SettingsReads : Ahrs → Result Settings Refusal → Type 0
SettingsReads s r = Results alone (state_checks s) s.settings r

abbrev pub of_quaternion : Quaternion → List Float
of_quaternion q = q.w ∷ q.x ∷ q.y ∷ q.z ∷ []

abbrev pub QuaternionReads : Ahrs → Result Quaternion Refusal → Type 0
QuaternionReads s r = Results of_quaternion (state_checks s) s.quaternion r

abbrev pub of_vector : Vector → List Float
of_vector v = v.x ∷ v.y ∷ v.z ∷ []

-- a vector worked out from the state
abbrev pub vector_checks : Ahrs → Vector → List Check
vector_checks s v = state_checks s ++ (check 7 (not (finite_vector v)) ∷ [])

-- gravity and the two accelerations
abbrev pub VectorReads : Ahrs → Vector → Result Vector Refusal → Type 0
VectorReads s v r = Results of_vector (vector_checks s v) v r

abbrev pub FlagsReads : Ahrs → Result Flags Refusal → Type 0
FlagsReads s r = Results alone (state_checks s) (flags_of s) r

abbrev pub finite_states : Result InternalStates Refusal → Bool
finite_states (Ok i) = finite i.acceleration_recovery_trigger && finite i.magnetic_recovery_trigger
finite_states (Err e) = true

-- 7 is no check, since the ratios are finite whatever i32 the triggers and T are
pub record StatesReads (s : Ahrs) (r : Result InternalStates Refusal) : Type 0 where
  pub answer : Results alone (state_checks s) (states_of s) r
  pub is_finite : finite_states r ≡ true

abbrev pub IgnoredReads : Ahrs → Result IgnoredCounts Refusal → Type 0
IgnoredReads s r = Results alone (state_checks s) (ignored_of s) r
