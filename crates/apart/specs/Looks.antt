-- The calls that only read the filter: what each gives of a state, by the definitions that its promise cites.
use Rattle.std.specs.Prelude.{List}
use Rattle.std.specs.declared.result.Result.{Result}
use Rattle.std.specs.declared.result.Result.TheVariants.{Ok, Err}
use Rattle.answer.specs.declared.refusal.Refusal.{Refusal}
use Rattle.answer.specs.Refusals.{Check, refusal_of, accepted}
use Rattle.answer.specs.Rows.{refusal_at}
use Rattle.vector.specs.declared.Vector.{Vector}
use Rattle.math.specs.declared.quaternion.Quaternion.{Quaternion}
use Rattle.settings.specs.declared.Settings.{Settings}
use Rattle.ahrs.specs.declared.Ahrs.{Ahrs}
use Rattle.ahrs.specs.declared.read.Flags.{Flags}
use Rattle.ahrs.specs.declared.read.InternalStates.{InternalStates}
use Rattle.ahrs.specs.declared.read.IgnoredCounts.{IgnoredCounts}
use Rattle.ahrs.specs.Read.{gravity_of, linear_of, earth_of, flags_of, states_of, ignored_of}
use Rattle.ahrs.specs.Calls.{state_checks, vector_checks}

pub data Look : Type 0 where
  settings : Look
  quaternion : Look
  gravity : Look
  linear_acceleration : Look
  earth_acceleration : Look
  flags : Look
  internal_states : Look
  ignored_counts : Look

-- what a reading call gives
pub data Shown : Type 0 where
  settings_read : Result Settings Refusal → Shown
  quaternion_read : Result Quaternion Refusal → Shown
  vector_read : Result Vector Refusal → Shown
  flags_read : Result Flags Refusal → Shown
  states_read : Result InternalStates Refusal → Shown
  ignored_read : Result IgnoredCounts Refusal → Shown

-- what is read, or the refusal that the checks give
abbrev result_of : {A : Type 0} → List Check → A → Result A Refusal
result_of cs a = accepted (refusal_of cs) (Ok a) (Err (refusal_at (refusal_of cs)))

abbrev pub shown_of : Ahrs → Look → Shown
shown_of s settings = settings_read (result_of (state_checks s) s.settings)
shown_of s quaternion = quaternion_read (result_of (state_checks s) s.quaternion)
shown_of s gravity = vector_read (result_of (vector_checks s (gravity_of s)) (gravity_of s))
shown_of s linear_acceleration = vector_read (result_of (vector_checks s (linear_of s)) (linear_of s))
shown_of s earth_acceleration = vector_read (result_of (vector_checks s (earth_of s)) (earth_of s))
shown_of s flags = flags_read (result_of (state_checks s) (flags_of s))
shown_of s internal_states = states_read (result_of (state_checks s) (states_of s))
shown_of s ignored_counts = ignored_read (result_of (state_checks s) (ignored_of s))
