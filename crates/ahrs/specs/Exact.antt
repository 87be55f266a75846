-- 01, "The refusal table": of every call here each number is given exactly when its row says.
use Rattle.std.specs.Prelude.{Float}
use Rattle.answer.specs.Refusals.{Exactly}
use Rattle.vector.specs.declared.Vector.{Vector}
use Rattle.math.specs.declared.quaternion.Quaternion.{Quaternion}
use Rattle.settings.specs.declared.Settings.{Settings}
use Rattle.ahrs.specs.declared.Ahrs.{Ahrs}
use Rattle.settings.specs.Config.{settings_checks}
use Rattle.ahrs.specs.Calls.{update_checks, state_checks, change_checks, period_checks, quaternion_checks, vector_checks}

pub record ExactlyWhen : Type 0 where
  pub start : (t : Settings) → Exactly (settings_checks t)
  pub update : (s : Ahrs) (g a m : Vector) → Exactly (update_checks s g a m)
  pub set_settings : (s : Ahrs) (t : Settings) → Exactly (change_checks s t)
  pub set_sample_period : (s : Ahrs) (period : Float) → Exactly (period_checks s period)
  pub set_quaternion : (s : Ahrs) (q : Quaternion) → Exactly (quaternion_checks s q)
  -- restart, skip_startup, settings, quaternion, flags, internal_states and ignored_counts
  pub of_the_state : (s : Ahrs) → Exactly (state_checks s)
  -- gravity and the two accelerations
  pub vector : (s : Ahrs) (v : Vector) → Exactly (vector_checks s v)
