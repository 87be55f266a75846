-- 01, "What we will read in the promises": two results that both satisfy a call's promise are the same.
use Rattle.std.specs.Prelude.{Float}
use Rattle.answer.specs.declared.Answer.{Answer}
use Rattle.answer.specs.Promises.{One, OneLent}
use Rattle.vector.specs.declared.Vector.{Vector}
use Rattle.math.specs.declared.quaternion.Quaternion.{Quaternion}
use Rattle.settings.specs.declared.Settings.{Settings}
use Rattle.ahrs.specs.declared.Ahrs.{Ahrs}
use Rattle.ahrs.specs.Calls.{Starts, Updates, Restarts, SkipsStartup, SetsSettings, SetsSamplePeriod, SetsQuaternion}
use Rattle.ahrs.specs.Calls.{SettingsReads, QuaternionReads, VectorReads, FlagsReads, StatesReads, IgnoredReads}

pub record Determined : Type 0 where
  pub start : (t : Settings) → One (Starts t)
  pub update : (s : Ahrs) (g a m : Vector) → One (Updates s g a m)
  -- the lent state afterwards, and the answer
  pub update_lent : (s : Ahrs) (g a m : Vector) → OneLent (λ (after : Ahrs) (r : Answer). Updates s g a m (record { state = after; answer = r }))
  pub restart : (s : Ahrs) → One (Restarts s)
  pub skip_startup : (s : Ahrs) → One (SkipsStartup s)
  pub set_settings : (s : Ahrs) (t : Settings) → One (SetsSettings s t)
  pub set_sample_period : (s : Ahrs) (p : Float) → One (SetsSamplePeriod s p)
  pub set_quaternion : (s : Ahrs) (q : Quaternion) → One (SetsQuaternion s q)
  pub settings : (s : Ahrs) → One (SettingsReads s)
  pub quaternion : (s : Ahrs) → One (QuaternionReads s)
  -- gravity and the two accelerations
  pub vector : (s : Ahrs) (v : Vector) → One (VectorReads s v)
  pub flags : (s : Ahrs) → One (FlagsReads s)
  pub internal_states : (s : Ahrs) → One (StatesReads s)
  pub ignored_counts : (s : Ahrs) → One (IgnoredReads s)
