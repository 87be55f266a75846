-- 02 P11: a locked-out compass always comes back, and so does a locked-out accelerometer. Over its limit a sensor is ignored T times in a row and not once
-- more; from then on each reading is used, until T / 9 good ones in a row, rounded up, end the recovery. T is the rejection timeout in readings.
-- What is said holds out of startup, with no restart, no overrange and no new settings; `Hearing` says what may come between. The other sensor may read
-- anything. `rejection/specs/Recovery` says it of the counts alone.
use Rattle.std.specs.Prelude.{ℕ, ◌<◌, ◌≤◌, min, ◌≡◌, Bool, true, false, List, replicate, ℤ, pos}
use Rattle.std.proofs.Math.Option.{some}
use Rattle.answer.specs.Refusals.{refusal_of}
use Rattle.answer.specs.Runs.{step_of, run_of, Throughout}
use Rattle.vector.specs.Vectors.{zero_vector}
use Rattle.rejection.specs.declared.Counts.{Counts}
use Rattle.rejection.specs.Counts.{reset_of}
use Rattle.rejection.specs.Readings.{Kind, good, over, all_zero}
use Rattle.rejection.specs.Recovery.{begun, ninth, largest}
use Rattle.settings.specs.declared.Settings.{Settings}
use Rattle.settings.specs.Config.{derived_of, settings_checks}
use Rattle.step.specs.Sensor.{counts_of}
use Rattle.ahrs.specs.declared.Ahrs.{Ahrs}
use Rattle.ahrs.specs.Filter.{fresh_of}
use Rattle.ahrs.specs.Read.{flags_of}
use Rattle.reached.specs.Runs.{Call, outline_of}
use Rattle.reached.specs.Reached.{Sound}
use Rattle.reached.specs.Deaf.{Sensor, of_sensor, reached_of}
use Rattle.reached.specs.Hearing.{hears, heard_in, heard_of, rejection_of, residual_in, added_by, Keeps}

-- ---- where a sensor stands

-- its recovery flag, as the filter shows it
abbrev pub flag_of : Sensor → Ahrs → Bool
flag_of k s = of_sensor k (flags_of s).acceleration_recovery (flags_of s).magnetic_recovery

-- calls that brought it these readings have led here from a state in which it had these counts
pub record Led (k : Sensor) (timeout : ℤ) (c : Counts) (xs : List Kind) (now : Ahrs) : Type 0 where
  pub start : Ahrs
  pub kept : Keeps k timeout c start
  pub calls : List Call
  pub heard : heard_of k start calls ≡ some xs
  pub here : reached_of start calls ≡ now

-- freshly reset, and then n readings over the limit
abbrev pub LockedOut : Sensor → ℕ → ℕ → Ahrs → Type 0
LockedOut k T n now = Led k (pos T) (reset_of (pos T)) (replicate n over) now

-- recovery had begun with the trigger at T, and then n good readings
abbrev pub Recovering : Sensor → ℕ → ℕ → Ahrs → Type 0
Recovering k T n now = Led k (pos T) (begun T) (replicate n good) now

-- an update that brings it a reading over the limit
abbrev pub Over : Sensor → Ahrs → Call → Type 0
Over k s c = heard_in k s c ≡ hears over

-- ---- what holds of it

pub record ComesBack (k : Sensor) (T : ℕ) : Type 0 where
  -- after n readings over the limit the trigger is the smaller of n and T
  pub trigger : (n : ℕ) (s : Ahrs) → LockedOut k T n s → (rejection_of k s).recovery_trigger ≡ pos (min n T)
  -- the first T of them add zero to the feedback, and each later one its residual
  pub ignored : (n : ℕ) (s : Ahrs) → LockedOut k T n s → n < T → (c : Call) → Over k s c → added_by k s c ≡ zero_vector
  pub used : (n : ℕ) (s : Ahrs) → LockedOut k T n s → T ≤ n → (c : Call) → Over k s c → added_by k s c ≡ residual_in k s c
  -- with the first that is used recovery has begun, and the trigger is T
  pub begins : (n : ℕ) (s : Ahrs) → LockedOut k T n s → T < n → Keeps k (pos T) (begun T) s
  -- which is how it stands in any reached state with the flag up and the trigger at T
  pub begun_is
      : (s : Ahrs) → Sound s → s.config.rejection_timeout ≡ pos T → flag_of k s ≡ true → (rejection_of k s).recovery_trigger ≡ pos T
      → Keeps k (pos T) (begun T) s
  -- then good readings in a row do not end it before the one at T / 9, rounded up
  pub not_sooner : (n : ℕ) (s : Ahrs) → Recovering k T n s → n < ninth T → flag_of k s ≡ true
  -- and that one does: the sensor is as freshly reset
  pub ends : 1 ≤ T → (n : ℕ) (s : Ahrs) → Recovering k T n s → ninth T ≤ n → Keeps k (pos T) (reset_of (pos T)) s
  -- one over the limit adds its residual too, in any reached state, and never ends it
  pub bad_used
      : (s : Ahrs) → Sound s → s.config.rejection_timeout ≡ pos T → flag_of k s ≡ true
      → (c : Call) → Over k s c → added_by k s c ≡ residual_in k s c
  pub bad
      : 1 ≤ T → (s : Ahrs) → Sound s → s.config.rejection_timeout ≡ pos T → flag_of k s ≡ true
      → (c : Call) → Over k s c → flag_of k (step_of outline_of s c).state ≡ true

-- T from 0 to 2^31 - 2
abbrev pub AlwaysBack : Type 0
AlwaysBack = (k : Sensor) (T : ℕ) → T < 2147483647 → ComesBack k T

-- a reading that is all zero changes neither trigger nor threshold, whatever T is
abbrev pub Unread : Type 0
Unread =
    (k : Sensor) (s : Ahrs) (c : Call) → heard_in k s c ≡ hears all_zero
    → counts_of (rejection_of k (step_of outline_of s c).state) ≡ counts_of (rejection_of k s)

-- T = 2^31 - 1, to which every longer timeout is cut: from freshly reset, whatever is read, recovery does not begin
pub record NeverBegins : Type 0 where
  pub down : (k : Sensor) (xs : List Kind) (s : Ahrs) → Led k largest (reset_of largest) xs s → flag_of k s ≡ false
  pub ignored
      : (k : Sensor) (xs : List Kind) (s : Ahrs) → Led k largest (reset_of largest) xs s
      → (c : Call) → Over k s c → added_by k s c ≡ zero_vector

-- ---- when it is freshly reset: in startup, in every reached state; the first reading that counts is that of the update in which startup ends

abbrev pub FreshInStartup : Ahrs → Type 0
FreshInStartup s = s.startup ≡ true → (k : Sensor) → counts_of (rejection_of k s) ≡ reset_of s.config.rejection_timeout

abbrev pub StaysFresh : Type 0
StaysFresh =
    (t : Settings) → refusal_of (settings_checks t) ≡ 0 → (cs : List Call)
    → FreshInStartup (fresh_of t (derived_of t)) × Throughout FreshInStartup (run_of outline_of (fresh_of t (derived_of t)) cs)
