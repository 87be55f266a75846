-- The states that a run reaches from a fresh filter: no call on one is refused for the state's sake, and its counts lie between their ends.
use Rattle.std.specs.Prelude.{◌≡◌, true, List, ℤ, pos}
use Rattle.answer.specs.Refusals.{refusal_of}
use Rattle.answer.specs.Runs.{step_of, run_of, Throughout}
use Rattle.rejection.specs.Inside.{NotBelow, ZeroOr}
use Rattle.settings.specs.declared.Settings.{Settings}
use Rattle.settings.specs.Config.{known_convention, derived_of, settings_checks}
use Rattle.step.specs.declared.Rejection.{Rejection}
use Rattle.ahrs.specs.declared.Ahrs.{Ahrs}
use Rattle.ahrs.specs.Filter.{finite_state, fresh_of}
use Rattle.reached.specs.Runs.{Call, update, restart, skip_startup, set_settings, set_sample_period, set_quaternion, outline_of}
use Rattle.reached.specs.Runs.{set_heading, update_external_heading, update_no_magnetometer}

-- a trigger is not below 0, and a threshold is 0 or T
pub record Counted (timeout : ℤ) (r : Rejection) : Type 0 where
  pub trigger : NotBelow (pos 0) r.recovery_trigger
  pub threshold : ZeroOr timeout r.recovery_threshold

pub record Sound (s : Ahrs) : Type 0 where
  pub known : known_convention s.settings ≡ true
  pub finite : finite_state s ≡ true
  pub timeout : NotBelow (pos 0) s.config.rejection_timeout
  pub acceleration : Counted s.config.rejection_timeout s.acceleration
  pub magnetic : Counted s.config.rejection_timeout s.magnetic

-- accepted settings, any calls
abbrev pub StaysSound : Type 0
StaysSound =
    (t : Settings) → refusal_of (settings_checks t) ≡ 0 → (cs : List Call)
    → Sound (fresh_of t (derived_of t)) × Throughout Sound (run_of outline_of (fresh_of t (derived_of t)) cs)

-- no trigger is above T
pub record Under (s : Ahrs) : Type 0 where
  pub acceleration : NotBelow s.acceleration.recovery_trigger s.config.rejection_timeout
  pub magnetic : NotBelow s.magnetic.recovery_trigger s.config.rejection_timeout

-- a settings change that does not lower T; every other call
abbrev pub Raises : Ahrs → Call → Type 0
Raises s (set_settings t) = NotBelow s.config.rejection_timeout (derived_of t).rejection_timeout
Raises s (update g a m) = Unit {0}
Raises s restart = Unit {0}
Raises s skip_startup = Unit {0}
Raises s (set_sample_period p) = Unit {0}
Raises s (set_quaternion q) = Unit {0}
Raises s (set_heading h) = Unit {0}
Raises s (update_external_heading g a h) = Unit {0}
Raises s (update_no_magnetometer g a) = Unit {0}

-- a trigger goes above T only where T is lowered
pub record OnlyLowered : Type 0 where
  pub fresh : (t : Settings) → refusal_of (settings_checks t) ≡ 0 → Under (fresh_of t (derived_of t))
  pub step : (s : Ahrs) → Sound s → Under s → (c : Call) → Raises s c → Under (step_of outline_of s c).state
