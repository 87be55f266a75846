-- A trigger goes above T only where T is lowered: `OnlyLowered` holds. Assumes nothing.
use mathlib.Core.Path.{subst}
use mathlib.Core.Bool.{Bool}
use lib.IntN.{ℤ, pos}
use lib.Ieee.{Float}
use Rattle.answer.specs.Runs.{step_of}
use Rattle.vector.specs.declared.Vector.{Vector}
use Rattle.rejection.specs.Inside.{NotBelow}
use Rattle.rejection.proofs.Order.{not_below_through}
use Rattle.rejection.proofs.Inside.{stays_inside}
use Rattle.settings.specs.declared.Settings.{Settings}
use Rattle.settings.specs.declared.config.Config.{Config}
use Rattle.step.specs.declared.Rejection.{Rejection}
use Rattle.ahrs.specs.declared.Ahrs.{Ahrs}
use Rattle.settings.specs.Config.{derived_of}
use Rattle.step.specs.Sensor.{counts_of, reset_of, skipped_of, rejected_of}
use Rattle.ahrs.specs.Filter.{fresh_of, skipped_startup, with_threshold, with_settings, with_sample_period, with_quaternion, overrange_of}
use Rattle.ahrs.specs.Filter.{updated_of}
use Rattle.reached.specs.Runs.{Call, outline_of}
use Rattle.reached.specs.Reached.{Sound, Under, Raises, OnlyLowered}
use Rattle.reached.proofs.Keeping as keeping
use Rattle.reached.proofs.Counting.{after_overrange, acceleration_after, magnetic_after}
use Rattle.reached.proofs.Accepting.{start_accepted}
use Rattle.reached.proofs.Sound.{now_timeout}

-- one sensor's trigger is not above T
abbrev Low : ℤ → Rejection → Type 0
Low timeout r = NotBelow r.recovery_trigger timeout

reset_low : (timeout : ℤ) → NotBelow (pos 0) timeout → Low timeout (reset_of timeout)
unfolding reset_of
reset_low timeout h = h

skipped_low : (timeout : ℤ) (r : Rejection) → Low timeout r → Low timeout (skipped_of r).rejection
unfolding skipped_of
skipped_low timeout r h = h

rejected_low
    : (timeout : ℤ) → NotBelow (pos 0) timeout → (r : Rejection) (v : Vector) (startup : Bool) (limit : Float)
    → Low timeout (rejected_of r v startup limit timeout).rejection
unfolding rejected_of
rejected_low timeout h r v startup limit = (stays_inside.update timeout h (counts_of r) _).most

fresh_under : (t : Settings) (c : Config) → NotBelow (pos 0) c.rejection_timeout → Under (fresh_of t c)
unfolding fresh_of
fresh_under t c n = record { acceleration = reset_low c.rejection_timeout n; magnetic = reset_low c.rejection_timeout n }

updated_under : (s : Ahrs) → Sound s → Under s → (g a m : Vector) → Under (updated_of s g a m)
updated_under s h u g a m =
    let rejected = rejected_low (overrange_of s g).config.rejection_timeout (now_timeout s h g) in
    let reset = reset_low s.config.rejection_timeout h.timeout in
    let low =
    after_overrange (λ k. Low k.config.rejection_timeout k.acceleration × Low k.config.rejection_timeout k.magnetic) s g
    (u.acceleration, u.magnetic) (reset, reset) in
    record {
      acceleration = acceleration_after Low s g a m skipped_low rejected low.0;
      magnetic = magnetic_after Low s g a m skipped_low rejected low.1;
    }

threshold_low : (old timeout : ℤ) (r : Rejection) → NotBelow old timeout → Low old r → Low timeout (with_threshold r timeout)
unfolding with_threshold
threshold_low old timeout r n l = not_below_through r.recovery_trigger old timeout l n

settings_under
    : (s : Ahrs) (t : Settings) (c : Config) → NotBelow s.config.rejection_timeout c.rejection_timeout → Under s → Under (with_settings s t c)
unfolding with_settings
settings_under s t c n u =
    record {
      acceleration = threshold_low s.config.rejection_timeout c.rejection_timeout s.acceleration n u.acceleration;
      magnetic = threshold_low s.config.rejection_timeout c.rejection_timeout s.magnetic n u.magnetic;
    }

startup_under : (s : Ahrs) → Under s → Under (skipped_startup s)
unfolding skipped_startup
startup_under s u = record { acceleration = u.acceleration; magnetic = u.magnetic }

after_call : (s : Ahrs) → Sound s → Under s → (c : Call) → Raises s c → Under (step_of outline_of s c).state
unfolding with_sample_period with_quaternion
after_call s h u c r =
    keeping.after_call Under s u c
    (record {
      updated = λ g a m f. updated_under s h u g a m;
      restarted = fresh_under s.settings s.config h.timeout;
      skipped = startup_under s u;
      settings = λ t e a. settings_under s t (derived_of t) (subst (Raises s) e r) u;
      period = λ p f. record { acceleration = u.acceleration; magnetic = u.magnetic };
      quaternion = λ q e f. record { acceleration = u.acceleration; magnetic = u.magnetic };
      headed = λ n k x f. record { acceleration = k.acceleration; magnetic = k.magnetic };
    })

pub only_lowered : OnlyLowered
only_lowered = record { fresh = λ t e. fresh_under t (derived_of t) (start_accepted t e).timeout; step = after_call }
