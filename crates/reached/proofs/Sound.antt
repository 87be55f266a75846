-- What each call makes of a sound state. Assumes nothing.
use mathlib.Core.Path.{◌≡◌, refl}
use mathlib.Core.Bool.{Bool, true}
use mathlib.Core.Logic.{inr}
use lib.IntN.{ℤ, pos}
use lib.Ieee.{Float}
use lib.Ieee.Scale.{finite}
use Rattle.vector.specs.declared.Vector.{Vector}
use Rattle.math.specs.declared.quaternion.Quaternion.{Quaternion}
use Rattle.math.specs.Quaternions.{finite_quaternion}
use Rattle.rejection.specs.Inside.{NotBelow}
use Rattle.rejection.proofs.Order.{not_below_itself}
use Rattle.rejection.proofs.Inside.{stays_inside}
use Rattle.settings.specs.declared.Settings.{Settings}
use Rattle.settings.specs.declared.config.Config.{Config}
use Rattle.step.specs.declared.Rejection.{Rejection}
use Rattle.ahrs.specs.declared.Ahrs.{Ahrs}
use Rattle.settings.specs.Config.{known_convention, finite_settings, finite_config}
use Rattle.step.specs.Sensor.{counts_of, reset_of, skipped_of, rejected_of}
use Rattle.ahrs.specs.Filter.{finite_state, fresh_of, restarted_of, skipped_startup, with_threshold, with_settings, with_sample_period, with_quaternion}
use Rattle.ahrs.specs.Filter.{overrange_of, updated_of}
use Rattle.reached.specs.Reached.{Counted, Sound}
use Rattle.ahrs.proofs.Finite.{parts}
use Rattle.reached.proofs.Finite.{fresh_finite, startup_finite, settings_finite, period_finite, quaternion_finite}
use Rattle.reached.proofs.Counting.{after_overrange, acceleration_after, magnetic_after}

reset_counted : (timeout : ℤ) → Counted timeout (reset_of timeout)
unfolding reset_of
reset_counted timeout = record { trigger = not_below_itself (pos 0); threshold = inr refl }

skipped_counted : (timeout : ℤ) (r : Rejection) → Counted timeout r → Counted timeout (skipped_of r).rejection
unfolding skipped_of
skipped_counted timeout r h = record { trigger = h.trigger; threshold = h.threshold }

module _ (timeout : ℤ) (h : NotBelow (pos 0) timeout) (r : Rejection) (v : Vector) (startup : Bool) (limit : Float) where
  rejected_counted : Counted timeout (rejected_of r v startup limit timeout).rejection
  unfolding rejected_of
  rejected_counted =
      let i = stays_inside.update timeout h (counts_of r) _ in
      record { trigger = i.least; threshold = i.threshold }

-- ---- a state

abbrev BothCounted : Ahrs → Type 0
BothCounted s = Counted s.config.rejection_timeout s.acceleration × Counted s.config.rejection_timeout s.magnetic

module _ (s : Ahrs) (h : Sound s) where
  now_sound : (g : Vector) → BothCounted (overrange_of s g)
  now_sound g = after_overrange BothCounted s g (h.acceleration, h.magnetic) (reset_counted _, reset_counted _)

  pub now_timeout : (g : Vector) → NotBelow (pos 0) (overrange_of s g).config.rejection_timeout
  now_timeout g = after_overrange (λ n. NotBelow (pos 0) n.config.rejection_timeout) s g h.timeout h.timeout

  updated_known : (g a m : Vector) → known_convention (updated_of s g a m).settings ≡ true
  unfolding updated_of
  updated_known g a m = after_overrange (λ n. known_convention n.settings ≡ true) s g h.known h.known

  updated_timeout : (g a m : Vector) → NotBelow (pos 0) (updated_of s g a m).config.rejection_timeout
  unfolding updated_of
  updated_timeout g a m = now_timeout g

  pub updated_sound : (g a m : Vector) → finite_state (updated_of s g a m) ≡ true → Sound (updated_of s g a m)
  updated_sound g a m f =
      record {
        known = updated_known g a m;
        finite = f;
        timeout = updated_timeout g a m;
        acceleration = acceleration_after Counted s g a m skipped_counted (rejected_counted _ (now_timeout g)) (now_sound g).0;
        magnetic = magnetic_after Counted s g a m skipped_counted (rejected_counted _ (now_timeout g)) (now_sound g).1;
      }

  pub startup_sound : Sound (skipped_startup s)
  unfolding skipped_startup
  startup_sound =
      record {
        known = h.known;
        finite = startup_finite s h.finite;
        timeout = h.timeout;
        acceleration = h.acceleration;
        magnetic = h.magnetic;
      }

pub fresh_sound
    : (t : Settings) (c : Config)
    → known_convention t ≡ true → finite_settings t ≡ true → finite_config c ≡ true → NotBelow (pos 0) c.rejection_timeout → Sound (fresh_of t c)
unfolding fresh_of
fresh_sound t c k f g n =
    record {
      known = k;
      finite = fresh_finite t c f g;
      timeout = n;
      acceleration = reset_counted _;
      magnetic = reset_counted _;
    }

pub restarted_sound : (s : Ahrs) → Sound s → Sound (restarted_of s)
restarted_sound s h =
    let f = parts s h.finite in
    fresh_sound s.settings s.config h.known f.settings f.config h.timeout

threshold_counted : (timeout old : ℤ) (r : Rejection) → Counted old r → Counted timeout (with_threshold r timeout)
unfolding with_threshold
threshold_counted timeout old r h = record { trigger = h.trigger; threshold = inr refl }

pub settings_sound
    : (s : Ahrs) (t : Settings) (c : Config) → Sound s
    → known_convention t ≡ true → finite_settings t ≡ true → finite_config c ≡ true → NotBelow (pos 0) c.rejection_timeout
    → Sound (with_settings s t c)
unfolding with_settings
settings_sound s t c h k f g n =
    record {
      known = k;
      finite = settings_finite s t c h.finite f g;
      timeout = n;
      acceleration = threshold_counted _ _ s.acceleration h.acceleration;
      magnetic = threshold_counted _ _ s.magnetic h.magnetic;
    }

pub period_sound : (s : Ahrs) (p : Float) → Sound s → finite p ≡ true → Sound (with_sample_period s p)
unfolding with_sample_period
period_sound s p h f =
    record {
      known = h.known;
      finite = period_finite s p h.finite f;
      timeout = h.timeout;
      acceleration = h.acceleration;
      magnetic = h.magnetic;
    }

pub quaternion_sound : (s : Ahrs) (q : Quaternion) → Sound s → finite_quaternion q ≡ true → Sound (with_quaternion s q)
unfolding with_quaternion
quaternion_sound s q h f =
    record {
      known = h.known;
      finite = quaternion_finite s q h.finite f;
      timeout = h.timeout;
      acceleration = h.acceleration;
      magnetic = h.magnetic;
    }
