-- In startup both sensors are as freshly reset, in every reached state: `StaysFresh` holds. Assumes nothing.
use mathlib.Core.Path.{◌≡◌, refl, ap, ◌∙◌}
use mathlib.Core.Bool.{Bool, true, false, cond, false≢true}
use mathlib.Core.List.{List, [], ◌∷◌}
use lib.IntN.{ℤ, pos}
use lib.Ieee.{Float}
use Rattle.answer.specs.Runs.{Step, step_of, run_of, Throughout}
use Rattle.answer.proofs.Running.{kept}
use Rattle.vector.specs.declared.Vector.{Vector}
use Rattle.vector.specs.Vectors.{is_zero_of}
use Rattle.rejection.specs.declared.Counts.{Counts}
use Rattle.rejection.specs.Counts as counts
use Rattle.rejection.specs.Inside.{NotBelow}
use Rattle.rejection.specs.Readings.{good, by_kind}
use Rattle.rejection.proofs.Recovery.{stays_reset}
use Rattle.settings.specs.declared.Settings.{Settings}
use Rattle.settings.specs.declared.config.Config.{Config}
use Rattle.settings.specs.declared.axes.Axes.{Axes}
use Rattle.settings.specs.Config.{derived_of}
use Rattle.settings.specs.Axes.{over_of}
use Rattle.step.specs.declared.Rejection.{Rejection}
use Rattle.step.specs.Sensor.{counts_of, reset_of, skipped_of, rejected_of, half_inclination_feedback_of, half_heading_feedback_of}
use Rattle.step.specs.Rate.{startup_gain_of}
use Rattle.ahrs.specs.declared.Ahrs.{Ahrs}
use Rattle.ahrs.specs.Filter.{fresh_of, skipped_startup, with_threshold, with_settings, with_sample_period, with_quaternion}
use Rattle.ahrs.specs.Filter.{soft_restarted_of, overrange_of, updated_of}
use Rattle.reached.specs.Runs.{Call, outline_of}
use Rattle.reached.specs.Reached.{Sound}
use Rattle.reached.specs.Deaf.{Sensor, accelerometer, magnetometer}
use Rattle.reached.specs.Hearing.{rejection_of}
use Rattle.reached.specs.Recovery.{FreshInStartup, StaysFresh}
use Rattle.reached.proofs.Keeping as keeping
use Rattle.reached.proofs.Counting.{after_overrange}
use Rattle.reached.proofs.Sound.{now_timeout}
use Rattle.reached.proofs.Running as sound
use Rattle.reached.proofs.Hearing.{sensor_of, sensor_updated}

-- ---- one sensor

module _ (timeout : ℤ) (h : NotBelow (pos 0) timeout) (r : Rejection) (e : counts_of r ≡ counts.reset_of timeout) where
  stays
      : (v : Vector) (limit : Float) (none : Bool)
      → counts_of (cond none (skipped_of r) (rejected_of r v true limit timeout)).rejection ≡ counts.reset_of timeout
  unfolding skipped_of rejected_of
  stays v limit true = e
  stays v limit false = ap (λ (c : Counts). (by_kind timeout c good).counts) e ∙ stays_reset timeout h

sensor_stays
    : (k : Sensor) (s : Ahrs) → NotBelow (pos 0) s.config.rejection_timeout → counts_of (rejection_of k s) ≡ counts.reset_of s.config.rejection_timeout
    → (a m : Vector) → counts_of (sensor_of k s a m true).rejection ≡ counts.reset_of s.config.rejection_timeout
unfolding half_inclination_feedback_of half_heading_feedback_of
sensor_stays accelerometer s h e a m = stays _ h s.acceleration e _ _ (is_zero_of a)
sensor_stays magnetometer s h e a m = stays _ h s.magnetic e _ _ (is_zero_of m)

-- ---- an update

-- startup goes on only where it was on
was_on : (c : Config) (on : Bool) (gain : Float) (over : Axes) → (startup_gain_of c on gain over).startup ≡ true → on ≡ true
unfolding startup_gain_of
was_on c true gain over e = refl
was_on c false gain over e = e

reset_fresh : (k : Sensor) (s : Ahrs) (over : Axes) → counts_of (rejection_of k (soft_restarted_of s over)) ≡ counts.reset_of s.config.rejection_timeout
unfolding reset_of
reset_fresh accelerometer s over = refl
reset_fresh magnetometer s over = refl

updated_fresh : (s : Ahrs) → Sound s → FreshInStartup s → (g a m : Vector) → FreshInStartup (updated_of s g a m)
unfolding updated_of
updated_fresh s h f g a m e k =
    let now = overrange_of s g in
    let fresh = after_overrange FreshInStartup s g f (λ e k. reset_fresh k s (over_of s.config g)) in
    let on = was_on now.config now.startup now.startup_gain now.overrange_recovery e in
    ap counts_of (sensor_updated k s g a m) ∙ ap (λ (on : Bool). counts_of (sensor_of k now a m on).rejection) e
    ∙ sensor_stays k now (now_timeout s h g) (fresh on k) a m

-- ---- every call

started_fresh : (t : Settings) (c : Config) → FreshInStartup (fresh_of t c)
unfolding fresh_of reset_of
started_fresh t c e accelerometer = refl
started_fresh t c e magnetometer = refl

settings_fresh : (s : Ahrs) (t : Settings) (c : Config) → FreshInStartup s → FreshInStartup (with_settings s t c)
unfolding with_settings with_threshold
settings_fresh s t c f e accelerometer = ap (λ (d : Counts). counts.counted d.trigger c.rejection_timeout) (f e accelerometer)
settings_fresh s t c f e magnetometer = ap (λ (d : Counts). counts.counted d.trigger c.rejection_timeout) (f e magnetometer)

startup_fresh : (s : Ahrs) → FreshInStartup (skipped_startup s)
unfolding skipped_startup
startup_fresh s e = absurd (false≢true e)

after_call : (s : Ahrs) → Sound s → FreshInStartup s → (c : Call) → FreshInStartup (step_of outline_of s c).state
unfolding with_sample_period with_quaternion
after_call s h f c =
    keeping.after_call FreshInStartup s f c
    (record {
      updated = λ g a m e. updated_fresh s h f g a m;
      restarted = started_fresh s.settings s.config;
      skipped = startup_fresh s;
      settings = λ t e a. settings_fresh s t (derived_of t) f;
      period = λ p e. f;
      quaternion = λ q e i. f;
      headed = λ n k x e. k;
    })

-- ---- a run

abbrev Both : Ahrs → Type 0
Both s = Sound s × FreshInStartup s

both_after : (s : Ahrs) → Both s → (c : Call) → Both (step_of outline_of s c).state
both_after s h c = (sound.after_call s h.0 c, after_call s h.0 h.1 c)

second_of : (ss : List (Step Ahrs)) → Throughout Both ss → Throughout FreshInStartup ss
second_of [] h = tt
second_of (s ∷ ss) h = (h.0.1, second_of ss h.1)

pub stays_fresh : StaysFresh
stays_fresh t e cs =
    let fresh = fresh_of t (derived_of t) in
    let h : Both fresh = (sound.started_sound t e, started_fresh t (derived_of t)) in
    (h.1, second_of (run_of outline_of fresh cs) (kept _ _ outline_of Both both_after fresh h cs))
