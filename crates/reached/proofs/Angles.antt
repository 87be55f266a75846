-- A filter by angles runs as the one by the squared limits that they stand for: `FromTheLimitOn` holds. Assumes nothing.
use Prim.Native.Nat.{ℕ, zero, suc}
use mathlib.Core.Path.{◌≡◌, refl, ap, ap₂, sym, ◌∙◌}
use mathlib.Core.Bool.{Bool, true, false, cond, ◌&&◌}
use mathlib.Core.List.{List, [], ◌∷◌}
use lib.Ieee.{Float}
use lib.Ieee.Scale.{finite}
use Rattle.number.specs.Float32 as float
use Rattle.answer.specs.Refusals.{refusal_of, accepted}
use Rattle.answer.specs.Answers.{refused}
use Rattle.answer.specs.Runs.{Told, answer, number, step_of, run_of}
use Rattle.vector.specs.declared.Vector.{Vector}
use Rattle.vector.specs.Vectors.{zero_vector, finite_vector, mul_of}
use Rattle.math.specs.declared.quaternion.Quaternion.{Quaternion}
use Rattle.math.specs.Quaternions.{finite_quaternion}
use Rattle.settings.specs.declared.Settings.{Settings}
use Rattle.settings.specs.declared.config.Config.{Config}
use Rattle.settings.specs.Config.{finite_settings, sound_settings, derived_of, finite_config}
use Rattle.settings.specs.Axes.{any_of, over_of}
use Rattle.settings.specs.Angles.{squared_settings}
use Rattle.settings.proofs.Angles.{finite_so, same_derived}
use Rattle.step.specs.Sensor.{finite_rejection}
use Rattle.step.specs.Rate.{startup_gain_of, rate_of, integrated_of}
use Rattle.ahrs.specs.declared.Ahrs.{Ahrs}
use Rattle.ahrs.specs.Filter.{finite_state, fresh_of, restarted_of, skipped_startup, with_settings, with_sample_period, with_quaternion}
use Rattle.ahrs.specs.Filter.{soft_restarted_of, overrange_of, half_feedback_of, updated_of}
use Rattle.ahrs.specs.Read.{gravity_of, linear_of, earth_of, flags_of, states_of}
use Rattle.ahrs.specs.Calls.{update_checks, oriented_of, state_checks, change_checks, period_checks, quaternion_checks}
use Rattle.heading.specs.Turn.{magnetometer_of}
use Rattle.heading.specs.Calls.{with_heading, set_checks, external_checks, unaided_of, northed_of, unaided_checks}
use Rattle.reached.specs.Runs.{Call, update, restart, skip_startup, set_settings, set_sample_period, set_quaternion, outline_of}
use Rattle.reached.specs.Runs.{set_heading, update_external_heading, update_no_magnetometer}
use Rattle.reached.specs.Angles.{squared_state, AlikeRun, none, next, FromTheLimitOn, ReadsAlike}
use Rattle.reached.proofs.Counting.{after_overrange}
use Rattle.reached.proofs.Accepting.{start_accepted}
use Rattle.reached.proofs.Keeping as keeping

-- ---- the squared limits of a state are finite where its limits are

abbrev Fit : Ahrs → Type 0
Fit s = finite_settings (squared_settings s.settings) ≡ finite_settings s.settings

accepted_fit : (t : Settings) → finite_settings t ≡ true → sound_settings t ≡ true → finite_settings (squared_settings t) ≡ finite_settings t
accepted_fit t f p = finite_so t f p ∙ sym f

finite_alike : (s : Ahrs) → Fit s → finite_state (squared_state s) ≡ finite_state s
unfolding finite_state
finite_alike s h =
    ap
    (λ (b : Bool). b && finite_config s.config && finite_quaternion s.quaternion && finite_vector s.accelerometer && finite s.startup_gain
    && finite_rejection s.acceleration && finite_rejection s.magnetic)
    h

-- ---- an update reads the convention alone

overrange_alike : (s : Ahrs) (g : Vector) → overrange_of (squared_state s) g ≡ squared_state (overrange_of s g)
unfolding overrange_of
overrange_alike s g = go (any_of (over_of s.config g))
  where
    go : (b : Bool)
        → cond b (soft_restarted_of (squared_state s) (over_of s.config g)) (squared_state s)
        ≡ squared_state (cond b (soft_restarted_of s (over_of s.config g)) s)
    go true = refl
    go false = refl

-- what an update makes of the state after the overrange
abbrev after : Vector → Vector → Vector → Ahrs → Ahrs
after g a m now =
    let startup = startup_gain_of now.config now.startup now.startup_gain now.overrange_recovery in
    let feedback = half_feedback_of now a m startup.startup in
    record {
      settings = now.settings;
      config = now.config;
      quaternion = integrated_of now.quaternion (mul_of (rate_of g feedback.half_feedback startup.gain) now.config.sample_period);
      accelerometer = a;
      startup = startup.startup;
      startup_gain = startup.startup_gain;
      overrange_recovery = startup.overrange_recovery;
      acceleration = feedback.acceleration;
      magnetic = feedback.magnetic;
    }

updated_alike : (s : Ahrs) (g a m : Vector) → updated_of (squared_state s) g a m ≡ squared_state (updated_of s g a m)
unfolding updated_of half_feedback_of
updated_alike s g a m = ap (after g a m) (overrange_alike s g)

updated_fit : (s : Ahrs) → Fit s → (g a m : Vector) → Fit (updated_of s g a m)
unfolding updated_of
updated_fit s h g a m = after_overrange Fit s g h h

-- a heading reads the orientation alone
north_alike : (n : Ahrs) → northed_of (squared_state n) ≡ squared_state (northed_of n)
unfolding with_quaternion
north_alike n = go n.startup
  where
    go : (b : Bool) → cond b (with_heading (squared_state n) float.zero) (squared_state n) ≡ squared_state (cond b (with_heading n float.zero) n)
    go true = refl
    go false = refl

unaided_alike : (s : Ahrs) (g a : Vector) → northed_of (unaided_of (squared_state s) g a) ≡ squared_state (northed_of (unaided_of s g a))
unaided_alike s g a = ap northed_of (updated_alike s g a zero_vector) ∙ north_alike (unaided_of s g a)

-- ---- every call

-- accepted or not
alike : (n : ℕ) (s new own : Ahrs) → squared_state new ≡ squared_state own → squared_state (accepted n new (squared_state s)) ≡ squared_state (accepted n own s)
alike zero s new own h = h
alike (suc n) s new own h = refl

abbrev oriented : ℕ → Ahrs → Told
oriented n k = answer (accepted n (oriented_of k.quaternion) (refused n))

module _ (s : Ahrs) (h : Fit s) where
  update_number : (g a m : Vector) → refusal_of (update_checks (squared_state s) g a m) ≡ refusal_of (update_checks s g a m)
  update_number g a m = rw (updated_alike s g a m, finite_alike s h, finite_alike (updated_of s g a m) (updated_fit s h g a m))

  state_number : refusal_of (state_checks (squared_state s)) ≡ refusal_of (state_checks s)
  state_number = rw (finite_alike s h)

  change_number : (t : Settings) → refusal_of (change_checks (squared_state s) t) ≡ refusal_of (change_checks s t)
  change_number t = rw (finite_alike s h)

  period_number : (p : Float) → refusal_of (period_checks (squared_state s) p) ≡ refusal_of (period_checks s p)
  period_number p = rw (finite_alike s h)

  quaternion_number : (q : Quaternion) → refusal_of (quaternion_checks (squared_state s) q) ≡ refusal_of (quaternion_checks s q)
  quaternion_number q = rw (finite_alike s h)

  heading_number : (x : Float) → refusal_of (set_checks (squared_state s) x) ≡ refusal_of (set_checks s x)
  heading_number x = rw (finite_alike s h)

  external_number : (g a : Vector) (x : Float) → refusal_of (external_checks (squared_state s) g a x) ≡ refusal_of (external_checks s g a x)
  external_number g a x =
      let m = magnetometer_of s.quaternion x in
      rw (updated_alike s g a m, finite_alike s h, finite_alike (updated_of s g a m) (updated_fit s h g a m))

  unaided_number : (g a : Vector) → refusal_of (unaided_checks (squared_state s) g a) ≡ refusal_of (unaided_checks s g a)
  unaided_number g a =
      rw (updated_alike s g a zero_vector, finite_alike s h, finite_alike (unaided_of s g a) (updated_fit s h g a zero_vector))

  told_alike : (c : Call) → (step_of outline_of (squared_state s) c).told ≡ (step_of outline_of s c).told
  told_alike (update g a m) = ap₂ oriented (update_number g a m) (updated_alike s g a m)
  told_alike restart = ap number state_number
  told_alike skip_startup = ap number state_number
  told_alike (set_settings t) = ap number (change_number t)
  told_alike (set_sample_period p) = ap number (period_number p)
  told_alike (set_quaternion q) = ap number (quaternion_number q)
  told_alike (set_heading x) = ap number (heading_number x)
  told_alike (update_external_heading g a x) =
      ap₂ oriented (external_number g a x) (updated_alike s g a (magnetometer_of s.quaternion x))
  told_alike (update_no_magnetometer g a) = ap₂ oriented (unaided_number g a) (unaided_alike s g a)

  -- by the number that both give
  left_alike
      : (n k : ℕ) (new own : Ahrs) → n ≡ k → squared_state new ≡ squared_state own
      → squared_state (accepted n new (squared_state s)) ≡ squared_state (accepted k own s)
  left_alike n k new own e i = alike n s new own i ∙ ap (λ (z : ℕ). squared_state (accepted z own s)) e

  state_alike : (c : Call) → squared_state (step_of outline_of (squared_state s) c).state ≡ squared_state (step_of outline_of s c).state
  unfolding fresh_of skipped_startup with_settings with_sample_period with_quaternion
  state_alike (update g a m) = left_alike _ _ _ _ (update_number g a m) (ap squared_state (updated_alike s g a m))
  state_alike restart = left_alike _ _ (restarted_of (squared_state s)) (restarted_of s) state_number refl
  state_alike skip_startup = left_alike _ _ (skipped_startup (squared_state s)) (skipped_startup s) state_number refl
  state_alike (set_settings t) =
      left_alike _ _ (with_settings (squared_state s) t (derived_of t)) (with_settings s t (derived_of t)) (change_number t) refl
  state_alike (set_sample_period p) = left_alike _ _ (with_sample_period (squared_state s) p) (with_sample_period s p) (period_number p) refl
  state_alike (set_quaternion q) = left_alike _ _ (with_quaternion (squared_state s) q) (with_quaternion s q) (quaternion_number q) refl
  state_alike (set_heading x) = left_alike _ _ (with_heading (squared_state s) x) (with_heading s x) (heading_number x) refl
  state_alike (update_external_heading g a x) =
      left_alike _ _ _ _ (external_number g a x) (ap squared_state (updated_alike s g a (magnetometer_of s.quaternion x)))
  state_alike (update_no_magnetometer g a) = left_alike _ _ _ _ (unaided_number g a) (ap squared_state (unaided_alike s g a))

  stays_fit : (c : Call) → Fit (step_of outline_of s c).state
  unfolding fresh_of skipped_startup with_settings with_sample_period with_quaternion
  stays_fit c =
      keeping.after_call Fit s h c
      (record {
        updated = λ g a m f. updated_fit s h g a m;
        restarted = h;
        skipped = h;
        settings = λ t e a. accepted_fit t a.finite a.sound;
        period = λ p f. h;
        quaternion = λ q e f. h;
        headed = λ n k x f. k;
      })

-- ---- every run

runs_alike
    : (cs : List Call) (a b : Ahrs) → Fit a → Fit b → squared_state a ≡ squared_state b → AlikeRun (run_of outline_of a cs) (run_of outline_of b cs)
runs_alike [] a b f g e = none
runs_alike (c ∷ cs) a b f g e =
    let told = sym (told_alike a f c) ∙ ap (λ (s : Ahrs). (step_of outline_of s c).told) e ∙ told_alike b g c in
    let state = sym (state_alike a f c) ∙ ap (λ (s : Ahrs). squared_state (step_of outline_of s c).state) e ∙ state_alike b g c in
    next (record { told = told; state = state }) (runs_alike cs _ _ (stays_fit a f c) (stays_fit b g c) state)

pub from_the_limit_on : FromTheLimitOn
unfolding fresh_of
from_the_limit_on t e cs =
    let s = start_accepted t e in
    runs_alike cs (fresh_of t (derived_of t)) (fresh_of (squared_settings t) (derived_of (squared_settings t))) (accepted_fit t s.finite s.sound) refl
    (ap (λ (c : Config). squared_state (fresh_of t c)) (sym (same_derived t)))

pub reads_alike : ReadsAlike
unfolding gravity_of linear_of earth_of flags_of states_of
reads_alike =
    record {
      gravity = λ s. refl;
      linear = λ s. refl;
      earth = λ s. refl;
      flags = λ s. refl;
      states = λ s. refl;
      ignored = λ s. refl;
    }
