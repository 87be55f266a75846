-- Nothing else depends on the axes that went over and on the counts of ignored updates: `OnlyShown` holds. Assumes nothing.
use Prim.Native.Nat.{ℕ, zero, suc}
use mathlib.Core.Path.{◌≡◌, refl, sym, ap, ap₂, ◌∙◌}
use mathlib.Core.Bool.{Bool, true, false, cond, not, ◌&&◌}
use mathlib.Core.List.{[], ◌∷◌}
use lib.IntN.{ℤ}
use lib.Ieee.{Float, lt}
use lib.Ieee.Scale.{finite}
use Rattle.number.specs.Float32 as float
use Rattle.number.specs.Float32.{◌⊖◌}
use Rattle.answer.specs.Refusals.{refusal_of, accepted, check}
use Rattle.answer.specs.Answers.{refused}
use Rattle.answer.specs.Runs.{Told, answer, step_of}
use Rattle.trig.specs.Degrees.{in_turn}
use Rattle.vector.specs.declared.Vector.{Vector}
use Rattle.vector.specs.Vectors.{zero_vector, finite_vector, is_zero_of, add_of, mul_of}
use Rattle.math.specs.declared.quaternion.Quaternion.{Quaternion}
use Rattle.settings.specs.declared.config.Config.{Config}
use Rattle.settings.specs.declared.axes.Axes.{Axes}
use Rattle.settings.specs.Config.{known_convention, derived_of}
use Rattle.settings.specs.Axes.{none, any_of, over_of}
use Rattle.step.specs.declared.Rejection.{Rejection}
use Rattle.step.specs.declared.rate.Startup.{Startup}
use Rattle.step.specs.declared.sensor.Feedback.{Feedback}
use Rattle.step.specs.Sensor.{skipped_of, rejected_of, half_inclination_feedback_of, half_heading_feedback_of, finite_rejection}
use Rattle.step.specs.Rate.{startup, startup_gain_of, rate_of, integrated_of}
use Rattle.ahrs.specs.declared.Ahrs.{Ahrs}
use Rattle.ahrs.specs.declared.update.HalfFeedback.{HalfFeedback}
use Rattle.ahrs.specs.Filter.{finite_state, fresh_of, restarted_of, skipped_startup, with_settings, with_threshold, with_sample_period, with_quaternion}
use Rattle.ahrs.specs.Filter.{soft_restarted_of, overrange_of, half_feedback_of, updated_of}
use Rattle.ahrs.specs.Calls.{update_checks, oriented_of, state_checks, change_checks, period_checks, quaternion_checks}
use Rattle.heading.specs.Turn.{finite_point, roll_of, magnetometer_of}
use Rattle.heading.specs.Calls.{with_heading, headable, set_checks, external_of, external_checks, unaided_of, northed_of, unaided_checks}
use Rattle.reached.specs.Runs.{Call, update, restart, skip_startup, set_settings, set_sample_period, set_quaternion, outline_of}
use Rattle.reached.specs.Runs.{set_heading, update_external_heading, update_no_magnetometer}
use Rattle.reached.specs.Shown.{uncounted, forgotten, OnlyShown}

-- ---- an update

-- what startup leaves, with the set forgotten
abbrev alone : Startup → Startup
alone r = startup r.startup r.startup_gain none r.gain

startup_alone : (c : Config) (on : Bool) (gain : Float) (over : Axes) → alone (startup_gain_of c on gain none) ≡ alone (startup_gain_of c on gain over)
unfolding startup_gain_of
startup_alone c false gain over = refl
startup_alone c true gain over = go (lt c.gain (gain ⊖ c.startup_gain_rate))
  where
    fallen : Float
    fallen = gain ⊖ c.startup_gain_rate

    by : Axes → Bool → Startup
    by over b = cond b (startup true fallen over fallen) (startup false fallen none c.gain)

    go : (b : Bool) → alone (by none b) ≡ alone (by over b)
    go true = refl
    go false = refl

-- what a sensor's update leaves and gives, with the count forgotten
abbrev quiet : Feedback → Feedback
quiet f = record { rejection = uncounted f.rejection; half_feedback = f.half_feedback }

-- skipped, or judged by its residual
quiet_by
    : (b : Bool) (r : Rejection) (v : Vector) (on : Bool) (limit : Float) (timeout : ℤ)
    → quiet (cond b (skipped_of (uncounted r)) (rejected_of (uncounted r) v on limit timeout))
    ≡ quiet (cond b (skipped_of r) (rejected_of r v on limit timeout))
unfolding skipped_of rejected_of
quiet_by true r v on limit timeout = refl
quiet_by false r v on limit timeout = refl

-- both sensors'
abbrev quiet_both : HalfFeedback → HalfFeedback
quiet_both f =
    record { acceleration = uncounted f.acceleration; magnetic = uncounted f.magnetic; half_feedback = f.half_feedback }

feedback_rest : (s : Ahrs) (a m : Vector) (on : Bool) → quiet_both (half_feedback_of (forgotten s) a m on) ≡ quiet_both (half_feedback_of s a m on)
unfolding half_feedback_of half_inclination_feedback_of half_heading_feedback_of
feedback_rest s a m on =
    ap₂
    (λ (i h : Feedback). record {
      acceleration = i.rejection;
      magnetic = h.rejection;
      half_feedback = add_of i.half_feedback h.half_feedback;
    })
    (quiet_by (is_zero_of a) s.acceleration _ on _ _) (quiet_by (is_zero_of m) s.magnetic _ on _ _)

-- what an update leaves beside the set and the counts, by the state after the overrange, what startup leaves and the feedback
abbrev left : Ahrs → Vector → Vector → Startup → HalfFeedback → Ahrs
left now g a s feedback =
    record {
      settings = now.settings;
      config = now.config;
      quaternion = integrated_of now.quaternion (mul_of (rate_of g feedback.half_feedback s.gain) now.config.sample_period);
      accelerometer = a;
      startup = s.startup;
      startup_gain = s.startup_gain;
      overrange_recovery = none;
      acceleration = feedback.acceleration;
      magnetic = feedback.magnetic;
    }

updated_rest : (s : Ahrs) (g a m : Vector) → forgotten (updated_of (forgotten s) g a m) ≡ forgotten (updated_of s g a m)
unfolding updated_of overrange_of
updated_rest s g a m = go (any_of over)
  where
    over : Axes
    over = over_of s.config g

    now : Bool → Ahrs → Ahrs
    now b k = cond b (soft_restarted_of k over) k

    next : Bool → Ahrs → Startup
    next b k = alone (startup_gain_of (now b k).config (now b k).startup (now b k).startup_gain (now b k).overrange_recovery)

    by : Ahrs → Startup → Ahrs
    by k r = left k g a r (quiet_both (half_feedback_of k a m r.startup))

    go : (b : Bool) → by (now b (forgotten s)) (next b (forgotten s)) ≡ by (now b s) (next b s)
    go true = refl
    go false =
        ap (left s g a (next false (forgotten s))) (feedback_rest s a m (next false (forgotten s)).startup)
        ∙ ap (by s) (startup_alone s.config s.startup s.startup_gain s.overrange_recovery)

refused_alike : (s : Ahrs) (g a m : Vector) → refusal_of (update_checks (forgotten s) g a m) ≡ refusal_of (update_checks s g a m)
unfolding finite_state finite_rejection
refused_alike s g a m =
    let given = finite_state s && (finite_vector g && finite_vector a && finite_vector m) in
    ap
    (λ (finite : Bool). refusal_of (check 4 (not (known_convention s.settings)) ∷ check 5 (not given) ∷ check 7 (not finite) ∷ []))
    (ap finite_state (updated_rest s g a m))

external_alike : (s : Ahrs) (g a : Vector) (h : Float) → refusal_of (external_checks (forgotten s) g a h) ≡ refusal_of (external_checks s g a h)
unfolding finite_state finite_rejection
external_alike s g a h =
    ap
    (λ (b : Bool). refusal_of
    (check 4 (not (known_convention s.settings)) ∷ check 5 (not (finite_state s)) ∷ check 5 (not (finite_vector g && finite_vector a && finite h))
    ∷ check 6 (not (in_turn h)) ∷ check 7 (not (finite_point (roll_of s.quaternion))) ∷ check 7 (not b) ∷ []))
    (ap finite_state (updated_rest s g a (magnetometer_of s.quaternion h)))

unaided_alike : (s : Ahrs) (g a : Vector) → refusal_of (unaided_checks (forgotten s) g a) ≡ refusal_of (unaided_checks s g a)
unfolding finite_state finite_rejection
unaided_alike s g a =
    let given = finite_state s && (finite_vector g && finite_vector a && finite_vector zero_vector) in
    ap
    (λ (next : Ahrs). refusal_of
    (check 4 (not (known_convention s.settings)) ∷ check 5 (not given) ∷ check 7 (not (finite_state next))
    ∷ check 7 (next.startup && not (headable next.quaternion float.zero)) ∷ []))
    (updated_rest s g a zero_vector)

-- a heading reads neither
north_rest : (n : Ahrs) → northed_of (forgotten n) ≡ forgotten (northed_of n)
unfolding with_quaternion
north_rest n = go n.startup
  where
    go : (b : Bool) → cond b (with_heading (forgotten n) float.zero) (forgotten n) ≡ forgotten (cond b (with_heading n float.zero) n)
    go true = refl
    go false = refl

unaided_rest : (s : Ahrs) (g a : Vector) → forgotten (northed_of (unaided_of (forgotten s) g a)) ≡ forgotten (northed_of (unaided_of s g a))
unaided_rest s g a = sym (north_rest (unaided_of (forgotten s) g a)) ∙ ap northed_of (updated_rest s g a zero_vector) ∙ north_rest (unaided_of s g a)

-- ---- every call

-- accepted or not
alike : (n : ℕ) (s new next : Ahrs) → forgotten new ≡ forgotten next → forgotten (accepted n new (forgotten s)) ≡ forgotten (accepted n next s)
alike zero s new next h = h
alike (suc n) s new next h = refl

rest_after : (s : Ahrs) (c : Call) → forgotten (step_of outline_of (forgotten s) c).state ≡ forgotten (step_of outline_of s c).state
unfolding finite_state finite_rejection fresh_of skipped_startup with_settings with_threshold with_sample_period with_quaternion
rest_after s (update g a m) =
    alike (refusal_of (update_checks (forgotten s) g a m)) s (updated_of (forgotten s) g a m) (updated_of s g a m) (updated_rest s g a m)
    ∙ ap (λ (n : ℕ). forgotten (accepted n (updated_of s g a m) s)) (refused_alike s g a m)
rest_after s restart = alike (refusal_of (state_checks s)) s (restarted_of s) (restarted_of s) refl
rest_after s skip_startup = alike (refusal_of (state_checks s)) s (skipped_startup (forgotten s)) (skipped_startup s) refl
rest_after s (set_settings t) =
    alike (refusal_of (change_checks s t)) s (with_settings (forgotten s) t (derived_of t)) (with_settings s t (derived_of t)) refl
rest_after s (set_sample_period p) = alike (refusal_of (period_checks s p)) s (with_sample_period (forgotten s) p) (with_sample_period s p) refl
rest_after s (set_quaternion q) = alike (refusal_of (quaternion_checks s q)) s (with_quaternion (forgotten s) q) (with_quaternion s q) refl
rest_after s (set_heading h) = alike (refusal_of (set_checks s h)) s (with_heading (forgotten s) h) (with_heading s h) refl
rest_after s (update_external_heading g a h) =
    alike (refusal_of (external_checks (forgotten s) g a h)) s (external_of (forgotten s) g a h) (external_of s g a h)
    (updated_rest s g a (magnetometer_of s.quaternion h))
    ∙ ap (λ (n : ℕ). forgotten (accepted n (external_of s g a h) s)) (external_alike s g a h)
rest_after s (update_no_magnetometer g a) =
    alike (refusal_of (unaided_checks (forgotten s) g a)) s (northed_of (unaided_of (forgotten s) g a)) (northed_of (unaided_of s g a)) (unaided_rest s g a)
    ∙ ap (λ (n : ℕ). forgotten (accepted n (northed_of (unaided_of s g a)) s)) (unaided_alike s g a)

abbrev oriented : ℕ → Quaternion → Told
oriented n q = answer (accepted n (oriented_of q) (refused n))

told_after : (s : Ahrs) (c : Call) → (step_of outline_of (forgotten s) c).told ≡ (step_of outline_of s c).told
unfolding finite_state finite_rejection
told_after s (update g a m) = ap₂ oriented (refused_alike s g a m) (ap (λ (k : Ahrs). k.quaternion) (updated_rest s g a m))
told_after s (update_external_heading g a h) =
    ap₂ oriented (external_alike s g a h) (ap (λ (k : Ahrs). k.quaternion) (updated_rest s g a (magnetometer_of s.quaternion h)))
told_after s (update_no_magnetometer g a) = ap₂ oriented (unaided_alike s g a) (ap (λ (k : Ahrs). k.quaternion) (unaided_rest s g a))
told_after s restart = refl
told_after s skip_startup = refl
told_after s (set_settings t) = refl
told_after s (set_sample_period p) = refl
told_after s (set_quaternion q) = refl
told_after s (set_heading h) = refl

pub only_shown : OnlyShown
only_shown = record { told = told_after; rest = rest_after }
