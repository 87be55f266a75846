-- What a run makes of one sensor's counts is what its readings make of them: `Follows` and `Adds` hold. Assumes nothing.
use Prim.Native.Nat.{ℕ, zero, suc}
use mathlib.Core.Path.{◌≡◌, refl, ap, ap₂, sym, subst, ◌∙◌}
use mathlib.Core.Bool.{Bool, true, false, not, cond, ◌||◌, false≢true}
use mathlib.Core.List.{List, [], ◌∷◌}
use mathlib.Core.Option.{Option, none, some, some-injective, none-ne-some}
use lib.IntN.{ℤ}
use lib.Ieee.{Float, le}
use Rattle.answer.specs.Refusals.{refusal_of, accepted}
use Rattle.answer.specs.Runs.{step_of}
use Rattle.answer.proofs.Running.{settled}
use Rattle.vector.specs.declared.Vector.{Vector}
use Rattle.vector.specs.Vectors.{zero_vector, is_zero_of, norm_squared_of}
use Rattle.rejection.specs.declared.Counts.{Counts}
use Rattle.rejection.specs.declared.Updated.{Updated}
use Rattle.rejection.specs.Counts as rejection
use Rattle.rejection.specs.Readings.{Kind, good, over, all_zero, by_kind, after_all}
use Rattle.settings.specs.Config.{derived_of}
use Rattle.settings.specs.Axes.{any_of, over_of}
use Rattle.step.specs.declared.Rejection.{Rejection}
use Rattle.step.specs.declared.sensor.Feedback.{Feedback}
use Rattle.step.specs.Sensor.{counts_of, kept_of, skipped_of, rejected_of, half_inclination_feedback_of, half_heading_feedback_of}
use Rattle.step.specs.Direction.{half_gravity_of, half_west_of}
use Rattle.ahrs.specs.declared.Ahrs.{Ahrs}
use Rattle.ahrs.specs.Filter.{restarted_of, skipped_startup, with_settings, with_sample_period, with_quaternion}
use Rattle.ahrs.specs.Filter.{soft_restarted_of, overrange_of, half_feedback_of, startup_of, updated_of}
use Rattle.ahrs.specs.Calls.{update_checks, state_checks, change_checks, period_checks, quaternion_checks}
use Rattle.heading.specs.Turn.{magnetometer_of}
use Rattle.heading.specs.Calls.{with_heading, set_checks, external_of, external_checks, unaided_of, northed_of, unaided_checks}
use Rattle.reached.specs.Runs.{Call, update, restart, skip_startup, set_settings, set_sample_period, set_quaternion, outline_of}
use Rattle.reached.specs.Runs.{set_heading, update_external_heading, update_no_magnetometer}
use Rattle.reached.specs.Deaf.{Sensor, accelerometer, magnetometer, of_sensor, feedback_by, reached_of}
use Rattle.reached.specs.Hearing.{residual_at, kind_at, Heard, hears, nothing, disturbed, heard_by, heard_in, with_heard, heard_of}
use Rattle.reached.specs.Hearing.{rejection_of, Keeps, Follows, Adds}
use Rattle.reached.proofs.Headed.{northed, as_read}
use Rattle.reached.proofs.Deaf.{kept_tells}

-- ---- one sensor, out of startup

-- what its update leaves of the counts, and adds to the feedback, where its reading is of this kind
record By (timeout : ℤ) (c : Counts) (v : Vector) (x : Kind) (r : Rejection) : Type 0 where
  counts : counts_of r ≡ (by_kind timeout c x).counts
  added : feedback_by r ≡ cond (by_kind timeout c x).used v zero_vector

module _ (timeout : ℤ) (r : Rejection) (v : Vector) where
  added_by : (u : Updated) → feedback_by (kept_of r.ignored_count v u).rejection ≡ cond u.used v zero_vector
  added_by u = sym (kept_tells r.ignored_count v u).gives

  by_limit
      : (within : Bool)
      → By timeout (counts_of r) v (cond within good over)
      (kept_of r.ignored_count v (rejection.updated_of timeout (counts_of r) (not within))).rejection
  by_limit true = record { counts = refl; added = added_by (rejection.updated_of timeout (counts_of r) false) }
  by_limit false = record { counts = refl; added = added_by (rejection.updated_of timeout (counts_of r) true) }

  judged
      : (limit : Float) (none : Bool)
      → By timeout (counts_of r) v (cond none all_zero (cond (le (norm_squared_of v) limit) good over))
      (cond none (skipped_of r) (rejected_of r v false limit timeout)).rejection
  unfolding skipped_of rejected_of
  judged limit true = record { counts = refl; added = refl }
  judged limit false = by_limit (le (norm_squared_of v) limit)

-- ---- an update

abbrev pub sensor_of : Sensor → Ahrs → Vector → Vector → Bool → Feedback
sensor_of k s a m on =
    let gravity = half_gravity_of s.settings.convention s.quaternion in
    let west = half_west_of s.settings.convention s.quaternion in
    of_sensor k (half_inclination_feedback_of s.acceleration gravity a on s.config) (half_heading_feedback_of s.magnetic gravity west m on s.config)

judged_at
    : (k : Sensor) (s : Ahrs) (a m : Vector)
    → By s.config.rejection_timeout (counts_of (rejection_of k s)) (residual_at k s a m) (kind_at k s a m) (sensor_of k s a m false).rejection
unfolding half_inclination_feedback_of half_heading_feedback_of
judged_at accelerometer s a m = judged _ s.acceleration _ _ (is_zero_of a)
judged_at magnetometer s a m = judged _ s.magnetic _ _ (is_zero_of m)

pub sensor_updated
    : (k : Sensor) (s : Ahrs) (g a m : Vector)
    → rejection_of k (updated_of s g a m) ≡ (sensor_of k (overrange_of s g) a m (startup_of s g).startup).rejection
unfolding updated_of half_feedback_of
sensor_updated accelerometer s g a m = refl
sensor_updated magnetometer s g a m = refl

-- no axis is over range, and startup is over
module _ (s : Ahrs) (g a m : Vector) (e : any_of (over_of s.config g) ≡ false) (f : (updated_of s g a m).startup ≡ false) where
  in_range : overrange_of s g ≡ s
  unfolding overrange_of
  in_range = ap (λ (b : Bool). cond b (soft_restarted_of s (over_of s.config g)) s) e

  timeout_kept : (updated_of s g a m).config.rejection_timeout ≡ s.config.rejection_timeout
  unfolding updated_of
  timeout_kept = ap (λ (now : Ahrs). now.config.rejection_timeout) in_range

  sensor_kept : (k : Sensor) → rejection_of k (updated_of s g a m) ≡ (sensor_of k s a m false).rejection
  unfolding updated_of
  sensor_kept k = sensor_updated k s g a m ∙ ap₂ (λ (now : Ahrs) (on : Bool). (sensor_of k now a m on).rejection) in_range f

  module _ (k : Sensor) (timeout : ℤ) (c : Counts) (h : Keeps k timeout c s) where
    updated_by : By timeout c (residual_at k s a m) (kind_at k s a m) (rejection_of k (updated_of s g a m))
    updated_by = rw (sensor_kept k, sym h.timeout_is, sym h.counts_are) (judged_at k s a m)

    updated_keeps : Keeps k timeout (by_kind timeout c (kind_at k s a m)).counts (updated_of s g a m)
    updated_keeps = record { timeout_is = timeout_kept ∙ h.timeout_is; counts_are = updated_by.counts }

-- ---- a call

-- what is left of what the sensor had, by what it heard
abbrev pub Left : Sensor → ℤ → Counts → Heard → Ahrs → Type 0
Left k timeout c (hears x) s = Keeps k timeout (by_kind timeout c x).counts s
Left k timeout c nothing s = Keeps k timeout c s
Left k timeout c disturbed s = Unit {0}

module _ (k : Sensor) (timeout : ℤ) (c : Counts) (s : Ahrs) (h : Keeps k timeout c s) where
  -- new is what an update of whatever kind leaves: out of startup, T and the counts of the update itself
  left_by_update : (g a m : Vector) (n : ℕ) (new : Ahrs) → ((d : Counts) → Keeps k timeout d (updated_of s g a m) → Keeps k timeout d new)
      → Left k timeout c (heard_by k s n g a m) (accepted n new s)
  left_by_update g a m (suc n) new on = h
  left_by_update g a m zero new on = go (any_of (over_of s.config g)) (updated_of s g a m).startup refl refl
    where
      go : (p q : Bool) → any_of (over_of s.config g) ≡ p → (updated_of s g a m).startup ≡ q
          → Left k timeout c (cond (p || q) disturbed (hears (kind_at k s a m))) new
      go true q e f = tt
      go false true e f = tt
      go false false e f = on _ (updated_keeps s g a m e f k timeout c h)

  disturbs : (n : ℕ) (new : Ahrs) → Left k timeout c (accepted n disturbed nothing) (accepted n new s)
  disturbs zero new = tt
  disturbs (suc n) new = h

  leaves : (n : ℕ) (new : Ahrs) → Keeps k timeout c new → Keeps k timeout c (accepted n new s)
  leaves n new kept = settled (Keeps k timeout c) n new s h (λ e. kept)

  pub left_by : (call : Call) → Left k timeout c (heard_in k s call) (step_of outline_of s call).state
  unfolding skipped_startup with_sample_period with_quaternion
  left_by (update g a m) = left_by_update g a m (refusal_of (update_checks s g a m)) (updated_of s g a m) (λ d l. l)
  left_by (update_external_heading g a x) =
      left_by_update g a (magnetometer_of s.quaternion x) (refusal_of (external_checks s g a x)) (external_of s g a x) (λ d l. l)
  left_by (update_no_magnetometer g a) =
      left_by_update g a zero_vector (refusal_of (unaided_checks s g a)) (northed_of (unaided_of s g a))
      (λ d l. northed (Keeps k timeout d) (unaided_of s g a) l (λ t. record { timeout_is = l.timeout_is; counts_are = l.counts_are }))
  left_by restart = disturbs (refusal_of (state_checks s)) (restarted_of s)
  left_by (set_settings t) = disturbs (refusal_of (change_checks s t)) (with_settings s t (derived_of t))
  left_by skip_startup = leaves (refusal_of (state_checks s)) (skipped_startup s) (record { timeout_is = h.timeout_is; counts_are = h.counts_are })
  left_by (set_sample_period p) =
      leaves (refusal_of (period_checks s p)) (with_sample_period s p) (record { timeout_is = h.timeout_is; counts_are = h.counts_are })
  left_by (set_quaternion q) =
      leaves (refusal_of (quaternion_checks s q)) (with_quaternion s q) (record { timeout_is = h.timeout_is; counts_are = h.counts_are })
  left_by (set_heading x) = leaves (refusal_of (set_checks s x)) (with_heading s x) (record { timeout_is = h.timeout_is; counts_are = h.counts_are })

-- ---- a run

pub follows : Follows
follows k timeout c s h [] xs e = subst (λ (xs : List Kind). Keeps k timeout (after_all timeout c xs) s) (some-injective [] xs e) h
follows k timeout c s h (call ∷ cs) xs e =
    go (heard_in k s call) (heard_of k (step_of outline_of s call).state cs) (left_by k timeout c s h call) refl e
    (λ d l ys. follows k timeout d (step_of outline_of s call).state l cs ys)
  where
    next : Ahrs
    next = (step_of outline_of s call).state

    -- what the rest of the run makes of any counts
    Rest : Type 0
    Rest =
        (d : Counts) → Keeps k timeout d next → (ys : List Kind) → heard_of k next cs ≡ some ys
        → Keeps k timeout (after_all timeout d ys) (reached_of next cs)

    go
        : (x : Heard) (rest : Option (List Kind)) → Left k timeout c x next → heard_of k next cs ≡ rest → with_heard x rest ≡ some xs → Rest
        → Keeps k timeout (after_all timeout c xs) (reached_of next cs)
    go (hears x) (some ys) l f e on =
        subst (λ (xs : List Kind). Keeps k timeout (after_all timeout c xs) (reached_of next cs)) (some-injective (x ∷ ys) xs e)
        (on (by_kind timeout c x).counts l ys f)
    go (hears x) none l f e on = absurd (none-ne-some xs e)
    go nothing rest l f e on = on c l xs (f ∙ e)
    go disturbed rest l f e on = absurd (none-ne-some xs e)

-- ---- what a reading adds

-- an update that is heard is accepted, in range and out of startup
record Brought (k : Sensor) (s : Ahrs) (n : ℕ) (g a m : Vector) (x : Kind) : Type 0 where
  taken : n ≡ 0
  in_range : any_of (over_of s.config g) ≡ false
  out_of_startup : (updated_of s g a m).startup ≡ false
  kind : kind_at k s a m ≡ x

-- of a reading, its kind
abbrev kind_of : Kind → Heard → Kind
kind_of other (hears x) = x
kind_of other nothing = other
kind_of other disturbed = other

abbrev is_reading : Heard → Bool
is_reading (hears x) = true
is_reading nothing = false
is_reading disturbed = false

unheard : {x : Kind} {y : Heard} → y ≡ hears x → is_reading y ≡ false → ⊥
unheard e f = false≢true (sym f ∙ ap is_reading e)

brought : (k : Sensor) (s : Ahrs) (n : ℕ) (g a m : Vector) (x : Kind) → heard_by k s n g a m ≡ hears x → Brought k s n g a m x
brought k s n g a m x e = go n (any_of (over_of s.config g)) (updated_of s g a m).startup refl refl refl e
  where
    go
        : (i : ℕ) (p q : Bool) → n ≡ i → any_of (over_of s.config g) ≡ p → (updated_of s g a m).startup ≡ q
        → accepted i (cond (p || q) disturbed (hears (kind_at k s a m))) nothing ≡ hears x → Brought k s n g a m x
    go zero false false z f h e = record { taken = z; in_range = f; out_of_startup = h; kind = ap (kind_of x) e }
    go zero true q z f h e = absurd (unheard e refl)
    go zero false true z f h e = absurd (unheard e refl)
    go (suc i) p q z f h e = absurd (unheard e refl)

module _ (k : Sensor) (timeout : ℤ) (c : Counts) (s : Ahrs) (h : Keeps k timeout c s) where
  -- new is what an update of whatever kind leaves, and n its number
  added : (g a m : Vector) (n : ℕ) (new : Ahrs) (x : Kind) → rejection_of k new ≡ rejection_of k (updated_of s g a m) → heard_by k s n g a m ≡ hears x
      → feedback_by (rejection_of k (accepted n new s)) ≡ cond (by_kind timeout c x).used (residual_at k s a m) zero_vector
  added g a m n new x same e =
      let b = brought k s n g a m x e in
      ap (λ (i : ℕ). feedback_by (rejection_of k (accepted i new s))) b.taken ∙ ap feedback_by same
      ∙ (updated_by s g a m b.in_range b.out_of_startup k timeout c h).added
      ∙ ap (λ (x : Kind). cond (by_kind timeout c x).used (residual_at k s a m) zero_vector) b.kind

  none_heard : (n : ℕ) {x : Kind} → accepted n disturbed nothing ≡ hears x → ⊥
  none_heard zero e = unheard e refl
  none_heard (suc n) e = unheard e refl

pub adds : Adds
unfolding with_quaternion
adds k timeout c s h (update g a m) x e = added k timeout c s h g a m (refusal_of (update_checks s g a m)) (updated_of s g a m) x refl e
adds k timeout c s h (update_external_heading g a y) x e =
    added k timeout c s h g a (magnetometer_of s.quaternion y) (refusal_of (external_checks s g a y)) (external_of s g a y) x refl e
adds k timeout c s h (update_no_magnetometer g a) x e =
    added k timeout c s h g a zero_vector (refusal_of (unaided_checks s g a)) (northed_of (unaided_of s g a)) x
    (as_read (rejection_of k) (λ n q. refl) (unaided_of s g a)) e
adds k timeout c s h restart x e = absurd (none_heard k timeout c s h (refusal_of (state_checks s)) e)
adds k timeout c s h (set_settings t) x e = absurd (none_heard k timeout c s h (refusal_of (change_checks s t)) e)
adds k timeout c s h skip_startup x e = absurd (unheard e refl)
adds k timeout c s h (set_sample_period p) x e = absurd (unheard e refl)
adds k timeout c s h (set_quaternion q) x e = absurd (unheard e refl)
adds k timeout c s h (set_heading y) x e = absurd (unheard e refl)
