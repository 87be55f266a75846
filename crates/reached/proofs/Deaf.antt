-- How long each sensor has been ignored: `MarkTells`, `EachCall`, `HowLong` and `StaysMarked` hold. Assumes nothing.
use Prim.Native.Nat.{ℕ, zero, suc, ◌+◌}
use native.Mathlib.Omega.{arith}
use mathlib.Core.Path.{◌≡◌, refl, ap, ap₂, sym, ◌∙◌}
use mathlib.Core.Bool.{Bool, true, false, not, cond, ◌||◌}
use mathlib.Core.List.{List, [], ◌∷◌}
use lib.Dec.{eqb, ltb}
use lib.IntN.{ℤ}
use lib.Ieee.{Float, le}
use borrow.Author.Tests.{le-ltb, ltb-true, ltb-false, ne_eqb}
use Rattle.answer.specs.Refusals.{refusal_of, accepted}
use Rattle.answer.specs.Runs.{step_of}
use Rattle.answer.proofs.Running.{untouched, kept}
use Rattle.vector.specs.declared.Vector.{Vector}
use Rattle.vector.specs.Vectors.{zero_vector, is_zero_of, norm_squared_of, cross_of, normalize_of, add_of}
use Rattle.rejection.specs.declared.Updated.{Updated}
use Rattle.rejection.specs.Counts.{updated_of}
use Rattle.settings.specs.declared.Settings.{Settings}
use Rattle.settings.specs.declared.config.Config.{Config}
use Rattle.settings.specs.Config.{derived_of}
use Rattle.settings.specs.Axes.{any_of, over_of}
use Rattle.step.specs.declared.Rejection.{Rejection}
use Rattle.step.specs.declared.sensor.Feedback.{Feedback}
use Rattle.step.specs.Sensor.{counts_of, residual_of, reset_of, largest_count, longer_of, kept_of, skipped_of, rejected_of}
use Rattle.step.specs.Sensor.{half_inclination_feedback_of, half_heading_feedback_of}
use Rattle.ahrs.specs.declared.Ahrs.{Ahrs}
use Rattle.ahrs.specs.Filter as filter
use Rattle.ahrs.specs.Filter.{fresh_of, restarted_of, skipped_startup, with_settings, with_threshold, with_sample_period, with_quaternion}
use Rattle.ahrs.specs.Filter.{soft_restarted_of, overrange_of, half_feedback_of}
use Rattle.ahrs.specs.Calls.{update_checks, state_checks, change_checks, period_checks, quaternion_checks}
use Rattle.heading.specs.Turn.{magnetometer_of}
use Rattle.heading.specs.Calls.{with_heading, set_checks, external_of, external_checks, unaided_of, northed_of, unaided_checks}
use Rattle.reached.specs.Runs.{Call, update, restart, skip_startup, set_settings, set_sample_period, set_quaternion, outline_of}
use Rattle.reached.specs.Runs.{set_heading, update_external_heading, update_no_magnetometer}
use Rattle.reached.specs.Deaf.{Sensor, accelerometer, magnetometer, of_sensor, mark_of, count_of, feedback_by, MarkTells}
use Rattle.reached.specs.Deaf.{Effect, clears, updates, leaves, effect_of, effects_of, reached_of, since_of, in_aRow, used_or_none}
use Rattle.reached.specs.Deaf.{at_most, reached_count, reached_since, HowLong, count_after, EachCall, Marked, StaysMarked}
use Rattle.reached.proofs.Keeping as keeping
use Rattle.reached.proofs.Headed.{as_read}

-- ---- one sensor

-- what a sensor's update gives to the feedback, and leaves of the count, by the mark that it leaves
pub record Tells (count : ℕ) (f : Feedback) : Type 0 where
  pub gives : f.half_feedback ≡ feedback_by f.rejection
  pub counts : f.rejection.ignored_count ≡ cond f.rejection.ignored (longer_of count) 0

pub kept_tells : (count : ℕ) (v : Vector) (u : Updated) → Tells count (kept_of count v u)
kept_tells count v u = record { gives = given u.used; counts = counted u.used }
  where
    given : (b : Bool) → cond b v zero_vector ≡ cond (not b) zero_vector v
    given true = refl
    given false = refl

    counted : (b : Bool) → cond b 0 (longer_of count) ≡ cond (not b) (longer_of count) 0
    counted true = refl
    counted false = refl

-- skipped, or judged by its residual
told_by
    : (b : Bool) (r : Rejection) (v : Vector) (on : Bool) (limit : Float) (timeout : ℤ)
    → Tells r.ignored_count (cond b (skipped_of r) (rejected_of r v on limit timeout))
unfolding skipped_of rejected_of
told_by true r v on limit timeout = record { gives = refl; counts = refl }
told_by false r v on limit timeout = kept_tells r.ignored_count v (updated_of timeout (counts_of r) (not (on || le (norm_squared_of v) limit)))

inclination_tells
    : (r : Rejection) (gravity a : Vector) (on : Bool) (c : Config) → Tells r.ignored_count (half_inclination_feedback_of r gravity a on c)
unfolding half_inclination_feedback_of
inclination_tells r gravity a on c = told_by (is_zero_of a) r (residual_of (normalize_of a) gravity) on _ _

heading_tells
    : (r : Rejection) (gravity west m : Vector) (on : Bool) (c : Config) → Tells r.ignored_count (half_heading_feedback_of r gravity west m on c)
unfolding half_heading_feedback_of
heading_tells r gravity west m on c = told_by (is_zero_of m) r (residual_of (normalize_of (cross_of gravity m)) west) on _ _

-- ---- an update

pub mark_tells : MarkTells
unfolding filter.updated_of half_feedback_of
mark_tells s g a m =
    let now = overrange_of s g in
    ap₂ add_of (inclination_tells now.acceleration _ a _ now.config).gives (heading_tells now.magnetic _ _ m _ now.config).gives

-- the same of both
both_same : {A : Type 0} (k : Sensor) (x : A) → of_sensor k x x ≡ x
both_same accelerometer x = refl
both_same magnetometer x = refl

-- an overrange clears the count
over_count : (k : Sensor) (s : Ahrs) (g : Vector) → count_of k (overrange_of s g) ≡ cond (any_of (over_of s.config g)) 0 (count_of k s)
unfolding overrange_of reset_of
over_count k s g = go (any_of (over_of s.config g))
  where
    go : (b : Bool) → count_of k (cond b (soft_restarted_of s (over_of s.config g)) s) ≡ cond b 0 (count_of k s)
    go true = both_same k 0
    go false = refl

-- before the update is counted
now_count
    : (k : Sensor) (s : Ahrs) (g a m : Vector)
    → let next = filter.updated_of s g a m in count_of k next ≡ cond (mark_of k next) (longer_of (count_of k (overrange_of s g))) 0
unfolding filter.updated_of half_feedback_of
now_count accelerometer s g a m = (inclination_tells (overrange_of s g).acceleration _ a _ (overrange_of s g).config).counts
now_count magnetometer s g a m = (heading_tells (overrange_of s g).magnetic _ _ m _ (overrange_of s g).config).counts

updated_count
    : (k : Sensor) (s : Ahrs) (g a m : Vector)
    → let next = filter.updated_of s g a m in count_of k next ≡ count_after (updates (any_of (over_of s.config g)) (mark_of k next)) (count_of k s)
updated_count k s g a m =
    now_count k s g a m ∙ ap (λ (n : ℕ). cond (mark_of k (filter.updated_of s g a m)) (longer_of n) 0) (over_count k s g)

-- ---- every call

accepted_count
    : (k : Sensor) (n : ℕ) (effect : Effect) (new old : Ahrs) → count_of k new ≡ count_after effect (count_of k old)
    → count_of k (accepted n new old) ≡ count_after (accepted n effect leaves) (count_of k old)
accepted_count k zero effect new old h = h
accepted_count k (suc n) effect new old h = refl

pub each_call : EachCall
unfolding fresh_of reset_of skipped_startup with_settings with_threshold with_sample_period with_quaternion
each_call k s (update g a m) = accepted_count k (refusal_of (update_checks s g a m)) _ (filter.updated_of s g a m) s (updated_count k s g a m)
each_call k s restart = accepted_count k (refusal_of (state_checks s)) clears (restarted_of s) s (both_same k 0)
each_call k s skip_startup = untouched (count_of k) (refusal_of (state_checks s)) (skipped_startup s) s refl
each_call k s (set_settings t) = untouched (count_of k) (refusal_of (change_checks s t)) (with_settings s t (derived_of t)) s refl
each_call k s (set_sample_period p) = untouched (count_of k) (refusal_of (period_checks s p)) (with_sample_period s p) s refl
each_call k s (set_quaternion q) = untouched (count_of k) (refusal_of (quaternion_checks s q)) (with_quaternion s q) s refl
each_call k s (set_heading h) = untouched (count_of k) (refusal_of (set_checks s h)) (with_heading s h) s refl
each_call k s (update_external_heading g a h) =
    accepted_count k (refusal_of (external_checks s g a h)) _ (external_of s g a h) s (updated_count k s g a (magnetometer_of s.quaternion h))
each_call k s (update_no_magnetometer g a) =
    accepted_count k (refusal_of (unaided_checks s g a)) _ (northed_of (unaided_of s g a)) s
    (as_read (count_of k) (λ n q. refl) (unaided_of s g a) ∙ updated_count k s g a zero_vector)

-- ---- a run

-- one more stops where the smaller of two does, whatever the most is
one_more : (most n : ℕ) → cond (ltb (at_most most n) most) (at_most most n + 1) (at_most most n) ≡ at_most most (suc n)
one_more most n = go (ltb n most) refl
  where
    last : (b : Bool) → ltb (suc n) most ≡ b → ltb n most ≡ true → n + 1 ≡ cond b (suc n) most
    last true e h = omega arith
    last false e h = omega (arith, ltb-true n most h, ltb-false (suc n) most e)

    go : (b : Bool) → ltb n most ≡ b
        → let k = cond b n most in cond (ltb k most) (k + 1) k ≡ at_most most (suc n)
    go true h = ap (λ (b : Bool). cond b (n + 1) n) h ∙ last (ltb (suc n) most) refl h
    go false h =
        ap (λ (b : Bool). cond b (most + 1) most) (le-ltb most most (omega arith))
        ∙ sym (ap (λ (b : Bool). cond b (suc n) most) (le-ltb (suc n) most (omega (arith, ltb-false n most h))))

one_effect
    : (e : Effect) (before : List Effect)
    → count_after e (at_most largest_count (in_aRow (since_of before))) ≡ at_most largest_count (in_aRow (since_of (e ∷ before)))
unfolding longer_of
one_effect clears before = refl
one_effect (updates true true) before = refl
one_effect (updates true false) before = refl
one_effect (updates false true) before = one_more largest_count (in_aRow (since_of before))
one_effect (updates false false) before = refl
one_effect leaves before = refl

along
    : (k : Sensor) (s : Ahrs) (cs : List Call) (before : List Effect) → count_of k s ≡ at_most largest_count (in_aRow (since_of before))
    → count_of k (reached_of s cs) ≡ at_most largest_count (in_aRow (since_of (effects_of k s cs before)))
along k s [] before h = h
along k s (c ∷ cs) before h =
    along k (step_of outline_of s c).state cs (effect_of k s c ∷ before)
    (each_call k s c ∙ ap (count_after (effect_of k s c)) h ∙ one_effect (effect_of k s c) before)

some : (n : ℕ) → eqb (suc n) 0 ≡ false
some n = ne_eqb (suc n) 0 (λ e. omega arith)

none_yet : (bs : List Bool) → eqb (at_most largest_count (in_aRow bs)) 0 ≡ used_or_none bs
none_yet [] = refl
none_yet (false ∷ bs) = refl
none_yet (true ∷ bs) = go (ltb (suc (in_aRow bs)) largest_count)
  where
    go : (b : Bool) → eqb (cond b (suc (in_aRow bs)) largest_count) 0 ≡ false
    go true = some (in_aRow bs)
    go false = refl

number_after : (k : Sensor) (t : Settings) (cs : List Call) → reached_count k t cs ≡ at_most largest_count (in_aRow (reached_since k t cs))
unfolding fresh_of reset_of
number_after k t cs = along k (fresh_of t (derived_of t)) cs [] (both_same k 0)

pub how_long : HowLong
how_long =
    record {
      number = number_after;
      zero = λ k t cs. ap (λ (n : ℕ). eqb n 0) (number_after k t cs) ∙ none_yet (reached_since k t cs);
    }

-- ---- the mark

-- one more is not 0
agree : (b : Bool) (n : ℕ) → b ≡ not (eqb (cond b (longer_of n) 0) 0)
unfolding longer_of
agree false n = refl
agree true zero = refl
agree true (suc n) = go (ltb (suc n) largest_count)
  where
    go : (b : Bool) → true ≡ not (eqb (cond b (suc n + 1) (suc n)) 0)
    go true = ap not (sym (ne_eqb (suc n + 1) 0 (λ e. omega arith)))
    go false = ap not (sym (some n))

fresh_marked : (s : Ahrs) → Marked (restarted_of s)
unfolding fresh_of reset_of
fresh_marked s accelerometer = refl
fresh_marked s magnetometer = refl

updated_marked : (s : Ahrs) (g a m : Vector) → Marked (filter.updated_of s g a m)
updated_marked s g a m k = agree (mark_of k (filter.updated_of s g a m)) _ ∙ ap (λ (n : ℕ). not (eqb n 0)) (sym (now_count k s g a m))

after_call : (s : Ahrs) → Marked s → (c : Call) → Marked (step_of outline_of s c).state
unfolding skipped_startup with_settings with_threshold with_sample_period with_quaternion
after_call s h c =
    keeping.after_call Marked s h c
    (record {
      updated = λ g a m f. updated_marked s g a m;
      restarted = fresh_marked s;
      skipped = h;
      settings = λ t e a. h;
      period = λ p f. h;
      quaternion = λ q e f. h;
      headed = λ n k x f. k;
    })

pub stays_marked : StaysMarked
unfolding fresh_of reset_of
stays_marked t cs =
    let fresh = fresh_of t (derived_of t) in
    let h : Marked fresh = fresh_marked fresh in
    (h, kept _ _ outline_of Marked after_call fresh h cs)
