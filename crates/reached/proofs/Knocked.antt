-- Which axes went over, after each call and of every reached state: `StaysInStartup`, `Latest` and `ReadingsOwn` hold. Assumes nothing.
use Prim.Native.Nat.{ℕ}
use mathlib.Core.Path.{◌≡◌, refl, ap, sym, subst, ◌∙◌}
use mathlib.Core.Bool.{Bool, true, false, cond, true≢false, false≢true}
use mathlib.Core.Option.{some-injective, none-ne-some}
use lib.Ieee.{Float, lt}
use Rattle.number.specs.Float32.{◌⊖◌}
use Rattle.answer.specs.Refusals.{refusal_of, accepted}
use Rattle.answer.specs.Runs.{step_of}
use Rattle.answer.proofs.Running.{read_settled, untouched, kept}
use Rattle.vector.specs.declared.Vector.{Vector}
use Rattle.vector.specs.Vectors.{zero_vector}
use Rattle.settings.specs.declared.config.Config.{Config}
use Rattle.settings.specs.declared.axes.Axes.{Axes}
use Rattle.settings.specs.Config.{initial_gain, derived_of}
use Rattle.settings.specs.Axes.{none, any_of, over_of}
use Rattle.step.specs.declared.rate.Startup.{Startup}
use Rattle.step.specs.Rate.{startup, startup_gain_of}
use Rattle.ahrs.specs.declared.Ahrs.{Ahrs}
use Rattle.ahrs.specs.Filter.{fresh_of, restarted_of, skipped_startup, with_settings, with_sample_period, with_quaternion}
use Rattle.ahrs.specs.Filter.{soft_restarted_of, overrange_of, updated_of}
use Rattle.ahrs.specs.Calls.{update_checks, state_checks, change_checks, period_checks, quaternion_checks}
use Rattle.heading.specs.Turn.{magnetometer_of}
use Rattle.heading.specs.Calls.{with_heading, set_checks, external_of, external_checks, unaided_of, northed_of, unaided_checks}
use Rattle.reached.specs.Runs.{Call, update, restart, skip_startup, set_settings, set_sample_period, set_quaternion, outline_of}
use Rattle.reached.specs.Runs.{set_heading, update_external_heading, update_no_magnetometer, checks_of, Readings}
use Rattle.reached.specs.Knocks.{OnlyInStartup, StaysInStartup, axes_updated, Latest, ReadingsOwn}
use Rattle.reached.proofs.Keeping as keeping
use Rattle.reached.proofs.Headed.{as_read}
use Rattle.reached.proofs.Counting.{after_overrange}

-- ---- an update

-- what startup leaves: the set while it goes on, and none where it has ended
left_by_startup
    : (c : Config) (on : Bool) (gain : Float) (over : Axes) → (on ≡ false → over ≡ none)
    → let next = startup_gain_of c on gain over in next.overrange_recovery ≡ cond next.startup over none
unfolding startup_gain_of
left_by_startup c false gain over h = h refl
left_by_startup c true gain over h = go (lt c.gain (gain ⊖ c.startup_gain_rate))
  where
    fallen : Float
    fallen = gain ⊖ c.startup_gain_rate

    go : (b : Bool)
        → let next = cond b (startup true fallen over fallen) (startup false fallen none c.gain) in
        next.overrange_recovery ≡ cond next.startup over none
    go true = refl
    go false = refl

-- a set that is not none takes the place of the one before
replaced : (s : Ahrs) (g : Vector) → let over = over_of s.config g in (overrange_of s g).overrange_recovery ≡ cond (any_of over) over s.overrange_recovery
unfolding overrange_of
replaced s g = go (any_of (over_of s.config g))
  where
    go : (b : Bool) → let over = over_of s.config g in (cond b (soft_restarted_of s over) s).overrange_recovery ≡ cond b over s.overrange_recovery
    go true = refl
    go false = refl

updated_axes : (s : Ahrs) → OnlyInStartup s → (g a m : Vector) → (updated_of s g a m).overrange_recovery ≡ axes_updated s g a m
unfolding updated_of
updated_axes s h g a m =
    let now = overrange_of s g in
    left_by_startup now.config now.startup now.startup_gain now.overrange_recovery
    (after_overrange OnlyInStartup s g h (λ e. absurd (true≢false e)))
    ∙ ap (λ (over : Axes). cond (updated_of s g a m).startup over none) (replaced s g)

updated_in_startup : (s : Ahrs) → OnlyInStartup s → (g a m : Vector) → OnlyInStartup (updated_of s g a m)
updated_in_startup s h g a m e =
    let over = over_of s.config g in
    updated_axes s h g a m ∙ ap (λ (on : Bool). cond on (cond (any_of over) over s.overrange_recovery) none) e

-- ---- every call

fresh_in_startup : (s : Ahrs) → OnlyInStartup (restarted_of s)
unfolding fresh_of
fresh_in_startup s e = refl

after_call : (s : Ahrs) → OnlyInStartup s → (c : Call) → OnlyInStartup (step_of outline_of s c).state
unfolding skipped_startup with_settings with_sample_period with_quaternion
after_call s h c =
    keeping.after_call OnlyInStartup s h c
    (record {
      updated = λ g a m f. updated_in_startup s h g a m;
      restarted = fresh_in_startup s;
      skipped = λ k. refl;
      settings = λ t e a. h;
      period = λ p f. h;
      quaternion = λ q e f. h;
      headed = λ n k x f. k;
    })

pub stays_in_startup : StaysInStartup
unfolding fresh_of
stays_in_startup t cs =
    let fresh = fresh_of t (derived_of t) in
    let h : OnlyInStartup fresh = λ e. refl in
    (h, kept _ _ outline_of OnlyInStartup after_call fresh h cs)

abbrev shown : Ahrs → Axes
shown s = s.overrange_recovery

pub latest : Latest
unfolding fresh_of skipped_startup with_settings with_sample_period with_quaternion
latest s h (update g a m) = read_settled shown (refusal_of (update_checks s g a m)) (updated_of s g a m) s _ (λ e. updated_axes s h g a m)
latest s h restart = read_settled shown (refusal_of (state_checks s)) (restarted_of s) s none (λ e. refl)
latest s h skip_startup = read_settled shown (refusal_of (state_checks s)) (skipped_startup s) s none (λ e. refl)
latest s h (set_settings t) = untouched shown (refusal_of (change_checks s t)) (with_settings s t (derived_of t)) s refl
latest s h (set_sample_period p) = untouched shown (refusal_of (period_checks s p)) (with_sample_period s p) s refl
latest s h (set_quaternion q) = untouched shown (refusal_of (quaternion_checks s q)) (with_quaternion s q) s refl
latest s h (set_heading x) = untouched shown (refusal_of (set_checks s x)) (with_heading s x) s refl
latest s h (update_external_heading g a x) =
    read_settled shown (refusal_of (external_checks s g a x)) (external_of s g a x) s _ (λ e. updated_axes s h g a (magnetometer_of s.quaternion x))
latest s h (update_no_magnetometer g a) =
    read_settled shown (refusal_of (unaided_checks s g a)) (northed_of (unaided_of s g a)) s _
    (λ e. as_read shown (λ k q. refl) (unaided_of s g a) ∙ updated_axes s h g a zero_vector)

-- ---- a reading that went over

-- startup is on after an overrange, whatever it was, so nothing need be known of the state before
fired : (s : Ahrs) (g a m : Vector) → any_of (over_of s.config g) ≡ true → (updated_of s g a m).startup ≡ true
    → (updated_of s g a m).overrange_recovery ≡ over_of s.config g
unfolding updated_of overrange_of
fired s g a m f e = go (any_of (over_of s.config g)) f e
  where
    over : Axes
    over = over_of s.config g

    now : Bool → Ahrs
    now b = cond b (soft_restarted_of s over) s

    next : Bool → Startup
    next b = startup_gain_of (now b).config (now b).startup (now b).startup_gain (now b).overrange_recovery

    go : (b : Bool) → b ≡ true → (next b).startup ≡ true → (next b).overrange_recovery ≡ over
    go true p k =
        left_by_startup s.config true initial_gain over (λ z. absurd (true≢false z)) ∙ ap (λ (on : Bool). cond on over none) k
    go false p k = absurd (false≢true p)

-- new is what an accepted update of whatever kind leaves, and n its number
own
    : (s : Ahrs) (g a m : Vector) (n : ℕ) (new : Ahrs) → new.startup ≡ (updated_of s g a m).startup → shown new ≡ shown (updated_of s g a m)
    → n ≡ 0 → any_of (over_of s.config g) ≡ true → let next = accepted n new s in next.startup ≡ true → shown next ≡ over_of s.config g
own s g a m n new p q z f =
    subst (λ (n : ℕ). let next = accepted n new s in next.startup ≡ true → shown next ≡ over_of s.config g) (sym z)
    (λ e. q ∙ fired s g a m f (sym p ∙ e))

-- the readings that a call has
abbrev OwnOf : Ahrs → Call → Readings → Type 0
OwnOf s c r =
    refusal_of (checks_of s c) ≡ 0 → any_of (over_of s.config r.gyroscope) ≡ true
    → let next = (step_of outline_of s c).state in next.startup ≡ true → next.overrange_recovery ≡ over_of s.config r.gyroscope

pub readings_own : ReadingsOwn
unfolding with_quaternion
readings_own s (update g a m) r e = subst (OwnOf s (update g a m)) (some-injective _ r e) (own s g a m _ (updated_of s g a m) refl refl)
readings_own s (update_external_heading g a x) r e =
    subst (OwnOf s (update_external_heading g a x)) (some-injective _ r e)
    (own s g a (magnetometer_of s.quaternion x) _ (external_of s g a x) refl refl)
readings_own s (update_no_magnetometer g a) r e =
    subst (OwnOf s (update_no_magnetometer g a)) (some-injective _ r e)
    (own s g a zero_vector _ (northed_of (unaided_of s g a)) (as_read (λ (k : Ahrs). k.startup) (λ k q. refl) (unaided_of s g a))
    (as_read shown (λ k q. refl) (unaided_of s g a)))
readings_own s restart r e = absurd (none-ne-some r e)
readings_own s skip_startup r e = absurd (none-ne-some r e)
readings_own s (set_settings t) r e = absurd (none-ne-some r e)
readings_own s (set_sample_period p) r e = absurd (none-ne-some r e)
readings_own s (set_quaternion q) r e = absurd (none-ne-some r e)
readings_own s (set_heading x) r e = absurd (none-ne-some r e)
