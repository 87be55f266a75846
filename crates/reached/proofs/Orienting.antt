-- When the orientation is zero, and what it is otherwise: `ZeroExactly`, `NeverZero` and `SetAgain` hold. Assumes nothing.
use Prim.Native.Nat.{ℕ, zero, suc}
use mathlib.Core.Path.{◌≡◌, refl, sym, ap, subst, ◌∙◌}
use mathlib.Core.Bool.{Bool, true, false, ◌||◌, or-true, true≢false}
use mathlib.Core.List.{List, [], ◌∷◌}
use mathlib.Core.Option.{some, none-ne-some}
use lib.Ieee.{of_bits, fits, eq, lt, le, add, mul, sum, round, units, odd}
use Rattle.number.specs.Float32 as float
use Rattle.answer.specs.Refusals.{refusal_of, accepted}
use Rattle.answer.specs.Runs.{step_of, run_of, Throughout}
use Rattle.answer.proofs.Running.{settled, read_settled, untouched}
use Rattle.vector.specs.declared.Vector.{Vector}
use Rattle.vector.specs.Vectors.{zero_vector}
use Rattle.math.specs.declared.quaternion.Quaternion.{Quaternion}
use Rattle.math.specs.Quaternions.{norm_squared_of}
use Rattle.math.proofs.Normal.{within_no_zeros}
use Rattle.settings.specs.declared.Settings.{Settings}
use Rattle.settings.specs.declared.config.Config.{Config}
use Rattle.settings.specs.Config.{derived_of}
use Rattle.ahrs.specs.declared.Ahrs.{Ahrs}
use Rattle.ahrs.specs.Filter.{finite_state, fresh_of, restarted_of, skipped_startup, with_settings, with_sample_period, with_quaternion, updated_of}
use Rattle.ahrs.specs.Calls.{update_checks, state_checks, change_checks, period_checks, settable, quaternion_checks}
use Rattle.ahrs.proofs.Finite.{parts}
use Rattle.heading.specs.Turn.{magnetometer_of}
use Rattle.heading.specs.Calls.{with_heading, set_checks, external_of, external_checks, unaided_of, northed_of, unaided_checks}
use Rattle.reached.specs.Runs.{Call, update, restart, skip_startup, set_settings, set_sample_period, set_quaternion, outline_of}
use Rattle.reached.specs.Runs.{set_heading, update_external_heading, update_no_magnetometer, checks_of, Readings, readings_of}
use Rattle.reached.specs.Orientation.{all_zero, overflows, zero_after, Single, ZeroExactly, overflowing, Given, Calm, NeverZero}
use Rattle.reached.specs.Orientation.{heads, Unheaded, ZeroOrSettable, SetAgain}
use Rattle.reached.proofs.Accepting.{update_accepted, quaternion_accepted}
use Rattle.reached.proofs.Keeping as keeping
use Rattle.reached.proofs.Accepting.{heading_accepted, external_accepted, unaided_accepted, north_accepted}
use Rattle.reached.proofs.Headed.{northed}
use Rattle.heading.proofs.Zeros.{headed_zero}
use Rattle.reached.proofs.Turned.{updated_zero, updated_settable, updated_single, headed_single}
use Rattle.reached.proofs.Leaving.{way_out}

settable_not_zero : (q : Quaternion) → settable q ≡ true → all_zero q ≡ false
unfolding settable
settable_not_zero q h = within_no_zeros q h

-- ---- when it is zero

fresh_not_zero : (t : Settings) (c : Config) → all_zero (fresh_of t c).quaternion ≡ false
unfolding fresh_of eq of_bits
fresh_not_zero t c = refl

abbrev is_zero : Ahrs → Bool
is_zero s = all_zero s.quaternion

-- in startup a heading of 0 is set
unaided_zero
    : (s : Ahrs) (g a : Vector) → refusal_of (unaided_checks s g a) ≡ 0 → all_zero (northed_of (unaided_of s g a)).quaternion ≡ overflows s g a zero_vector
unfolding with_quaternion
unaided_zero s g a e =
    northed (λ (n : Ahrs). is_zero n ≡ is_zero (unaided_of s g a)) (unaided_of s g a) refl
    (λ t. headed_zero (unaided_of s g a).quaternion float.zero (updated_single s g a zero_vector) (north_accepted s g a e t))
    ∙ updated_zero s g a zero_vector (unaided_accepted s g a e)

after_call : (s : Ahrs) → Single s.quaternion → (c : Call) → all_zero (step_of outline_of s c).state.quaternion ≡ zero_after s c
unfolding skipped_startup with_settings with_sample_period with_quaternion
after_call s f (update g a m) =
    read_settled is_zero (refusal_of (update_checks s g a m)) (updated_of s g a m) s _ (λ e. updated_zero s g a m (update_accepted s g a m e))
after_call s f (update_external_heading g a h) =
    read_settled is_zero (refusal_of (external_checks s g a h)) (external_of s g a h) s _
    (λ e. updated_zero s g a (magnetometer_of s.quaternion h) (external_accepted s g a h e))
after_call s f (update_no_magnetometer g a) =
    read_settled is_zero (refusal_of (unaided_checks s g a)) (northed_of (unaided_of s g a)) s _ (unaided_zero s g a)
after_call s f restart = read_settled is_zero (refusal_of (state_checks s)) (restarted_of s) s _ (λ e. fresh_not_zero s.settings s.config)
after_call s f (set_quaternion q) =
    read_settled is_zero (refusal_of (quaternion_checks s q)) (with_quaternion s q) s _ (λ e. settable_not_zero q (quaternion_accepted s q e).1)
after_call s f (set_heading h) =
    settled (λ (n : Ahrs). is_zero n ≡ is_zero s) (refusal_of (set_checks s h)) (with_heading s h) s refl
    (λ e. headed_zero s.quaternion h f (heading_accepted s h e))
after_call s f skip_startup = untouched is_zero (refusal_of (state_checks s)) (skipped_startup s) s refl
after_call s f (set_settings t) = untouched is_zero (refusal_of (change_checks s t)) (with_settings s t (derived_of t)) s refl
after_call s f (set_sample_period p) = untouched is_zero (refusal_of (period_checks s p)) (with_sample_period s p) s refl

pub zero_exactly : ZeroExactly
zero_exactly = record { fresh = λ t. fresh_not_zero t (derived_of t); step = after_call }

-- ---- its numbers are of f32

abbrev Of32 : Ahrs → Type 0
Of32 s = Single s.quaternion

fresh_single : (t : Settings) (c : Config) → Of32 (fresh_of t c)
unfolding fresh_of of_bits fits
fresh_single t c = (tt, tt, tt, tt)

single_after : (s : Ahrs) → Of32 s → (c : Call) → Given c → Of32 (step_of outline_of s c).state
unfolding skipped_startup with_settings with_sample_period with_quaternion
single_after s f c o =
    keeping.after_call Of32 s f c
    (record {
      updated = λ g a m e. updated_single s g a m;
      restarted = fresh_single s.settings s.config;
      skipped = f;
      settings = λ t e a. f;
      period = λ p e. f;
      quaternion = λ q e i. subst Given e o;
      headed = λ n k x e. headed_single n.quaternion x;
    })

-- ---- a run without an overflow

neither : (n : ℕ) (b d : Bool) → accepted n b false ≡ false → d ≡ false → accepted n b d ≡ false
neither zero b d p q = p
neither (suc n) b d p q = q

never : (n : ℕ) → accepted n false false ≡ false
never zero = refl
never (suc n) = refl

calm_after : (s : Ahrs) → all_zero s.quaternion ≡ false → (c : Call) → overflowing s c ≡ false → zero_after s c ≡ false
calm_after s h (update g a m) e = neither (refusal_of (update_checks s g a m)) _ _ e h
calm_after s h (update_external_heading g a x) e = neither (refusal_of (external_checks s g a x)) _ _ e h
calm_after s h (update_no_magnetometer g a) e = neither (refusal_of (unaided_checks s g a)) _ _ e h
calm_after s h restart e = neither (refusal_of (state_checks s)) _ _ (never (refusal_of (state_checks s))) h
calm_after s h (set_quaternion q) e = neither (refusal_of (quaternion_checks s q)) _ _ (never (refusal_of (quaternion_checks s q))) h
calm_after s h skip_startup e = h
calm_after s h (set_settings t) e = h
calm_after s h (set_sample_period p) e = h
calm_after s h (set_heading x) e = h

pub never_zero : NeverZero
never_zero t cs calm = go (fresh_of t (derived_of t)) (fresh_single t (derived_of t)) (fresh_not_zero t (derived_of t)) cs calm
  where
    go
        : (s : Ahrs) → Of32 s → all_zero s.quaternion ≡ false → (cs : List Call) → Calm s cs
        → Throughout (λ (k : Ahrs). all_zero k.quaternion ≡ false) (run_of outline_of s cs)
    go s f h [] calm = tt
    go s f h (c ∷ cs) (first, given, rest) =
        let next = after_call s f c ∙ calm_after s h c first in
        (next, go (step_of outline_of s c).state (single_after s f c given) next cs rest)

-- ---- every orientation that is not zero

fresh_settable : (t : Settings) (c : Config) → settable (fresh_of t c).quaternion ≡ true
unfolding fresh_of settable norm_squared_of eq lt le add mul sum round units odd of_bits
fresh_settable t c = refl

or_settable : (s : Ahrs) → settable s.quaternion ≡ true → ZeroOrSettable s
or_settable s h = rw h (or-true (all_zero s.quaternion))

pub updated_either : (s : Ahrs) (g a m : Vector) → finite_state (updated_of s g a m) ≡ true → ZeroOrSettable (updated_of s g a m)
updated_either s g a m h = go (overflows s g a m) refl
  where
    go : (b : Bool) → overflows s g a m ≡ b → ZeroOrSettable (updated_of s g a m)
    go true e = rw (updated_zero s g a m h ∙ e) refl
    go false e = or_settable (updated_of s g a m) (updated_settable s g a m h e)

-- a call that sets a heading is refused where it is said to set none
unset : (n : ℕ) (new old : Ahrs) → accepted n true false ≡ false → ZeroOrSettable old → ZeroOrSettable (accepted n new old)
unset zero new old e h = absurd (true≢false e)
unset (suc n) new old e h = h

unaided_either
    : (n : ℕ) (u old : Ahrs) → accepted n u.startup false ≡ false → (n ≡ 0 → ZeroOrSettable u) → ZeroOrSettable old
    → ZeroOrSettable (accepted n (northed_of u) old)
unaided_either zero u old e k h = northed ZeroOrSettable u (k refl) (λ t. absurd (true≢false (sym t ∙ e)))
unaided_either (suc n) u old e k h = h

either_after : (s : Ahrs) → ZeroOrSettable s → (c : Call) → heads s c ≡ false → ZeroOrSettable (step_of outline_of s c).state
unfolding skipped_startup with_settings with_sample_period with_quaternion
either_after s h (update g a m) o =
    settled ZeroOrSettable (refusal_of (update_checks s g a m)) (updated_of s g a m) s h (λ e. updated_either s g a m (update_accepted s g a m e))
either_after s h (update_external_heading g a x) o =
    settled ZeroOrSettable (refusal_of (external_checks s g a x)) (external_of s g a x) s h
    (λ e. updated_either s g a (magnetometer_of s.quaternion x) (external_accepted s g a x e))
either_after s h (update_no_magnetometer g a) o =
    unaided_either (refusal_of (unaided_checks s g a)) (unaided_of s g a) s o (λ e. updated_either s g a zero_vector (unaided_accepted s g a e)) h
either_after s h restart o =
    settled ZeroOrSettable (refusal_of (state_checks s)) (restarted_of s) s h
    (λ e. or_settable (restarted_of s) (fresh_settable s.settings s.config))
either_after s h (set_quaternion q) o =
    settled ZeroOrSettable (refusal_of (quaternion_checks s q)) (with_quaternion s q) s h
    (λ e. or_settable (with_quaternion s q) (quaternion_accepted s q e).1)
either_after s h (set_heading x) o = unset (refusal_of (set_checks s x)) (with_heading s x) s o h
either_after s h skip_startup o = settled ZeroOrSettable (refusal_of (state_checks s)) (skipped_startup s) s h (λ e. h)
either_after s h (set_settings t) o = settled ZeroOrSettable (refusal_of (change_checks s t)) (with_settings s t (derived_of t)) s h (λ e. h)
either_after s h (set_sample_period p) o = settled ZeroOrSettable (refusal_of (period_checks s p)) (with_sample_period s p) s h (λ e. h)

-- what an accepted update leaves, whatever stood before
taken : (n : ℕ) (new old : Ahrs) → n ≡ 0 → ZeroOrSettable new → ZeroOrSettable (accepted n new old)
taken n new old z h = subst (λ (k : ℕ). ZeroOrSettable (accepted k new old)) (sym z) h

updated_after
    : (s : Ahrs) (c : Call) (r : Readings) → readings_of s c ≡ some r → refusal_of (checks_of s c) ≡ 0 → heads s c ≡ false
    → ZeroOrSettable (step_of outline_of s c).state
updated_after s (update g a m) r e z o = taken _ (updated_of s g a m) s z (updated_either s g a m (update_accepted s g a m z))
updated_after s (update_external_heading g a x) r e z o =
    taken _ (external_of s g a x) s z (updated_either s g a (magnetometer_of s.quaternion x) (external_accepted s g a x z))
updated_after s (update_no_magnetometer g a) r e z o =
    taken _ (northed_of (unaided_of s g a)) s z
    (northed ZeroOrSettable (unaided_of s g a) (updated_either s g a zero_vector (unaided_accepted s g a z))
    (λ t. absurd (true≢false (sym t ∙ ap (λ (k : ℕ). accepted k (unaided_of s g a).startup false) (sym z) ∙ o))))
updated_after s restart r e z o = absurd (none-ne-some r e)
updated_after s skip_startup r e z o = absurd (none-ne-some r e)
updated_after s (set_settings t) r e z o = absurd (none-ne-some r e)
updated_after s (set_sample_period p) r e z o = absurd (none-ne-some r e)
updated_after s (set_quaternion q) r e z o = absurd (none-ne-some r e)
updated_after s (set_heading h) r e z o = absurd (none-ne-some r e)

along : (s : Ahrs) → ZeroOrSettable s → (cs : List Call) → Unheaded s cs → Throughout ZeroOrSettable (run_of outline_of s cs)
along s h [] o = tt
along s h (c ∷ cs) (first, rest) =
    let next = either_after s h c first in
    (next, along (step_of outline_of s c).state next cs rest)

pub set_again : SetAgain
unfolding with_quaternion
set_again =
    record {
      reached =
          λ t cs o.
          let fresh = fresh_of t (derived_of t) in
          let h = or_settable fresh (fresh_settable t (derived_of t)) in
          (h, along fresh h cs o);
      updated = updated_after;
      itself = λ s h o z. way_out.by_quaternion s h s.quaternion (parts s h.finite).quaternion (second (all_zero s.quaternion) _ z o);
    }
  where
    second : (a b : Bool) → a ≡ false → (a || b) ≡ true → b ≡ true
    second true b z h = absurd (true≢false z)
    second false b z h = h
