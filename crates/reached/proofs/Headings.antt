-- Nothing overflows in what a heading makes of an orientation that may be set or is all zero: `NeverOverflows`, `AlwaysPass` and `HeadedAfter` hold.
-- Assumes nothing.
use Prim.Native.Nat.{ℕ}
use mathlib.Core.Path.{◌≡◌, refl, sym, ap, subst, ◌∙◌}
use mathlib.Core.Bool.{Bool, true, false, not, ◌&&◌, ◌||◌}
use mathlib.Core.List.{[]}
use mathlib.Core.Option.{some, none-ne-some}
use lib.Dec.{lit≤}
use lib.Ieee.{Float}
use lib.Ieee.Bits.{is_true}
use Rattle.number.specs.Float32 as float
use Rattle.answer.specs.Refusals.{refusal_of, accepted, ascends}
use Rattle.answer.specs.Runs.{step_of}
use Rattle.answer.proofs.Answering.{passes, all_pass}
use Rattle.answer.proofs.Joined.{passed_first, left_out}
use Rattle.trig.specs.Degrees.{in_turn}
use Rattle.trig.proofs.Waves.{is_so}
use Rattle.trig.proofs.InTurn.{zero_in_turn}
use Rattle.vector.specs.declared.Vector.{Vector}
use Rattle.vector.specs.Vectors.{zero_vector, finite_vector}
use Rattle.math.specs.declared.quaternion.Quaternion.{Quaternion}
use Rattle.math.proofs.Small.{Small, more_small, zeros_small, within_small}
use Rattle.ahrs.specs.declared.Ahrs.{Ahrs}
use Rattle.ahrs.specs.Filter.{finite_state, with_quaternion, updated_of}
use Rattle.ahrs.specs.Calls.{state_checks, update_checks, settable}
use Rattle.heading.specs.Turn.{finite_point, roll_of, magnetometer_of}
use Rattle.heading.specs.Calls.{heading_checks, given_checks, headable, set_checks, external_of, unaided_of, northed_of}
use Rattle.heading.proofs.Given.{what_is_given}
use Rattle.heading.proofs.Finite.{roll_finite, headed_small, small_headable}
use Rattle.reached.specs.Runs.{Call, update, restart, skip_startup, set_settings, set_sample_period, set_quaternion, outline_of}
use Rattle.reached.specs.Runs.{set_heading, update_external_heading, update_no_magnetometer, checks_of, Readings, readings_of}
use Rattle.reached.specs.Reached.{Sound}
use Rattle.reached.specs.Orientation.{all_zero}
use Rattle.reached.specs.Headings.{Turnable, NeverOverflows, AlwaysPass, HeadedAfter}
use Rattle.reached.proofs.Accepting.{update_accepted, external_accepted, unaided_accepted}
use Rattle.reached.proofs.Headed.{northed}
use Rattle.reached.proofs.Running.{after_call}
use Rattle.reached.proofs.Turned.{updated_single}
use Rattle.reached.proofs.Orienting.{updated_either}

-- ---- small enough

turnable_small : (q : Quaternion) → Turnable q → Small 4 q
unfolding settable
turnable_small q (single, h) = go (all_zero q) refl h
  where
    go : (b : Bool) → all_zero q ≡ b → (b || settable q) ≡ true → Small 4 q
    go true e k = zeros_small 4 q e
    go false e k = within_small q k single

turnable : (q : Quaternion) → Turnable q → Small 1024 q
turnable q h = more_small (lit≤ tt) (turnable_small q h)

pub never_overflows : NeverOverflows
never_overflows =
    record {
      headed = λ q h heading t. small_headable (turnable q h) heading (is_so t);
      rolled = λ q h. roll_finite (turnable q h);
    }

-- ---- what an update leaves

updated_turnable : (s : Ahrs) (g a m : Vector) → finite_state (updated_of s g a m) ≡ true → Turnable (updated_of s g a m).quaternion
updated_turnable s g a m f = (updated_single s g a m, updated_either s g a m f)

not_second : (b : Bool) {c : Bool} → c ≡ true → (b && not c) ≡ false
not_second true e = ap not e
not_second false e = refl

-- ---- the calls

small_set
    : (s : Ahrs) → Small 1024 s.quaternion → (heading : Float) → refusal_of (set_checks s heading) ≡ refusal_of (given_checks s true heading)
small_set s h heading =
    left_out (given_checks s true heading) [] 7 (not (headable s.quaternion heading))
    (λ e. ap not (small_headable h heading (is_so (what_is_given s true heading e).in_range)))

pub always_pass : AlwaysPass
always_pass =
    record {
      set_heading = λ s h. small_set s (turnable s.quaternion h);
      update_external_heading =
          λ s h g a heading.
          left_out (given_checks s (finite_vector g && finite_vector a) heading) _ 7 (not (finite_point (roll_of s.quaternion)))
          (λ e. ap not (never_overflows.rolled s.quaternion h));
      update_no_magnetometer =
          λ s g a.
          let q = (unaided_of s g a).quaternion in
          left_out (update_checks s g a zero_vector) [] 7 ((unaided_of s g a).startup && not (headable q float.zero))
          (λ e.
          let turnable = updated_turnable s g a zero_vector (update_accepted s g a zero_vector e) in
          not_second (unaided_of s g a).startup (never_overflows.headed q turnable float.zero (is_true (in_turn float.zero) zero_in_turn)));
    }

-- ---- after an update

abbrev SmallState : Ahrs → Type 0
SmallState s = Small 1024 s.quaternion

updated_small : (s : Ahrs) (g a m : Vector) → finite_state (updated_of s g a m) ≡ true → Small 4 (updated_of s g a m).quaternion
updated_small s g a m f = turnable_small (updated_of s g a m).quaternion (updated_turnable s g a m f)

-- in startup a heading of 0 is set
northed_small : (n : Ahrs) → Small 4 n.quaternion → SmallState (northed_of n)
unfolding with_quaternion
northed_small n h =
    northed SmallState n (more_small (lit≤ tt) h) (λ t. more_small (lit≤ tt) (headed_small (lit≤ tt) h float.zero zero_in_turn))

taken : (n : ℕ) (new old : Ahrs) → n ≡ 0 → SmallState new → SmallState (accepted n new old)
taken n new old z h = subst (λ (k : ℕ). SmallState (accepted k new old)) (sym z) h

small_after : (s : Ahrs) (c : Call) (r : Readings) → readings_of s c ≡ some r → refusal_of (checks_of s c) ≡ 0 → SmallState (step_of outline_of s c).state
small_after s (update g a m) r e z = taken _ (updated_of s g a m) s z (more_small (lit≤ tt) (updated_small s g a m (update_accepted s g a m z)))
small_after s (update_external_heading g a x) r e z =
    taken _ (external_of s g a x) s z (more_small (lit≤ tt) (updated_small s g a (magnetometer_of s.quaternion x) (external_accepted s g a x z)))
small_after s (update_no_magnetometer g a) r e z =
    taken _ (northed_of (unaided_of s g a)) s z (northed_small (unaided_of s g a) (updated_small s g a zero_vector (unaided_accepted s g a z)))
small_after s restart r e z = absurd (none-ne-some r e)
small_after s skip_startup r e z = absurd (none-ne-some r e)
small_after s (set_settings t) r e z = absurd (none-ne-some r e)
small_after s (set_sample_period p) r e z = absurd (none-ne-some r e)
small_after s (set_quaternion q) r e z = absurd (none-ne-some r e)
small_after s (set_heading x) r e z = absurd (none-ne-some r e)

-- a sound state's own checks pass
sound_given : (s : Ahrs) → Sound s → (heading : Float) → refusal_of (given_checks s true heading) ≡ refusal_of (heading_checks true heading)
unfolding ascends
sound_given s h heading =
    passed_first (state_checks s) (heading_checks true heading) tt (passes 4 _ (ap not h.known) ∙ passes 5 _ (ap not h.finite) ∙ all_pass)

pub headed_after : HeadedAfter
headed_after s h c r e z heading =
    let next = (step_of outline_of s c).state in
    small_set next (small_after s c r e z) heading ∙ sound_given next (after_call s h c) heading
