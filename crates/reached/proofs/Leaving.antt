-- From an orientation of zero no update is accepted; a restart is, and a quaternion that may be set: `Stuck` and `WayOut` hold. Assumes nothing.
use mathlib.Core.Path.{◌≡◌, refl, ap, ◌∙◌}
use mathlib.Core.Bool.{Bool, true, false, not, cond, ◌&&◌}
use mathlib.Core.List.{[], ◌∷◌}
use lib.Ieee.{Float}
use lib.Ieee.Scale.{finite}
use Rattle.answer.specs.Refusals.{check, refusal_of}
use Rattle.answer.specs.Runs.{changed_by}
use Rattle.answer.proofs.Answering.{fails, passes, all_pass}
use Rattle.trig.specs.Degrees.{in_turn}
use Rattle.vector.specs.declared.Vector.{Vector}
use Rattle.vector.specs.Vectors.{zero_vector, finite_vector}
use Rattle.math.specs.declared.quaternion.Quaternion.{Quaternion}
use Rattle.math.specs.Quaternions.{finite_quaternion}
use Rattle.math.proofs.Zeros.{Zeros, zeros_of_eq, no_turn}
use Rattle.settings.specs.Config.{known_convention}
use Rattle.step.specs.Rate.{integrated_of}
use Rattle.step.proofs.Shows.{integrated_shows}
use Rattle.ahrs.specs.declared.Ahrs.{Ahrs}
use Rattle.ahrs.specs.Filter.{finite_state, restarted_of, with_quaternion, overrange_of, displacement_of, updated_of}
use Rattle.ahrs.specs.Calls.{update_checks, state_checks, settable, quaternion_checks}
use Rattle.ahrs.proofs.Finite.{parts}
use Rattle.heading.specs.Turn.{finite_point, roll_of, magnetometer_of}
use Rattle.heading.specs.Calls.{external_of, external_checks, unaided_checks}
use Rattle.reached.specs.Reached.{Sound}
use Rattle.reached.specs.Orientation.{all_zero, Stuck, WayOut}
use Rattle.reached.proofs.Finite.{zero_finite}
use Rattle.reached.proofs.Counting.{after_overrange}

-- ---- updates

module _ (s : Ahrs) (z : Zeros s.quaternion) (g a m : Vector) where
  no_update : finite_state (updated_of s g a m) ≡ true → ⊥
  unfolding updated_of integrated_of
  no_update h =
      let q = (overrange_of s g).quaternion in
      let by = displacement_of s g a m in
      let turned = (parts (updated_of s g a m) h).quaternion in
      no_turn q by (after_overrange (λ (n : Ahrs). Zeros n.quaternion) s g z z) (integrated_shows q by turned).1 turned

  not_finite : finite_state (updated_of s g a m) ≡ false
  not_finite = go (finite_state (updated_of s g a m)) refl
    where
      go : (b : Bool) → finite_state (updated_of s g a m) ≡ b → b ≡ false
      go true e = absurd (no_update e)
      go false e = refl

module _ (s : Ahrs) (h : Sound s) (z : all_zero s.quaternion ≡ true) where
  known : not (known_convention s.settings) ≡ false
  known = ap not h.known

  lost : (g a m : Vector) → not (finite_state (updated_of s g a m)) ≡ true
  lost g a m = ap not (not_finite s (zeros_of_eq s.quaternion z) g a m)

  by_update : (g a m : Vector) → refusal_of (update_checks s g a m) ≡ cond (finite_vector g && finite_vector a && finite_vector m) 7 5
  by_update g a m = go (finite_vector g && finite_vector a && finite_vector m) refl
    where
      go : (b : Bool) → (finite_vector g && finite_vector a && finite_vector m) ≡ b → refusal_of (update_checks s g a m) ≡ cond b 7 5
      go true e = passes 4 _ known ∙ passes 5 _ (rw (h.finite, e) refl) ∙ fails 7 [] (lost g a m)
      go false e = passes 4 _ known ∙ fails 5 _ (rw (h.finite, e) refl)

  -- of two sevens, one fails
  either_7 : (p q : Bool) → q ≡ true → refusal_of (check 7 p ∷ check 7 q ∷ []) ≡ 7
  either_7 true q e = fails 7 _ refl
  either_7 false q e = passes 7 _ refl ∙ fails 7 _ e

  by_heading
      : (g a : Vector) (x : Float) → refusal_of (external_checks s g a x) ≡ cond (finite_vector g && finite_vector a && finite x) (cond (in_turn x) 7 6) 5
  by_heading g a x = passes 4 _ known ∙ passes 5 _ (ap not h.finite) ∙ go (finite_vector g && finite_vector a && finite x) (in_turn x) refl refl
    where
      point : Bool
      point = not (finite_point (roll_of s.quaternion))

      next : Bool
      next = not (finite_state (external_of s g a x))

      go : (b d : Bool) → (finite_vector g && finite_vector a && finite x) ≡ b → in_turn x ≡ d
          → refusal_of (check 5 (not (finite_vector g && finite_vector a && finite x)) ∷ check 6 (not (in_turn x)) ∷ check 7 point ∷ check 7 next ∷ [])
          ≡ cond b (cond d 7 6) 5
      go false d e f = fails 5 _ (ap not e)
      go true false e f = passes 5 _ (ap not e) ∙ fails 6 _ (ap not f)
      go true true e f = passes 5 _ (ap not e) ∙ passes 6 _ (ap not f) ∙ either_7 point next (lost g a (magnetometer_of s.quaternion x))

  by_none : (g a : Vector) → refusal_of (unaided_checks s g a) ≡ cond (finite_vector g && finite_vector a) 7 5
  by_none g a = go (finite_vector g && finite_vector a) refl
    where
      go : (b : Bool) → (finite_vector g && finite_vector a) ≡ b → refusal_of (unaided_checks s g a) ≡ cond b 7 5
      go true e = passes 4 _ known ∙ passes 5 _ (rw (h.finite, e, zero_finite) refl) ∙ fails 7 _ (lost g a zero_vector)
      go false e = passes 4 _ known ∙ fails 5 _ (rw (h.finite, e) refl)

pub stuck : Stuck
stuck = record { by_update = by_update; by_heading = by_heading; by_none = by_none }

-- ---- ways out

restart_accepted : (s : Ahrs) → Sound s → refusal_of (state_checks s) ≡ 0
restart_accepted s h = passes 4 _ (ap not h.known) ∙ passes 5 _ (ap not h.finite) ∙ all_pass

set_accepted : (s : Ahrs) → Sound s → (q : Quaternion) → finite_quaternion q ≡ true → settable q ≡ true → refusal_of (quaternion_checks s q) ≡ 0
set_accepted s h q f l = passes 4 _ (ap not h.known) ∙ passes 5 _ (rw (h.finite, f) refl) ∙ passes 9 _ (ap not l) ∙ all_pass

pub way_out : WayOut
way_out =
    record {
      by_restart = λ s h. ap (changed_by (restarted_of s) s) (restart_accepted s h);
      by_quaternion = λ s h q f l. ap (changed_by (with_quaternion s q) s) (set_accepted s h q f l);
    }
