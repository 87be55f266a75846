-- What a heading that is set promises, from what its tests found. Assumes nothing.
use mathlib.Core.Path.{◌≡◌, refl, sym, ap, ap₂, subst, ◌∙◌}
use mathlib.Core.Bool.{Bool, true, false, not, ◌&&◌}
use lib.Ieee.{Float}
use Rattle.std.specs.declared.result.Result.TheVariants.{Ok, Err}
use Rattle.answer.specs.declared.change.Change.{Change}
use Rattle.answer.specs.declared.refusal.Refusal.{Refusal}
use Rattle.answer.specs.declared.refusal.Refusal.TheVariants.{Overflow}
use Rattle.answer.specs.Refusals.{refusal_of}
use Rattle.answer.specs.Rows.{row_of}
use Rattle.answer.proofs.Answering.{fails, passes, all_pass, is_row, becomes, refuses_change}
use Rattle.answer.proofs.Joined.{refused_first}
use Rattle.math.specs.declared.quaternion.Quaternion.{Quaternion}
use Rattle.math.specs.Quaternions.{finite_quaternion}
use Rattle.ahrs.specs.declared.Ahrs.{Ahrs}
use Rattle.ahrs.specs.Filter.{with_quaternion}
use Rattle.heading.specs.declared.point.Point.{Point}
use Rattle.heading.specs.Turn.{finite_point, yaw_of, headed_of}
use Rattle.heading.specs.Calls.{given_checks, headable, SetsHeading}
use Rattle.heading.proofs.Given.{after_given}

module _ (s : Ahrs) (heading : Float) where
  pub set_refused
      : {e : Refusal} → row_of e ≡ refusal_of (given_checks s true heading) → {r : Change Ahrs} → r ≡ record { state = s; result = Err e }
      → SetsHeading s heading r
  set_refused {e} n c =
      let number = n ∙ sym (refused_first (given_checks s true heading) _ (λ z. is_row e (n ∙ z))) in
      subst (SetsHeading s heading) (sym c) (refuses_change _ _ _ number e refl)

  -- p is the point whose angle is yaw, q the orientation turned, and f and g are whether they are finite
  module _ (n : 0 ≡ refusal_of (given_checks s true heading))
      {p : Point} (at : p ≡ yaw_of s.quaternion) {q : Quaternion} (made : q ≡ headed_of s.quaternion heading)
      {f g : Bool} (e : f ≡ finite_point p) (i : g ≡ finite_quaternion q) where
    tested : (f && g) ≡ headable s.quaternion heading
    unfolding headable
    tested = ap₂ ◌&&◌ (e ∙ ap finite_point at) (i ∙ ap finite_quaternion made)

    pub set_7 : (f && g) ≡ false → {r : Change Ahrs} → r ≡ record { state = s; result = Err Overflow } → SetsHeading s heading r
    set_7 h c =
        let number = after_given s true heading (sym n) _ ∙ fails 7 _ (ap not (sym tested ∙ h)) in
        subst (SetsHeading s heading) (sym c) (refuses_change _ _ _ (sym number) Overflow refl)

    pub set_made : (f && g) ≡ true → {r : Change Ahrs} → r ≡ record { state = with_quaternion s q; result = Ok tt } → SetsHeading s heading r
    set_made h c =
        let number = after_given s true heading (sym n) _ ∙ passes 7 _ (ap not (sym tested ∙ h)) ∙ all_pass in
        subst (SetsHeading s heading) (sym c) (becomes _ _ _ (sym number) refl (ap (with_quaternion s) made))
