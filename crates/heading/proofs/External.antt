-- What an update with a heading from elsewhere promises, from what its tests found: what was given is finite, so that the update inside it is refused
-- exactly where its next state is not finite. Assumes nothing.
use mathlib.Core.Path.{◌≡◌, refl, sym, ap, ap₂, ◌∙◌}
use mathlib.Core.Bool.{Bool, true, false, not, ◌&&◌, ◌||◌, true≢false}
use mathlib.Core.List.{List, [], ◌∷◌}
use lib.Ieee.{Float}
use Rattle.std.specs.declared.result.Result.{Result}
use Rattle.std.specs.Prelude.{is_err}
use Rattle.answer.specs.declared.Answer.TheVariants.{Refused}
use Rattle.answer.specs.declared.change.Reading.{Reading}
use Rattle.answer.specs.declared.refusal.Refusal.{Refusal}
use Rattle.answer.specs.declared.refusal.Refusal.TheVariants.{Overflow}
use Rattle.answer.specs.Answers.{number_of}
use Rattle.answer.specs.Refusals.{Check, check, refusal_of}
use Rattle.answer.specs.Rows.{row_of, number_in}
use Rattle.answer.proofs.Answering.{fails, passes, all_pass, is_row, is_new, unmoved, moved}
use Rattle.answer.proofs.Tests.{neither}
use Rattle.answer.proofs.Joined.{refused_first}
use Rattle.vector.specs.declared.Vector.{Vector}
use Rattle.vector.specs.Vectors.{finite_vector}
use Rattle.ahrs.specs.declared.Ahrs.{Ahrs}
use Rattle.ahrs.specs.Filter.{finite_state, updated_of}
use Rattle.ahrs.specs.Calls.{update_checks, oriented_of, Updates}
use Rattle.ahrs.specs.Inner.{finite_dropped}
use Rattle.ahrs.proofs.Finite.{parts}
use Rattle.ahrs.proofs.Shows.{updated_shows}
use Rattle.heading.specs.declared.point.Point.{Point}
use Rattle.heading.specs.Turn.{finite_point, roll_of, magnetometer_of}
use Rattle.heading.specs.Calls.{given_checks, external_of, external_checks, UpdatesHeading}
use Rattle.heading.proofs.Given.{number_ok, ok_number, Given, what_is_given, after_given, what_is_taken}

dropped : (s : Ahrs) → finite_state s ≡ true → finite_dropped s ≡ true
dropped s h =
    let p = parts s h in
    ap₂ ◌&&◌ (ap₂ ◌&&◌ (ap₂ ◌&&◌ p.accelerometer p.acceleration) p.magnetic) p.gain

abbrev finite_given : Vector → Vector → Bool
finite_given g a = finite_vector g && finite_vector a

abbrev last_checks : Ahrs → Vector → Vector → Float → List Check
last_checks s g a heading =
    check 7 (not (finite_point (roll_of s.quaternion))) ∷ check 7 (not (finite_state (external_of s g a heading))) ∷ []

-- b and d are whether what was measured is finite
module _ (s : Ahrs) (g a : Vector) (heading : Float) {b d : Bool} (finite_g : b ≡ finite_vector g) (finite_a : d ≡ finite_vector a) where
  abbrev numbered : Bool → List Check
  numbered f = given_checks s f heading

  numbers : refusal_of (numbered (b && d)) ≡ refusal_of (numbered (finite_given g a))
  numbers = ap (λ (f : Bool). refusal_of (numbered f)) (ap₂ ◌&&◌ finite_g finite_a)

  pub external_refused : {e : Refusal} → row_of e ≡ refusal_of (numbered (b && d)) → UpdatesHeading s g a heading (record { state = s; answer = Refused e })
  external_refused {e} n =
      let number = n ∙ numbers in
      unmoved _ _ refl _ _ e (number ∙ sym (refused_first (numbered (finite_given g a)) _ (λ z. is_row e (number ∙ z))))

  -- m is the magnetometer that is made, r what the update with it gives
  module _ (n : 0 ≡ refusal_of (numbered (b && d))) {m : Vector} (made : m ≡ magnetometer_of s.quaternion heading)
      {r : Reading Ahrs} (u : Updates s g a m r) where
    last_two : refusal_of (external_checks s g a heading) ≡ refusal_of (last_checks s g a heading)
    last_two = after_given s (finite_given g a) heading (sym (n ∙ numbers)) _

    next_is : updated_of s g a m ≡ external_of s g a heading
    next_is = ap (updated_of s g a) made

    -- the update inside is refused only for what comes out
    next_not_finite : (refusal_of (update_checks s g a m) ≡ 0 → ⊥) → finite_state (updated_of s g a m) ≡ false
    next_not_finite h = go (finite_state (updated_of s g a m)) refl
      where
        given : Given s (finite_given g a) heading
        given = what_is_given s (finite_given g a) heading (sym (n ∙ numbers))

        go : (f : Bool) → finite_state (updated_of s g a m) ≡ f → f ≡ false
        go true e =
            absurd
            (h
            (passes 4 _ (ap not given.known) ∙ passes 5 _ (ap not (updated_shows s g a m (dropped s given.state) e))
            ∙ passes 7 _ (ap not e) ∙ all_pass))
        go false e = refl

    -- v is the result that the answer is; f and x are what the last test found
    module _ (v : Result (Unit {0}) Refusal) (result : number_in v ≡ number_of r.answer)
        {p : Point} (at : p ≡ roll_of s.quaternion) {f x : Bool} (tested : f ≡ finite_point p) (failed : x ≡ is_err v) where
      number_is : number_in v ≡ refusal_of (update_checks s g a m)
      number_is = result ∙ u.answer.number

      point_is : f ≡ finite_point (roll_of s.quaternion)
      point_is = tested ∙ ap finite_point at

      pub external_7 : (not f || x) ≡ true → UpdatesHeading s g a heading (record { state = s; answer = Refused Overflow })
      external_7 h = unmoved _ _ refl _ _ Overflow (sym (last_two ∙ go f refl))
        where
          refused : f ≡ true → refusal_of (update_checks s g a m) ≡ 0 → ⊥
          refused e z = true≢false (sym h ∙ rw (e, failed, number_ok v (number_is ∙ z)))

          go : (b : Bool) → f ≡ b → refusal_of (last_checks s g a heading) ≡ 7
          go false e = fails 7 _ (ap not (sym point_is ∙ e))
          go true e = passes 7 _ (ap not (sym point_is ∙ e)) ∙ fails 7 _ (ap not (ap finite_state (sym next_is) ∙ next_not_finite (refused e)))

      pub external_made : (not f || x) ≡ false → UpdatesHeading s g a heading r
      external_made h =
          moved _ _ refl _ _ (sym (last_two ∙ passes 7 _ (ap not (sym point_is) ∙ tests.0) ∙ passes 7 _ (ap not next) ∙ all_pass))
          (is_new _ _ u.state no_number ∙ next_is) (is_new _ _ u.answer.exact no_number ∙ ap (λ (n : Ahrs). oriented_of n.quaternion) next_is)
        where
          tests : (not f ≡ false) × (x ≡ false)
          tests = neither (not f) x h

          no_number : refusal_of (update_checks s g a m) ≡ 0
          no_number = sym number_is ∙ ok_number v (sym failed ∙ tests.1)

          next : finite_state (external_of s g a heading) ≡ true
          next = ap finite_state (sym next_is) ∙ (what_is_taken s g a m no_number).next
