-- The number of a reading's checks, from whether all is finite and whether what was given is. Assumes nothing.
use mathlib.Core.Path.{◌≡◌, sym, ap, ap₂, ◌∙◌}
use mathlib.Core.Bool.{Bool, true, false, not, ◌&&◌, and_comm, false≢true}
use Rattle.answer.specs.Refusals.{refusal_of}
use Rattle.answer.proofs.Tests.{both, all_three}
use Rattle.answer.proofs.Answering.{fails, passes, all_pass}
use Rattle.vector.specs.declared.Vector.{Vector}
use Rattle.vector.specs.Vectors.{finite_vector}
use Rattle.vector.proofs.Shows.{sub_shows}
use Rattle.bias.specs.declared.Bias.{Bias}
use Rattle.bias.specs.Estimator.{finite_bias, corrected_of, advanced_of}
use Rattle.bias.specs.Calls.{reading_checks}
use Rattle.bias.specs.Inner.{Advances, all_finite}

-- a finite state, and not all finite: so not the next state and the corrected reading both
unmade : (b c n : Bool) → b ≡ true → (b && c && n) ≡ false → (n && c) ≡ false
unmade true c n h e = and_comm n c ∙ e
unmade false c n h e = absurd (false≢true h)

-- c is the corrected reading, n the next state, and s whether all is finite
module _ (b : Bias) (g : Vector) {c : Vector} {n : Bias} {s : Bool} (a : Advances b g c n) (es : s ≡ all_finite b c n) where
  all : {v : Bool} → s ≡ v → all_finite b (corrected_of b g) (advanced_of b (corrected_of b g)) ≡ v
  all h = ap₂ (all_finite b) (sym a.corrected) (sym (a.next ∙ ap (advanced_of b) a.corrected)) ∙ sym es ∙ h

  -- a corrected reading is finite only where the reading is
  pub unrefused : s ≡ true → 0 ≡ refusal_of (reading_checks b g)
  unrefused h =
      let f = all_three (finite_bias b) (finite_vector (corrected_of b g)) (finite_bias (advanced_of b (corrected_of b g))) (all h) in
      let given = (sub_shows g b.offset f.1).0 in
      sym (passes 5 _ (ap not (ap₂ ◌&&◌ f.0 given)) ∙ passes 7 _ (ap not (ap₂ ◌&&◌ f.2 f.1)) ∙ all_pass)

  -- p and q are whether state and reading are finite
  module _ {p q : Bool} (ep : p ≡ finite_bias b) (eq : q ≡ finite_vector g) where
    given : {v : Bool} → (p && q) ≡ v → (finite_bias b && finite_vector g) ≡ v
    given k = sym (ap₂ ◌&&◌ ep eq) ∙ k

    -- where all that was given is finite, it is what was made of it that is not
    pub refused_7 : s ≡ false → (p && q) ≡ true → 7 ≡ refusal_of (reading_checks b g)
    refused_7 h k =
        let made = unmade _ _ _ (both (finite_bias b) (finite_vector g) (given k)).0 (all h) in
        sym (passes 5 _ (ap not (given k)) ∙ fails 7 _ (ap not made))

    pub refused_5 : (p && q) ≡ false → 5 ≡ refusal_of (reading_checks b g)
    refused_5 k = sym (fails 5 _ (ap not (given k)))
