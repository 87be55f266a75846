-- Whether state, corrected reading and next state are finite, by fewer tests: the state stands but for its timer, or its offset grew. Assumes nothing.
use Prim.Native.Nat.{◌+◌}
use mathlib.Core.Path.{◌≡◌, refl, sym, ap, ap₂, ◌∙◌}
use mathlib.Core.Bool.{Bool, true, false, ◌&&◌, ◌||◌, cond, and-false, false≢true}
use lib.Dec.{ltb}
use Rattle.vector.specs.declared.Vector.{Vector}
use Rattle.vector.specs.Vectors.{finite_vector, exceeds_of, add_of, mul_of}
use Rattle.vector.proofs.Shows.{add_shows, mul_shows}
use Rattle.bias.specs.declared.Bias.{Bias}
use Rattle.bias.specs.Settings.{finite_settings}
use Rattle.bias.specs.Estimator.{finite_bias, with_timer, with_offset, advanced_of}
use Rattle.bias.specs.Inner.{all_finite}

-- what the offset grew to is finite only where the coefficient, the offset and the corrected reading are
grows : (s k o c w : Bool) → (w ≡ true → (k ≡ true) × (o ≡ true) × (c ≡ true)) → (s && w) ≡ (s && k && o && c && (s && k && w))
grows false k o c w h = refl
grows true k o c false h = sym (ap (λ (x : Bool). k && o && c && x) (and-false k) ∙ and-false (k && o && c))
grows true k o c true h = let t = h refl in rw (t.0, t.1, t.2)

again : (a b : Bool) → (a && b) ≡ (a && b && a)
again true true = refl
again true false = refl
again false b = refl

module _ (b : Bias) (c : Vector) where
  -- the next state, by whether the reading moves and whether the timer waits
  abbrev by_tests : Bool → Bool → Bias
  by_tests m w = cond m (with_timer b 0) (cond w (with_timer b (b.timer + 1)) (with_offset b (add_of b.offset (mul_of c b.filter_coefficient))))

  -- but for its timer the state stands
  stood : (m w : Bool) → (m || w) ≡ true → (finite_bias b && finite_vector c) ≡ all_finite b c (by_tests m w)
  unfolding finite_bias
  stood true w h = again (finite_bias b) (finite_vector c)
  stood false true h = again (finite_bias b) (finite_vector c)
  stood false false h = absurd (false≢true h)

  grew : (m w : Bool) → (m || w) ≡ false → (finite_settings b.settings && finite_vector (by_tests m w).offset) ≡ all_finite b c (by_tests m w)
  unfolding finite_bias
  grew true w h = absurd (false≢true (sym h))
  grew false true h = absurd (false≢true (sym h))
  grew false false h =
      grows (finite_settings b.settings) _ _ _ _
      (λ f.
      let p = add_shows b.offset (mul_of c b.filter_coefficient) f in
      let q = mul_shows c b.filter_coefficient p.1 in
      (q.1, p.0, q.0))

  abbrev moves : Bool
  moves = exceeds_of c b.settings.stationary_threshold

  abbrev waits : Bool
  waits = ltb b.timer b.timeout

  module _ {n : Bias} {r : Bool} (en : n ≡ advanced_of b c) (er : r ≡ moves) where
    tested : {v : Bool} → (r || waits) ≡ v → (moves || waits) ≡ v
    tested h = ap (λ (x : Bool). x || waits) (sym er) ∙ h

    -- f and g are what the code tests
    pub standing : {f g : Bool} → f ≡ finite_bias b → g ≡ finite_vector c → (r || waits) ≡ true → (f && g) ≡ all_finite b c n
    unfolding advanced_of
    standing ef eg h = ap₂ ◌&&◌ ef eg ∙ stood moves waits (tested h) ∙ ap (all_finite b c) (sym en)

    pub growing : {f g : Bool} → f ≡ finite_settings b.settings → g ≡ finite_vector n.offset → (r || waits) ≡ false → (f && g) ≡ all_finite b c n
    unfolding advanced_of
    growing ef eg h =
        ap₂ ◌&&◌ ef (eg ∙ ap (λ (x : Bias). finite_vector x.offset) en) ∙ grew moves waits (tested h) ∙ ap (all_finite b c) (sym en)
