-- Whether an update is refused, from the tests that it makes. Assumes nothing.
use mathlib.Core.Path.{◌≡◌, sym, ap, ap₂, ◌∙◌}
use mathlib.Core.Bool.{true, false, not, ◌&&◌, true≢false}
use mathlib.Core.List.{[]}
use Rattle.answer.specs.Refusals.{refusal_of}
use Rattle.answer.proofs.Answering.{passes, all_pass, passed}
use Rattle.answer.proofs.Tests.{both, untrue, still}
use Rattle.vector.specs.declared.Vector.{Vector}
use Rattle.settings.specs.Config.{known_convention}
use Rattle.ahrs.specs.declared.Ahrs.{Ahrs}
use Rattle.ahrs.specs.Filter.{finite_state, updated_of}
use Rattle.ahrs.specs.Calls.{update_checks}
use Rattle.ahrs.specs.Inner.{finite_dropped}
use Rattle.ahrs.proofs.Shows.{given, updated_shows, given_dropped}

-- n is the next state
module _ (s : Ahrs) (g a m : Vector) {n : Ahrs} (e : n ≡ updated_of s g a m) where
  pub refused : not (finite_dropped s && finite_state n) ≡ true → refusal_of (update_checks s g a m) ≡ 0 → ⊥
  refused h z =
      let f = passed 4 (given s g a m) _ (passed 3 (known_convention s.settings) _ z).1 in
      let next = (passed 6 (finite_state (updated_of s g a m)) [] f.1).0 in
      true≢false (sym (ap₂ ◌&&◌ (given_dropped s g a m f.0) (ap finite_state e ∙ next)) ∙ untrue (finite_dropped s && finite_state n) h)

  pub accepted : not (known_convention s.settings) ≡ false → not (finite_dropped s && finite_state n) ≡ false → refusal_of (update_checks s g a m) ≡ 0
  accepted k h =
      let (d, f) = both (finite_dropped s) (finite_state n) (still (finite_dropped s && finite_state n) h) in
      let next = ap finite_state (sym e) ∙ f in
      passes 4 _ k ∙ passes 5 _ (ap not (updated_shows s g a m d next)) ∙ passes 7 _ (ap not next) ∙ all_pass
