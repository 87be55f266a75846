-- What the returns of the calls have to show, from the number of their checks. Assumes nothing.
use Rattle.answer.specs.Said.{alone}
use Rattle.std.proofs.Common.{◌≡◌, Bool, true, false, not, ◌&&◌, T, [], sym, ap, ◌∙◌}
use lib.Ieee.{Float}
use lib.Ieee.Scale.{finite}
use Rattle.answer.specs.Refusals.{refusal_of}
use Rattle.answer.proofs.Answering.{fails, passes, all_pass, passed, refuses_result, gives_result}
use Rattle.answer.specs.declared.refusal.Refusal.TheVariants.{NotFinite}
use Rattle.std.specs.declared.result.Result.TheVariants.{Ok, Err}
use Rattle.answer.proofs.Tests.{two}
use Rattle.trig.specs.Degrees.{in_turn}
use Rattle.trig.specs.Angle.{angle_of, Angled}
use Rattle.trig.specs.Calls.{angle_checks, GivesAngle, AnswersAngled}
use Rattle.trig.proofs.Waves.{is_so}
use Rattle.trig.proofs.Bearings.{each_finite}

-- what the checks of an angle let through
pub in_range : (x : Float) → 0 ≡ refusal_of (angle_checks x) → T (in_turn x)
in_range x n = is_so (passed 5 (in_turn x) _ (passed 4 (finite x) _ (sym n)).1).0

-- f and g are the tests of y and of x
module _ (y x : Float) {f g : Bool} (e : f ≡ finite y) (i : g ≡ finite x) where
  pub refused_point : (f && g) ≡ false → GivesAngle y x (Err NotFinite) × AnswersAngled y x (Err NotFinite)
  refused_point h = (refuses_result alone _ _ NotFinite (sym (fails 5 [] (two e i (ap not h)))), tt)

  pub answered_point : (f && g) ≡ true → {r : Float} → r ≡ angle_of y x → (T (finite y) → T (finite x) → Angled y x r)
      → GivesAngle y x (Ok r) × AnswersAngled y x (Ok r)
  answered_point h d near =
      let p = each_finite y x e i h in
      (gives_result alone _ _ (sym (passes 5 [] (two e i (ap not h)) ∙ all_pass)) (ap Ok d), near p.0 p.1)
