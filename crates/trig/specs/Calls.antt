-- 02, P3 and P10: the sine and the cosine of any float, and the angle of any two, by the refusal table.
use Rattle.answer.specs.Said.{alone}
use Rattle.std.specs.Prelude.{not, ◌&&◌, T, List, [], ◌∷◌, Float}
use Rattle.std.specs.Float.Ieee.Scale.{finite}
use Rattle.answer.specs.Refusals.{Check, check, Exactly}
use Rattle.answer.specs.Promises.{Results, One}
use Rattle.answer.specs.declared.refusal.Refusal.{Refusal}
use Rattle.std.specs.declared.result.Result.{Result}
use Rattle.std.specs.declared.result.Result.TheVariants.{Ok, Err}
use Rattle.trig.specs.Degrees.{Fraction, in_turn, within}
use Rattle.trig.specs.Wave.{sin_of, cos_of}
use Rattle.trig.specs.Angle.{angle_of, Angled}

abbrev pub angle_checks : Float → List Check
angle_checks x = check 5 (not (finite x)) ∷ check 6 (not (in_turn x)) ∷ []

-- r answers v by the checks of the angle x
abbrev pub Gives : Float → Float → Result Float Refusal → Type 0
Gives x v r = Results alone (angle_checks x) v r

-- a number that is answered is within 2 ^ -23 of the exact one
abbrev pub AnswersNear : Fraction → Result Float Refusal → Type 0
AnswersNear f (Ok v) = T (within 23 v f)
AnswersNear f (Err e) = Unit {0}

abbrev pub point_checks : Float → Float → List Check
point_checks y x = check 5 (not (finite y && finite x)) ∷ []

-- r answers the angle of y and x by their checks
abbrev pub GivesAngle : Float → Float → Result Float Refusal → Type 0
GivesAngle y x r = Results alone (point_checks y x) (angle_of y x) r

-- a number that is answered is an angle of y and x
abbrev pub AnswersAngled : Float → Float → Result Float Refusal → Type 0
AnswersAngled y x (Ok v) = Angled y x v
AnswersAngled y x (Err e) = Unit {0}

-- 01, "The refusal table": each number is given exactly when its row says
pub record ExactlyWhen : Type 0 where
  pub sin_degrees : (x : Float) → Exactly (angle_checks x)
  pub cos_degrees : (x : Float) → Exactly (angle_checks x)
  pub angle_degrees : (y x : Float) → Exactly (point_checks y x)

-- 01, "What we will read in the promises": two results that both satisfy a call's promise are the same
pub record Determined : Type 0 where
  pub sin_degrees : (x : Float) → One (Gives x (sin_of x))
  pub cos_degrees : (x : Float) → One (Gives x (cos_of x))
  pub angle_degrees : (y x : Float) → One (GivesAngle y x)
