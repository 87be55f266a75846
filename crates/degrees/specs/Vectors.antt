-- A vector of 24 bytes, six words with the low byte first: its kind, two floats, the number of the refusal or 0, and the least and the greatest float that
-- may be the answer. A call of one float is given the first, the angle of a point y and x.
use Rattle.std.specs.Prelude.{ℕ, Bool, false, cond, ◌&&◌, ◌||◌, List, ◌==◌, nat_lt, Float}
use Rattle.std.specs.Float.Ieee.{neg, lt, le}
use Rattle.answer.specs.Refusals.{refusal_of, accepted}
use Rattle.wire.specs.Wire.{bits_at, float_of}
use Rattle.answer.specs.Rows.{row_of, refusal_at}
use Rattle.answer.specs.declared.refusal.Refusal.{Refusal}
use Rattle.std.specs.declared.result.Result.{Result}
use Rattle.std.specs.declared.result.Result.TheVariants.{Ok, Err}
use Rattle.degrees.specs.declared.vectors.Kind.{Kind}
use Rattle.degrees.specs.declared.vectors.Kind.TheVariants.{Sine, Cosine, Limit, Angle, Unknown}
use Rattle.trig.specs.Wave.{sin_of, cos_of}
use Rattle.trig.specs.Limit.{rejection_threshold_of}
use Rattle.trig.specs.Angle.{straight, angle_of}
use Rattle.trig.specs.Calls.{angle_checks, point_checks}

-- a value between the two ends where there is no refusal, or the refusal's number
abbrev pub answer_right : Result Float Refusal → ℕ → Float → Float → Bool
answer_right (Ok v) number least greatest = number == 0 && le least v && le v greatest
answer_right (Err e) number least greatest = row_of e == number

-- an angle, above -180 and at most 180, lies on the way from the least on to the greatest, which goes by 180 degrees where the least is above the greatest
abbrev pub lies_between : Float → Float → Float → Bool
lies_between angle least greatest =
    let inside = lt (neg straight) angle && le angle straight in
    cond (le least greatest) (inside && le least angle && le angle greatest) (inside && (le least angle || le angle greatest))

abbrev pub angle_right : Result Float Refusal → ℕ → Float → Float → Bool
angle_right (Ok v) number least greatest = number == 0 && lies_between v least greatest
angle_right (Err e) number least greatest = row_of e == number

-- what a call that refuses an angle answers
abbrev pub answer_of : (Float → Float) → Float → Result Float Refusal
answer_of f x = let n = refusal_of (angle_checks x) in accepted n (Ok (f x)) (Err (refusal_at n))

-- what the angle of a point answers
abbrev pub angle_answer : Float → Float → Result Float Refusal
angle_answer y x = let n = refusal_of (point_checks y x) in accepted n (Ok (angle_of y x)) (Err (refusal_at n))

-- the kinds: 0 is the sine, 1 the cosine, 2 the squared limit of a rejection angle, 3 the angle of a point; 4 stands for any other
unfoldable pub kind_of : List ℕ → ℕ
kind_of v = cond (nat_lt (bits_at v 0) 4) (bits_at v 0) 4

-- the word that a vector has for its kind, or 4
abbrev pub code_of : Kind → ℕ
code_of Sine = 0
code_of Cosine = 1
code_of Limit = 2
code_of Angle = 3
code_of Unknown = 4

unfoldable pub kind_right : ℕ → Float → Float → ℕ → Float → Float → Bool
kind_right kind x other number least greatest =
    cond (kind == 0) (answer_right (answer_of sin_of x) number least greatest)
    (cond (kind == 1) (answer_right (answer_of cos_of x) number least greatest)
    (cond (kind == 2) (answer_right (Ok (rejection_threshold_of x)) number least greatest)
    (cond (kind == 3) (angle_right (angle_answer x other) number least greatest) false)))

abbrev pub right_of : List ℕ → Bool
right_of v = kind_right (kind_of v) (float_of (bits_at v 4)) (float_of (bits_at v 8)) (bits_at v 12) (float_of (bits_at v 16)) (float_of (bits_at v 20))
