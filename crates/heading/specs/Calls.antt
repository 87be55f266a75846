-- 02, P10: a heading that is set, an update with one from elsewhere, and an update with none, by the refusal table.
use Rattle.std.specs.Prelude.{Bool, true, not, cond, ◌&&◌, List, [], ◌∷◌, ◌++◌, Float}
use Rattle.std.specs.Float.Ieee.Scale.{finite}
use Rattle.number.specs.Float32.{zero}
use Rattle.answer.specs.Refusals.{Check, check, Exactly}
use Rattle.answer.specs.declared.change.Change.{Change}
use Rattle.answer.specs.declared.change.Reading.{Reading}
use Rattle.answer.specs.Rows.{number_in}
use Rattle.answer.specs.Promises.{Changed, Moved, One}
use Rattle.trig.specs.Degrees.{in_turn}
use Rattle.vector.specs.declared.Vector.{Vector}
use Rattle.vector.specs.Vectors.{zero_vector, finite_vector}
use Rattle.math.specs.declared.quaternion.Quaternion.{Quaternion}
use Rattle.math.specs.Quaternions.{finite_quaternion}
use Rattle.ahrs.specs.declared.Ahrs.{Ahrs}
use Rattle.ahrs.specs.Filter.{finite_state, with_quaternion, updated_of}
use Rattle.ahrs.specs.Calls.{state_checks, update_checks, oriented_of}
use Rattle.heading.specs.Turn.{finite_point, yaw_of, roll_of, headed_of, magnetometer_of}

-- 5 of what is given beside the state, and 6 for a heading beyond 360 degrees either way
abbrev pub heading_checks : Bool → Float → List Check
heading_checks given heading = check 5 (not (given && finite heading)) ∷ check 6 (not (in_turn heading)) ∷ []

-- after 4 and 5 of the state
abbrev pub given_checks : Ahrs → Bool → Float → List Check
given_checks s given heading = state_checks s ++ heading_checks given heading

-- ---- a heading that is set

abbrev pub with_heading : Ahrs → Float → Ahrs
with_heading s heading = with_quaternion s (headed_of s.quaternion heading)

-- what comes out: the point whose angle is yaw, and the new orientation
unfoldable pub headable : Quaternion → Float → Bool
headable q heading = finite_point (yaw_of q) && finite_quaternion (headed_of q heading)

abbrev pub set_checks : Ahrs → Float → List Check
set_checks s heading = given_checks s true heading ++ (check 7 (not (headable s.quaternion heading)) ∷ [])

abbrev pub SetsHeading : Ahrs → Float → Change Ahrs → Type 0
SetsHeading s heading r = Changed (set_checks s heading) (with_heading s heading) s r.state (number_in r.result)

-- ---- an update with a heading from elsewhere: one with the magnetometer that would show it

abbrev pub external_of : Ahrs → Vector → Vector → Float → Ahrs
external_of s g a heading = updated_of s g a (magnetometer_of s.quaternion heading)

-- what comes out: the point whose angle is roll, and the new state
abbrev pub external_checks : Ahrs → Vector → Vector → Float → List Check
external_checks s g a heading =
    given_checks s (finite_vector g && finite_vector a) heading
    ++ (check 7 (not (finite_point (roll_of s.quaternion))) ∷ check 7 (not (finite_state (external_of s g a heading))) ∷ [])

abbrev pub UpdatesHeading : Ahrs → Vector → Vector → Float → Reading Ahrs → Type 0
UpdatesHeading s g a heading r =
    Moved (external_checks s g a heading) (oriented_of (external_of s g a heading).quaternion) (external_of s g a heading) s r.state r.answer

-- ---- an update with none: the magnetometer is all zero, and where startup goes on heading 0 is set then

abbrev pub unaided_of : Ahrs → Vector → Vector → Ahrs
unaided_of s g a = updated_of s g a zero_vector

abbrev pub northed_of : Ahrs → Ahrs
northed_of s = cond s.startup (with_heading s zero) s

-- 7 of either half
abbrev pub unaided_checks : Ahrs → Vector → Vector → List Check
unaided_checks s g a =
    let next = unaided_of s g a in
    update_checks s g a zero_vector ++ (check 7 (next.startup && not (headable next.quaternion zero)) ∷ [])

abbrev pub UpdatesUnaided : Ahrs → Vector → Vector → Reading Ahrs → Type 0
UpdatesUnaided s g a r =
    let next = northed_of (unaided_of s g a) in
    Moved (unaided_checks s g a) (oriented_of next.quaternion) next s r.state r.answer

-- ---- what holds of all three

-- 01, "The refusal table": each number is given exactly when its row says
pub record ExactlyWhen : Type 0 where
  pub set_heading : (s : Ahrs) (heading : Float) → Exactly (set_checks s heading)
  pub update_external_heading : (s : Ahrs) (g a : Vector) (heading : Float) → Exactly (external_checks s g a heading)
  pub update_no_magnetometer : (s : Ahrs) (g a : Vector) → Exactly (unaided_checks s g a)

-- 01, "What we will read in the promises": two results that both satisfy a call's promise are the same
pub record Determined : Type 0 where
  pub set_heading : (s : Ahrs) (heading : Float) → One (SetsHeading s heading)
  pub update_external_heading : (s : Ahrs) (g a : Vector) (heading : Float) → One (UpdatesHeading s g a heading)
  pub update_no_magnetometer : (s : Ahrs) (g a : Vector) → One (UpdatesUnaided s g a)
