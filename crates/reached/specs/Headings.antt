-- 02 P10: an orientation that may be set, or is all zero, is small enough for every heading: nothing overflows in what is made of it. So in startup the
-- heading of 0 is always set, and after an update of whatever kind a heading is refused only for what was given.
use Rattle.std.specs.Prelude.{◌≡◌, true, not, ◌&&◌, ◌||◌, [], ◌∷◌, ◌++◌, Float}
use Rattle.std.proofs.Math.Option.{some}
use Rattle.answer.specs.Refusals.{check, refusal_of}
use Rattle.answer.specs.Runs.{step_of}
use Rattle.trig.specs.Degrees.{in_turn}
use Rattle.vector.specs.declared.Vector.{Vector}
use Rattle.vector.specs.Vectors.{zero_vector, finite_vector}
use Rattle.math.specs.declared.quaternion.Quaternion.{Quaternion}
use Rattle.ahrs.specs.declared.Ahrs.{Ahrs}
use Rattle.ahrs.specs.Filter.{finite_state}
use Rattle.ahrs.specs.Calls.{update_checks, settable}
use Rattle.heading.specs.Turn.{finite_point, roll_of}
use Rattle.heading.specs.Calls.{heading_checks, given_checks, headable, set_checks, external_of, external_checks, unaided_checks}
use Rattle.reached.specs.Runs.{Call, outline_of, checks_of, Readings, readings_of}
use Rattle.reached.specs.Reached.{Sound}
use Rattle.reached.specs.Orientation.{all_zero, Single}

-- of numbers of f32; such is what a start, a restart, a quaternion that is set and an update leave, unless the update sets the heading of 0 too
abbrev pub Turnable : Quaternion → Type 0
Turnable q = Single q × ((all_zero q || settable q) ≡ true)

pub record NeverOverflows : Type 0 where
  -- the point whose angle is yaw, and the new orientation
  pub headed : (q : Quaternion) → Turnable q → (heading : Float) → in_turn heading ≡ true → headable q heading ≡ true
  -- the point whose angle is roll
  pub rolled : (q : Quaternion) → Turnable q → finite_point (roll_of q) ≡ true

-- so these checks of the calls always pass
pub record AlwaysPass : Type 0 where
  -- the 7
  pub set_heading : (s : Ahrs) → Turnable s.quaternion → (heading : Float) → refusal_of (set_checks s heading) ≡ refusal_of (given_checks s true heading)
  -- the 7 of roll
  pub update_external_heading
      : (s : Ahrs) → Turnable s.quaternion → (g a : Vector) (heading : Float)
      → refusal_of (external_checks s g a heading)
      ≡ refusal_of (given_checks s (finite_vector g && finite_vector a) heading ++ (check 7 (not (finite_state (external_of s g a heading))) ∷ []))
  -- the 7 of the second half, on any state
  pub update_no_magnetometer : (s : Ahrs) (g a : Vector) → refusal_of (unaided_checks s g a) ≡ refusal_of (update_checks s g a zero_vector)

-- after an update that is accepted, with one from elsewhere and with none too, a heading is a 5 or a 6 or is set
abbrev pub HeadedAfter : Type 0
HeadedAfter =
    (s : Ahrs) → Sound s → (c : Call) (r : Readings) → readings_of s c ≡ some r → refusal_of (checks_of s c) ≡ 0
    → (heading : Float) → refusal_of (set_checks (step_of outline_of s c).state heading) ≡ refusal_of (heading_checks true heading)
