-- 02 P6: the orientation of a reached state may be set again, or it is all zero. No start, no restart and no quaternion that is set leaves zeros; an
-- update, of whatever kind, does exactly where the squared norm of what it turned is infinite. Then no update is accepted, until a restart or a quaternion
-- that is set. A heading that is set turns what is there: zeros stay zeros, and nothing else becomes them.
use Rattle.std.specs.Prelude.{◌≡◌, Bool, true, false, cond, ◌&&◌, ◌||◌, List, [], ◌∷◌, T, Float}
use Rattle.std.proofs.Math.Option.{some}
use Rattle.std.specs.Float.Ieee.{eq, fits}
use Rattle.std.specs.Float.{binary32}
use Rattle.std.specs.Float.Ieee.Scale.{finite}
use Rattle.number.specs.Float32.{zero, infinity}
use Rattle.answer.specs.Refusals.{refusal_of, accepted}
use Rattle.answer.specs.Runs.{number, step_of, run_of, Throughout}
use Rattle.trig.specs.Degrees.{in_turn}
use Rattle.vector.specs.declared.Vector.{Vector}
use Rattle.vector.specs.Vectors.{zero_vector, finite_vector}
use Rattle.math.specs.declared.quaternion.Quaternion.{Quaternion}
use Rattle.math.specs.Quaternions.{quaternion, finite_quaternion, eq_of, norm_squared_of, normalize_of}
use Rattle.settings.specs.declared.Settings.{Settings}
use Rattle.settings.specs.Config.{derived_of}
use Rattle.step.specs.Rate.{turned_by}
use Rattle.ahrs.specs.declared.Ahrs.{Ahrs}
use Rattle.ahrs.specs.Filter.{fresh_of, restarted_of, with_quaternion, overrange_of, displacement_of, updated_of}
use Rattle.ahrs.specs.Calls.{update_checks, state_checks, settable, quaternion_checks}
use Rattle.heading.specs.Turn.{magnetometer_of}
use Rattle.heading.specs.Calls.{set_checks, external_checks, unaided_checks, unaided_of}
use Rattle.reached.specs.Runs.{Call, update, restart, skip_startup, set_settings, set_sample_period, set_quaternion, outline_of}
use Rattle.reached.specs.Runs.{set_heading, update_external_heading, update_no_magnetometer, checks_of, Readings, readings_of}
use Rattle.reached.specs.Reached.{Sound}

-- all four are zero, of either sign
abbrev pub all_zero : Quaternion → Bool
all_zero q = eq_of q (quaternion zero zero zero zero)

-- the orientation that an update has turned, and not yet normalized
unfoldable pub turned_of : Ahrs → Vector → Vector → Vector → Quaternion
turned_of s g a m = turned_by (overrange_of s g).quaternion (displacement_of s g a m)

abbrev pub Normalized : Type 0
Normalized = (s : Ahrs) (g a m : Vector) → (updated_of s g a m).quaternion ≡ normalize_of (turned_of s g a m)

-- its squared norm is infinite, and so the root; the reciprocal is zero
abbrev pub overflows : Ahrs → Vector → Vector → Vector → Bool
overflows s g a m = eq (norm_squared_of (turned_of s g a m)) infinity

-- ---- when it is zero

-- whether a call leaves an orientation of zero
abbrev pub zero_after : Ahrs → Call → Bool
zero_after s (update g a m) = accepted (refusal_of (update_checks s g a m)) (overflows s g a m) (all_zero s.quaternion)
zero_after s (update_external_heading g a h) =
    accepted (refusal_of (external_checks s g a h)) (overflows s g a (magnetometer_of s.quaternion h)) (all_zero s.quaternion)
zero_after s (update_no_magnetometer g a) = accepted (refusal_of (unaided_checks s g a)) (overflows s g a zero_vector) (all_zero s.quaternion)
zero_after s restart = accepted (refusal_of (state_checks s)) false (all_zero s.quaternion)
zero_after s (set_quaternion q) = accepted (refusal_of (quaternion_checks s q)) false (all_zero s.quaternion)
zero_after s skip_startup = all_zero s.quaternion
zero_after s (set_settings t) = all_zero s.quaternion
zero_after s (set_sample_period p) = all_zero s.quaternion
zero_after s (set_heading h) = all_zero s.quaternion

-- every number of it is one of f32, as every number of a call is; `Float` has others
abbrev pub Single : Quaternion → Type 0
Single q = T (fits binary32 q.w) × T (fits binary32 q.x) × T (fits binary32 q.y) × T (fits binary32 q.z)

-- so it is of a start, and of every call on any state
pub record ZeroExactly : Type 0 where
  pub fresh : (t : Settings) → all_zero (fresh_of t (derived_of t)).quaternion ≡ false
  pub step : (s : Ahrs) → Single s.quaternion → (c : Call) → all_zero (step_of outline_of s c).state.quaternion ≡ zero_after s c

-- whether a call is an update that is accepted and overflows
abbrev pub overflowing : Ahrs → Call → Bool
overflowing s (update g a m) = accepted (refusal_of (update_checks s g a m)) (overflows s g a m) false
overflowing s (update_external_heading g a h) = accepted (refusal_of (external_checks s g a h)) (overflows s g a (magnetometer_of s.quaternion h)) false
overflowing s (update_no_magnetometer g a) = accepted (refusal_of (unaided_checks s g a)) (overflows s g a zero_vector) false
overflowing s restart = false
overflowing s skip_startup = false
overflowing s (set_settings t) = false
overflowing s (set_sample_period p) = false
overflowing s (set_quaternion q) = false
overflowing s (set_heading h) = false

-- the numbers of a quaternion that is set are of f32
abbrev pub Given : Call → Type 0
Given (set_quaternion q) = Single q
Given (update g a m) = Unit {0}
Given restart = Unit {0}
Given skip_startup = Unit {0}
Given (set_settings t) = Unit {0}
Given (set_sample_period p) = Unit {0}
Given (set_heading h) = Unit {0}
Given (update_external_heading g a h) = Unit {0}
Given (update_no_magnetometer g a) = Unit {0}

-- none of the run is
abbrev pub Calm : Ahrs → List Call → Type 0
Calm s [] = Unit {0}
Calm s (c ∷ cs) = (overflowing s c ≡ false) × Given c × Calm (step_of outline_of s c).state cs

-- and then no state of it has an orientation of zero
abbrev pub NeverZero : Type 0
NeverZero =
    (t : Settings) (cs : List Call) → Calm (fresh_of t (derived_of t)) cs
    → Throughout (λ (s : Ahrs). all_zero s.quaternion ≡ false) (run_of outline_of (fresh_of t (derived_of t)) cs)

-- ---- where it is not zero, it may be set again

-- whether a call sets a heading, in startup an update without magnetometer too: it turns the orientation and does not normalize it, as an update does
abbrev pub heads : Ahrs → Call → Bool
heads s (set_heading h) = accepted (refusal_of (set_checks s h)) true false
heads s (update_no_magnetometer g a) = accepted (refusal_of (unaided_checks s g a)) (unaided_of s g a).startup false
heads s (update g a m) = false
heads s (update_external_heading g a h) = false
heads s restart = false
heads s skip_startup = false
heads s (set_settings t) = false
heads s (set_sample_period p) = false
heads s (set_quaternion q) = false

-- none of the run does
abbrev pub Unheaded : Ahrs → List Call → Type 0
Unheaded s [] = Unit {0}
Unheaded s (c ∷ cs) = (heads s c ≡ false) × Unheaded (step_of outline_of s c).state cs

abbrev pub ZeroOrSettable : Ahrs → Type 0
ZeroOrSettable s = (all_zero s.quaternion || settable s.quaternion) ≡ true

pub record SetAgain : Type 0 where
  -- so it is of every state of a run that sets no heading
  pub reached
      : (t : Settings) (cs : List Call) → Unheaded (fresh_of t (derived_of t)) cs
      → ZeroOrSettable (fresh_of t (derived_of t)) × Throughout ZeroOrSettable (run_of outline_of (fresh_of t (derived_of t)) cs)
  -- and after any run of what an accepted update leaves that sets none
  pub updated
      : (s : Ahrs) (c : Call) (r : Readings) → readings_of s c ≡ some r → refusal_of (checks_of s c) ≡ 0 → heads s c ≡ false
      → ZeroOrSettable (step_of outline_of s c).state
  -- its own orientation is accepted, and changes nothing
  pub itself
      : (s : Ahrs) → Sound s → ZeroOrSettable s → all_zero s.quaternion ≡ false
      → step_of outline_of s (set_quaternion s.quaternion) ≡ record { state = s; told = number 0 }

-- ---- from zero

-- every update is refused: with 5 where something given is not finite, with 6 where a heading is out of its range, and otherwise with 7
pub record Stuck : Type 0 where
  pub by_update
      : (s : Ahrs) → Sound s → all_zero s.quaternion ≡ true → (g a m : Vector)
      → refusal_of (update_checks s g a m) ≡ cond (finite_vector g && finite_vector a && finite_vector m) 7 5
  pub by_heading
      : (s : Ahrs) → Sound s → all_zero s.quaternion ≡ true → (g a : Vector) (h : Float)
      → refusal_of (external_checks s g a h) ≡ cond (finite_vector g && finite_vector a && finite h) (cond (in_turn h) 7 6) 5
  pub by_none
      : (s : Ahrs) → Sound s → all_zero s.quaternion ≡ true → (g a : Vector)
      → refusal_of (unaided_checks s g a) ≡ cond (finite_vector g && finite_vector a) 7 5

-- a restart is accepted, and a quaternion that may be set
pub record WayOut : Type 0 where
  pub by_restart : (s : Ahrs) → Sound s → step_of outline_of s restart ≡ record { state = restarted_of s; told = number 0 }
  pub by_quaternion
      : (s : Ahrs) → Sound s → (q : Quaternion) → finite_quaternion q ≡ true → settable q ≡ true
      → step_of outline_of s (set_quaternion q) ≡ record { state = with_quaternion s q; told = number 0 }
