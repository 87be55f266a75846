-- Wrong values that the promises refuse, two at least for each function, each by evaluation. Assumes nothing.
use Prim.Native.Nat.{ℕ}
use mathlib.Core.Path.{◌≡◌, refl, ap}
use mathlib.Core.Bool.{Bool, true, false, cond, true≢false, false≢true}
use lib.IntN.{pos}
use lib.Signed.{mag}
use lib.Ieee.{Float, nan, inf, fin, of_bits, to_bits, eq, le, lt, add, sub, mul, neg, sum, round, units, odd}
use Rattle.number.specs.Whole.{saturated_of, clamp_of}
use Rattle.number.proofs.Apart.{apart, bits, nought, minus_nought, one, minus_one, two, half}
use Rattle.vector.specs.declared.Vector.{Vector}
use Rattle.vector.specs.Vectors.{vector, finite_vector, dot_of, norm_squared_of}
use Rattle.math.specs.declared.quaternion.Quaternion.{Quaternion}
use Rattle.math.specs.Quaternions.{quaternion, normalize_of}
use Rattle.rejection.specs.declared.Counts.{Counts}
use Rattle.rejection.specs.Counts.{counted, moved_of, updated_of}
use Rattle.step.specs.declared.Rejection.{Rejection}
use Rattle.settings.specs.declared.config.Config.{Config}
use Rattle.settings.specs.declared.axes.Axes.{Axes}
use Rattle.settings.specs.Axes.{axes, none}
use Rattle.step.specs.declared.rate.Startup.{Startup}
use Rattle.step.specs.declared.sensor.Feedback.{Feedback}
use Rattle.step.specs.Sensor.{counts_of, residual_of, reset_of, longer_of, skipped_of, rejected_of, half_inclination_feedback_of, half_heading_feedback_of}
use Rattle.step.specs.Sensor.{ratio_of, finite_rejection}
use Rattle.step.specs.Direction.{half_gravity_of, half_west_of}
use Rattle.step.specs.Rate.{startup, startup_gain_of, rate_of, integrated_of}

-- a fall of one, overrange above one, T = 3 and the rest ones
abbrev ready : Config
ready =
    record {
      sample_period = one;
      gain = one;
      startup_gain_rate = one;
      overrange_enabled = true;
      overrange_threshold = one;
      acceleration_rejection = one;
      magnetic_rejection = one;
      rejection_timeout = pos 3;
    }

-- ---- direction

-- the code of a component
abbrev in_x : Vector → ℕ
in_x v = bits v.x

abbrev in_y : Vector → ℕ
in_y v = bits v.y

abbrev in_z : Vector → ℕ
in_z v = bits v.z

abbrev level : Quaternion
level = quaternion one nought nought nought

-- NWU's sign in NED; leant, x turned the other way
pub of_calculate_half_gravity
    : (vector nought nought half ≡ half_gravity_of 2 level → ⊥) × (vector one nought half ≡ half_gravity_of 0 (quaternion one nought one nought) → ⊥)
unfolding half_gravity_of add sub mul neg sum round units odd of_bits to_bits
of_calculate_half_gravity = (λ h. apart in_z h refl, λ h. apart in_x h refl)

-- ENU's west in NWU; NWU's in NED
pub of_calculate_half_west : (half_west_of 1 level ≡ half_west_of 0 level → ⊥) × (half_west_of 0 level ≡ half_west_of 2 level → ⊥)
unfolding half_west_of add sub mul neg sum round units odd of_bits to_bits
of_calculate_half_west = (λ h. apart in_y h refl, λ h. apart in_y h refl)

-- ---- rate

abbrev goes_on : Startup → ℕ
goes_on r = cond r.startup 1 0

abbrev three : Float
three = fin false 3 (pos 0)

abbrev four : Float
four = fin false 1 (pos 2)

-- startup that goes on where the gain has fallen to the settings' own; the gain used before it falls
pub of_startup_gain
    : (startup true one none one ≡ startup_gain_of ready true two none → ⊥) × (startup true three none four ≡ startup_gain_of ready true four none → ⊥)
unfolding startup_gain_of lt sub add sum round units odd neg to_bits
of_startup_gain = (λ h. apart goes_on h refl, λ h. apart (λ (r : Startup). bits r.gain) h refl)

-- y went over, and nothing else
abbrev about_y : Axes
about_y = axes false true false

abbrev has_y : Startup → ℕ
has_y r = cond r.overrange_recovery.y 1 0

-- the axes kept past startup's end; forgotten before it
pub of_axes
    : (startup false one about_y one ≡ startup_gain_of ready true two about_y → ⊥)
    × (startup true three none three ≡ startup_gain_of ready true four about_y → ⊥)
unfolding startup_gain_of lt sub add sum round units odd neg to_bits
of_axes = (λ h. apart has_y h refl, λ h. apart has_y h refl)

abbrev still : Vector
still = vector nought nought nought

-- the feedback without the gain; the gyroscope's half in degrees
pub of_half_angular_rate
    : (vector one nought nought ≡ rate_of still (vector one nought nought) two → ⊥)
    × (vector half nought nought ≡ rate_of (vector one nought nought) still two → ⊥)
unfolding rate_of add mul sum round units odd of_bits to_bits
of_half_angular_rate = (λ h. apart in_x h refl, λ h. apart in_x h refl)

abbrev in_qw : Quaternion → ℕ
in_qw q = bits q.w

-- a displacement that is no number left out; an orientation that is none begun anew
pub of_integrate_quaternion
    : (level ≡ integrated_of level (vector nan nought nought) → ⊥) × (level ≡ integrated_of (quaternion nan nought nought nought) still → ⊥)
unfolding integrated_of normalize_of add sub mul neg sum round units odd to_bits
of_integrate_quaternion = (λ h. apart in_qw h refl, λ h. apart in_qw h refl)

-- ---- sensor

-- at a dot above 0: the cross normalized; the operands swapped
pub of_residual
    : (vector nought minus_one nought ≡ residual_of (vector one nought nought) (vector half nought half) → ⊥)
    × (vector nought half nought ≡ residual_of (vector one nought nought) (vector half nought half) → ⊥)
unfolding residual_of dot_of lt add sub mul neg sum round units odd of_bits to_bits
of_residual = (λ h. apart in_y h refl, λ h. apart in_y h refl)

abbrev counting : Vector → ℕ → ℕ → Bool → ℕ → Rejection
counting v trigger threshold ignored count =
    record {
      half_residual = v;
      recovery_trigger = pos trigger;
      recovery_threshold = pos threshold;
      ignored = ignored;
      ignored_count = count;
    }

-- used, or ignored once
abbrev rejection : Vector → ℕ → ℕ → Bool → Rejection
rejection v trigger threshold ignored = counting v trigger threshold ignored (cond ignored 1 0)

-- the codes of what it has
abbrev trigger : Rejection → ℕ
trigger r = mag r.recovery_trigger

abbrev threshold : Rejection → ℕ
threshold r = mag r.recovery_threshold

abbrev ignored : Rejection → ℕ
ignored r = cond r.ignored 1 0

abbrev count : Rejection → ℕ
count r = r.ignored_count

-- the largest u32 wrapped; the one below it taken for the largest
pub of_longer : (0 ≡ longer_of 4294967295 → ⊥) × (4294967294 ≡ longer_of 4294967294 → ⊥)
unfolding longer_of
of_longer = (λ h. apart (λ (n : ℕ). n) h refl, λ h. apart (λ (n : ℕ). n) h refl)

-- a threshold of 0; ignored from the start; or counted so
pub of_reset
    : (rejection still 0 0 false ≡ reset_of (pos 3) → ⊥)
    × (rejection still 0 3 true ≡ reset_of (pos 3) → ⊥)
    × (counting still 0 3 false 1 ≡ reset_of (pos 3) → ⊥)
unfolding reset_of
of_reset = (λ h. apart threshold h refl, λ h. apart ignored h refl, λ h. apart count h refl)

-- 2 of 3 readings over the limit
abbrev waiting : Rejection
waiting = rejection still 2 3 false

abbrev gives : Rejection → Vector → Feedback
gives r v = record { rejection = r; half_feedback = v }

abbrev then : Feedback → Rejection
then f = f.rejection

abbrev fed_x : Feedback → ℕ
fed_x f = bits f.half_feedback.x

-- not marked; the trigger cleared
pub of_skip : (gives waiting still ≡ skipped_of waiting → ⊥) × (gives (rejection still 0 3 true) still ≡ skipped_of waiting → ⊥)
unfolding skipped_of
of_skip = (λ h. apart ignored (ap then h) refl, λ h. apart trigger (ap then h) refl)

-- ignored five times in a row
abbrev deaf : Rejection
deaf = counting still 2 3 true 5

-- a sensor that was skipped not counted; begun anew
pub of_skipped_count : (gives deaf still ≡ skipped_of deaf → ⊥) × (gives (counting still 2 3 true 1) still ≡ skipped_of deaf → ⊥)
unfolding skipped_of longer_of
of_skipped_count = (λ h. apart count (ap then h) refl, λ h. apart count (ap then h) refl)

-- the two swapped; the trigger for both
pub of_counts : (counted (pos 3) (pos 2) ≡ counts_of waiting → ⊥) × (counted (pos 2) (pos 2) ≡ counts_of waiting → ⊥)
of_counts = (λ h. apart (λ (c : Counts). mag c.trigger) h refl, λ h. apart (λ (c : Counts). mag c.threshold) h refl)

abbrev along_x : Vector
along_x = vector one nought nought

-- a squared residual equal to the limit ignored; one over it ignored, and yet fed back
pub of_update
    : (gives (rejection along_x 3 3 true) still ≡ rejected_of waiting along_x false one (pos 3) → ⊥)
    × (gives (rejection along_x 3 3 true) along_x ≡ rejected_of waiting along_x false half (pos 3) → ⊥)
unfolding rejected_of norm_squared_of updated_of moved_of saturated_of clamp_of le lt eq add mul sum round units odd of_bits to_bits
of_update = (λ h. apart ignored (ap then h) refl, λ h. apart fed_x h refl)

-- a reading that is ignored not counted; one that is used counted, or only not cleared
pub of_updated_count
    : (gives (counting along_x 3 3 true 5) still ≡ rejected_of deaf along_x false half (pos 3) → ⊥)
    × (gives (counting along_x 0 3 false 6) along_x ≡ rejected_of deaf along_x false one (pos 3) → ⊥)
    × (gives (counting along_x 0 3 false 5) along_x ≡ rejected_of deaf along_x false one (pos 3) → ⊥)
unfolding rejected_of longer_of norm_squared_of updated_of moved_of saturated_of clamp_of le lt eq add mul sum round units odd of_bits to_bits
of_updated_count = (λ h. apart count (ap then h) refl, λ h. apart count (ap then h) refl, λ h. apart count (ap then h) refl)

-- what a good reading leaves of `waiting`
abbrev good : Vector → Feedback
good v = gives (rejection v 0 3 false) v

abbrev inclination : Vector → Feedback
inclination accelerometer = half_inclination_feedback_of waiting (vector nought nought half) accelerometer true ready

-- an accelerometer of zeros judged; not marked; in startup, one that reads passed over
pub of_half_inclination_feedback
    : (good still ≡ inclination (vector nought minus_nought nought) → ⊥)
    × (gives waiting still ≡ inclination still → ⊥)
    × (skipped_of waiting ≡ inclination along_x → ⊥)
unfolding half_inclination_feedback_of skipped_of rejected_of updated_of moved_of saturated_of clamp_of eq of_bits
of_half_inclination_feedback = (λ h. apart trigger (ap then h) refl, λ h. apart ignored (ap then h) refl, λ h. apart trigger (ap then h) refl)

abbrev heading : Vector → Feedback
heading magnetometer = half_heading_feedback_of waiting (vector nought nought half) (vector nought half nought) magnetometer true ready

-- the same of a magnetometer
pub of_half_heading_feedback
    : (good still ≡ heading (vector nought minus_nought nought) → ⊥)
    × (gives waiting still ≡ heading still → ⊥)
    × (skipped_of waiting ≡ heading along_x → ⊥)
unfolding half_heading_feedback_of skipped_of rejected_of updated_of moved_of saturated_of clamp_of eq of_bits
of_half_heading_feedback = (λ h. apart trigger (ap then h) refl, λ h. apart ignored (ap then h) refl, λ h. apart trigger (ap then h) refl)

-- over a T of 0: NaN for none, infinity for two
pub of_recovery_trigger : (nan ≡ ratio_of (pos 0) (pos 0) → ⊥) × (inf false ≡ ratio_of (pos 2) (pos 0) → ⊥)
unfolding ratio_of of_bits to_bits
of_recovery_trigger = (λ h. apart bits h refl, λ h. apart bits h refl)

-- a NaN taken; a finite one refused
pub of_rejection_is_finite
    : (true ≡ finite_rejection (rejection (vector nought nan nought) 2 3 false) → ⊥) × (false ≡ finite_rejection waiting → ⊥)
unfolding finite_rejection finite_vector
of_rejection_is_finite = (true≢false, false≢true)
