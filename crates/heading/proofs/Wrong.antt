-- Wrong answers that the promises refuse, two at least for each public call, each by evaluation. Assumes nothing.
use Prim.Native.Nat.{ℕ}
use mathlib.Core.Path.{◌≡◌, ap, refl}
use mathlib.Core.List.{List, [], ◌∷◌}
use lib.Count.{count_leading_zeros}
use lib.Ieee.{Float, nan, binary32, of_bits, to_bits, eq, ne, lt, le, add, sub, mul, div, neg, sum, round, units, odd, of_int, to_signed}
use Rattle.number.specs.Same.{fabsf_of}
use Rattle.number.specs.Whole.{saturated_of}
use Rattle.number.proofs.Apart.{bits, half, nought, one, unlike}
use Rattle.root.specs.Root.{floor_root, nearest_root_of, significand_of, exponent_of, squared_of, root_bits_of, sqrt_of}
use Rattle.answer.specs.declared.Answer.{Answer}
use Rattle.answer.specs.declared.Answer.TheVariants.{Oriented, Refused}
use Rattle.std.specs.declared.result.Result.TheVariants.{Ok, Err}
use Rattle.answer.specs.declared.refusal.Refusal.TheVariants.{Unknown, NotFinite, OutOfRange, Overflow}
use Rattle.answer.specs.Refusals.{refusal_of}
use Rattle.trig.specs.Degrees.{turns, left, left_minus}
use Rattle.trig.specs.Fixed.{scaled_of, stage_of, sine_fixed_of, cosine_fixed_of, per_degree_of}
use Rattle.trig.specs.Wave.{steps_of, grid_of, radians_of, size_of, minus_of, float_of, slope_of, sin_of, cos_of}
use Rattle.trig.specs.Octant.{sine_step, cosine_step, guess_of, octant_of}
use Rattle.trig.specs.Angle.{ratio_of, degrees_of, bearing_of, angle_of}
use Rattle.vector.specs.declared.Vector.{Vector}
use Rattle.vector.specs.Vectors as vectors
use Rattle.vector.specs.Vectors.{vector, finite_vector, dot_of}
use Rattle.math.specs.declared.quaternion.Quaternion.{Quaternion}
use Rattle.math.specs.Quaternions as quaternions
use Rattle.math.specs.Quaternions.{quaternion, finite_quaternion}
use Rattle.rejection.specs.Counts as rejection
use Rattle.settings.specs.declared.Settings.{Settings}
use Rattle.settings.specs.declared.limit.Limit.TheVariants.{Squared}
use Rattle.settings.specs.Config.{finite_settings, finite_config, limit_of, derived_of}
use Rattle.settings.specs.Axes.{over_of}
use Rattle.step.specs.Sensor.{reset_of, longer_of, skipped_of, rejected_of}
use Rattle.step.specs.Sensor.{residual_of, half_inclination_feedback_of, half_heading_feedback_of, finite_rejection}
use Rattle.step.specs.Direction.{half_gravity_of, half_west_of}
use Rattle.step.specs.Rate.{startup_gain_of, rate_of, integrated_of}
use Rattle.ahrs.specs.declared.Ahrs.{Ahrs}
use Rattle.ahrs.specs.Filter.{finite_state, fresh_of, with_quaternion, overrange_of, half_feedback_of, updated_of}
use Rattle.heading.specs.Turn.{finite_point, yaw_of, roll_of, headed_of, magnetometer_of}
use Rattle.heading.specs.Calls.{headable, with_heading, SetsHeading, UpdatesHeading, UpdatesUnaided}

abbrev still : Vector
still = vector nought nought nought

abbrev settings : ℕ → Settings
settings convention =
    record {
      sample_rate = one;
      convention = convention;
      gain = half;
      gyroscope_range = nought;
      acceleration_rejection = Squared one;
      magnetic_rejection = Squared one;
      rejection_timeout = one;
    }

-- a start, and it turned
abbrev start : ℕ → Ahrs
start convention = fresh_of (settings convention) (derived_of (settings convention))

abbrev turned : Quaternion → Ahrs
turned q = with_quaternion (start 0) q

-- half a turn about x, which has no yaw and a roll of 180 degrees; half a turn about z, which is yaw
abbrev rolled : Ahrs
rolled = turned (quaternion nought one nought nought)

abbrev yawed : Ahrs
yawed = turned (quaternion nought nought nought one)

-- 180, and 360 and the next f32
abbrev south : Float
south = of_bits binary32 0x4334_0000

abbrev full : Float
full = of_bits binary32 0x43b4_0000

abbrev beyond : Float
beyond = of_bits binary32 0x43b4_0001

-- w and y as bits
abbrev parts : Ahrs → List ℕ
parts s = bits s.quaternion.w ∷ bits s.quaternion.y ∷ []

-- 6 left out, above and below; a heading of 360 refused; 5 for a convention of 3
pub of_range
    : (SetsHeading (start 0) beyond (record { state = start 0; result = Ok tt }) → ⊥)
    × (SetsHeading (start 0) (neg beyond) (record { state = start 0; result = Ok tt }) → ⊥)
    × (SetsHeading (start 0) full (record { state = start 0; result = Err OutOfRange }) → ⊥)
    × (SetsHeading (start 3) nan (record { state = start 3; result = Err NotFinite }) → ⊥)
unfolding refusal_of finite_state finite_settings finite_config finite_quaternion finite_vector finite_rejection fresh_of derived_of limit_of reset_of
    headable finite_point yaw_of headed_of angle_of bearing_of ratio_of steps_of degrees_of octant_of guess_of sine_step cosine_step
    radians_of sin_of cos_of grid_of
    size_of minus_of turns left left_minus slope_of float_of sine_fixed_of cosine_fixed_of per_degree_of scaled_of stage_of
    fabsf_of eq ne lt le add sub mul div neg sum round units odd of_bits to_bits of_int
of_range = (
  λ h. unlike 0 6 refl h.number,
  λ h. unlike 0 6 refl h.number,
  λ h. unlike 6 0 refl h.number,
  λ h. unlike 5 4 refl h.number,
)

-- any other w and y but a heading of 0 on what has none, be they those that roll's point gives; any but half a turn of a start to the south, be it the state
-- untouched or the heading halved twice
pub of_set_heading
    : ((n : Ahrs) → (parts n ≡ 0 ∷ 0 ∷ [] → ⊥) → SetsHeading rolled nought (record { state = n; result = Ok tt }) → ⊥)
    × ((n : Ahrs) → (bits n.quaternion.z ≡ 0x3f80_0000 → ⊥) → SetsHeading (start 0) south (record { state = n; result = Ok tt }) → ⊥)
unfolding with_quaternion refusal_of finite_state finite_settings finite_config finite_quaternion finite_vector finite_rejection fresh_of
    derived_of limit_of reset_of
    headable finite_point yaw_of headed_of angle_of bearing_of ratio_of steps_of degrees_of octant_of guess_of sine_step cosine_step
    radians_of sin_of cos_of grid_of
    size_of minus_of turns left left_minus slope_of float_of sine_fixed_of cosine_fixed_of per_degree_of scaled_of stage_of
    fabsf_of eq ne lt le add sub mul div neg sum round units odd of_bits to_bits of_int
of_set_heading = (λ n other h. other (ap parts h.holds), λ n other h. other (ap (λ (s : Ahrs). bits s.quaternion.z) h.holds))

-- ---- updates

-- 6 left out; refused, and the state turned
pub of_refused_external
    : (UpdatesHeading (start 0) still still beyond (record { state = start 0; answer = Oriented one nought nought nought }) → ⊥)
    × (UpdatesHeading (start 3) still still nought (record { state = yawed; answer = Refused Unknown }) → ⊥)
unfolding with_quaternion refusal_of finite_state finite_settings finite_config finite_quaternion finite_vector finite_rejection fresh_of
    derived_of limit_of reset_of
    fabsf_of eq ne lt le add sub mul div neg sum round units odd of_bits to_bits of_int
of_refused_external = (λ h. unlike 0 6 refl h.answer.number, λ h. unlike 0x3f80_0000 0 refl (ap (λ (s : Ahrs). bits s.quaternion.z) h.state))

-- up, as the accelerometer reads it
abbrev up : Vector
up = vector nought nought one

-- accepted: any other reading kept but the one given, be it the state untouched; a refusal
pub of_external
    : ((n : Ahrs) (r : Answer) → (bits n.accelerometer.z ≡ 0x3f80_0000 → ⊥)
    → UpdatesHeading (start 0) still up south (record { state = n; answer = r }) → ⊥)
    × ((n : Ahrs) → UpdatesHeading (start 0) still up south (record { state = n; answer = Refused Overflow }) → ⊥)
unfolding with_quaternion refusal_of finite_state finite_settings finite_config finite_quaternion finite_vector finite_rejection fresh_of
    derived_of limit_of reset_of
    roll_of magnetometer_of updated_of overrange_of over_of startup_gain_of half_feedback_of half_gravity_of half_west_of
    half_inclination_feedback_of half_heading_feedback_of
    skipped_of longer_of rejected_of residual_of rate_of integrated_of saturated_of rejection.moved_of rejection.updated_of quaternions.normalize_of
    vectors.normalize_of quaternions.norm_of vectors.norm_of quaternions.norm_squared_of vectors.norm_squared_of dot_of sqrt_of root_bits_of squared_of
    exponent_of significand_of nearest_root_of floor_root count_leading_zeros
    headable finite_point yaw_of headed_of angle_of bearing_of ratio_of steps_of degrees_of octant_of guess_of sine_step cosine_step
    radians_of sin_of cos_of grid_of
    size_of minus_of turns left left_minus slope_of float_of sine_fixed_of cosine_fixed_of per_degree_of scaled_of stage_of
    fabsf_of eq ne lt le add sub mul div neg sum round units odd of_bits to_bits to_signed of_int
of_external = (λ n r other h. other (ap (λ (s : Ahrs). bits s.accelerometer.z) h.state), λ n h. unlike 7 0 refl h.answer.number)

-- the first half refused and the second kept; in startup any other w but that of a heading of 0, be it the state untouched or only the first half kept
pub of_unaided
    : (UpdatesUnaided yawed (vector nan nought nought) still (record { state = with_heading yawed nought; answer = Refused NotFinite }) → ⊥)
    × ((n : Ahrs) (r : Answer) → (bits n.quaternion.w ≡ 0x3f80_0000 → ⊥) → UpdatesUnaided yawed still still (record { state = n; answer = r }) → ⊥)
unfolding with_quaternion refusal_of finite_state finite_settings finite_config finite_quaternion finite_vector finite_rejection fresh_of
    derived_of limit_of reset_of
    roll_of magnetometer_of updated_of overrange_of over_of startup_gain_of half_feedback_of half_gravity_of half_west_of
    half_inclination_feedback_of half_heading_feedback_of
    skipped_of longer_of rejected_of residual_of rate_of integrated_of saturated_of rejection.moved_of rejection.updated_of quaternions.normalize_of
    vectors.normalize_of quaternions.norm_of vectors.norm_of quaternions.norm_squared_of vectors.norm_squared_of dot_of sqrt_of root_bits_of squared_of
    exponent_of significand_of nearest_root_of floor_root count_leading_zeros
    headable finite_point yaw_of headed_of angle_of bearing_of ratio_of steps_of degrees_of octant_of guess_of sine_step cosine_step
    radians_of sin_of cos_of grid_of
    size_of minus_of turns left left_minus slope_of float_of sine_fixed_of cosine_fixed_of per_degree_of scaled_of stage_of
    fabsf_of eq ne lt le add sub mul div neg sum round units odd of_bits to_bits to_signed of_int
of_unaided = (
  λ h. unlike 0 0x3f80_0000 refl (ap (λ (s : Ahrs). bits s.quaternion.z) h.state),
  λ n r other h. other (ap (λ (s : Ahrs). bits s.quaternion.w) h.state),
)
