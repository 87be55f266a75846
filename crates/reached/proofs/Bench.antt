-- By evaluation: the smallest rate about one axis whose turn overflows, at 100 Hz from a start, 2.113841e23 degrees a second; and how long a sensor has been
-- ignored, of rows of effects and of a run. Assumes nothing.
use Prim.Native.Nat.{ℕ}
use mathlib.Core.Path.{◌≡◌, refl}
use mathlib.Core.Bool.{true, false}
use mathlib.Core.List.{List, [], ◌∷◌}
use lib.Count.{count_leading_zeros}
use lib.Ieee.{binary32, of_bits, to_bits, eq, ne, lt, add, sub, mul, div, neg, sum, round, units, odd}
use Rattle.number.proofs.Apart.{nought, half, one}
use Rattle.root.specs.Root.{floor_root, nearest_root_of, significand_of, exponent_of, squared_of, root_bits_of, sqrt_of}
use Rattle.answer.specs.Refusals.{refusal_of}
use Rattle.vector.specs.declared.Vector.{Vector}
use Rattle.vector.specs.Vectors.{vector, finite_vector}
use Rattle.math.specs.Quaternions.{finite_quaternion, norm_squared_of, norm_of, normalize_of}
use Rattle.settings.specs.declared.Settings.{Settings}
use Rattle.settings.specs.declared.limit.Limit.TheVariants.{Squared}
use Rattle.settings.specs.Config.{finite_settings, finite_config, limit_of, derived_of}
use Rattle.settings.specs.Axes.{over_of}
use Rattle.step.specs.Sensor.{reset_of, longer_of, skipped_of, half_inclination_feedback_of, half_heading_feedback_of, finite_rejection}
use Rattle.step.specs.Direction.{half_gravity_of, half_west_of}
use Rattle.step.specs.Rate.{startup_gain_of, rate_of, integrated_of}
use Rattle.ahrs.specs.declared.Ahrs.{Ahrs}
use Rattle.ahrs.specs.Filter.{finite_state, fresh_of, skipped_startup, overrange_of, half_feedback_of, updated_of}
use Rattle.reached.specs.Runs.{Call, update, restart, skip_startup}
use Rattle.reached.specs.Deaf.{magnetometer, clears, updates, leaves, since_of, in_aRow, reached_count, reached_since}
use Rattle.reached.specs.Orientation.{turned_of, overflows}

abbrev settings : Settings
settings =
    record {
      sample_rate = of_bits binary32 0x42c8_0000;
      convention = 0;
      gain = half;
      gyroscope_range = nought;
      acceleration_rejection = Squared one;
      magnetic_rejection = Squared one;
      rejection_timeout = one;
    }

abbrev fresh : Ahrs
fresh = fresh_of settings (derived_of settings)

abbrev about_x : ℕ → Vector
about_x bits = vector (of_bits binary32 bits) nought nought

abbrev still : Vector
still = vector nought nought nought

pub least : (overflows fresh (about_x 0x6633_0ca0) still still ≡ true) × (overflows fresh (about_x 0x6633_0c9f) still still ≡ false)
unfolding turned_of fresh_of derived_of limit_of reset_of overrange_of over_of startup_gain_of half_feedback_of half_gravity_of half_west_of
    half_inclination_feedback_of half_heading_feedback_of skipped_of rate_of norm_squared_of eq ne lt add sub mul div neg sum round units odd of_bits
least = (refl, refl)

-- ---- 02 P5

-- the latest first: ignored twice, with another call between, and used before that; over range and ignored, whatever came before; used; cleared
pub rows
    : (in_aRow (since_of (updates false true ∷ leaves ∷ updates false true ∷ updates false false ∷ updates false true ∷ [])) ≡ 2)
    × (in_aRow (since_of (updates true true ∷ updates false true ∷ [])) ≡ 1)
    × (in_aRow (since_of (updates false false ∷ updates false true ∷ [])) ≡ 0)
    × (in_aRow (since_of (leaves ∷ clears ∷ updates false true ∷ [])) ≡ 0)
rows = (refl, refl, refl, refl)

-- a run with readings of zeros
abbrev skipped : List Call
skipped = update still still still ∷ restart ∷ update still still still ∷ skip_startup ∷ update still still still ∷ []

pub deaf : (reached_since magnetometer settings skipped ≡ true ∷ true ∷ []) × (reached_count magnetometer settings skipped ≡ 2)
unfolding refusal_of finite_state finite_settings finite_config finite_quaternion finite_vector finite_rejection fresh_of derived_of limit_of reset_of
    skipped_startup updated_of overrange_of over_of startup_gain_of half_feedback_of half_gravity_of half_west_of half_inclination_feedback_of
    half_heading_feedback_of skipped_of longer_of rate_of integrated_of normalize_of norm_of norm_squared_of sqrt_of root_bits_of squared_of exponent_of
    significand_of nearest_root_of floor_root count_leading_zeros eq ne lt add sub mul div neg sum round units odd of_bits to_bits
deaf = (refl, refl)
