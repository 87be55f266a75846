-- By evaluation: whole runs at 100 Hz in which a compass is locked out and comes back, T = 0, 1, 9 and 10; and the T of 5 seconds, and of longer than any.
-- Assumes nothing.
use Prim.Native.Nat.{ℕ, ◌+◌}
use mathlib.Core.Path.{◌≡◌, refl}
use mathlib.Core.Bool.{false}
use mathlib.Core.List.{List, ◌++◌}
use mathlib.Core.Option.{some}
use lib.Count.{count_leading_zeros}
use lib.Dec.{ltb}
use lib.ListN.{replicate}
use lib.IntN.{pos}
use lib.Ieee.{binary32, of_bits, to_bits, to_signed, eq, ne, lt, le, add, sub, mul, div, neg, sum, round, units, odd}
use Rattle.number.specs.Whole.{saturated_of, clamp_of}
use Rattle.number.proofs.Apart.{nought, half, one}
use Rattle.root.specs.Root.{floor_root, nearest_root_of, significand_of, exponent_of, squared_of, root_bits_of, sqrt_of}
use Rattle.answer.specs.Refusals.{refusal_of}
use Rattle.vector.specs.declared.Vector.{Vector}
use Rattle.vector.specs.Vectors as vectors
use Rattle.vector.specs.Vectors.{vector, finite_vector, dot_of}
use Rattle.math.specs.Quaternions.{finite_quaternion, norm_squared_of, norm_of, normalize_of}
use Rattle.rejection.specs.Counts as counts
use Rattle.rejection.specs.Readings.{good, over}
use Rattle.rejection.specs.Recovery.{ninth, largest}
use Rattle.settings.specs.declared.Settings.{Settings}
use Rattle.settings.specs.declared.limit.Limit.TheVariants.{Squared}
use Rattle.settings.specs.Config.{finite_settings, finite_config, limit_of, derived_of}
use Rattle.settings.specs.Axes.{over_of}
use Rattle.step.specs.Sensor.{residual_of, reset_of, longer_of, skipped_of, rejected_of, half_inclination_feedback_of, half_heading_feedback_of}
use Rattle.step.specs.Sensor.{finite_rejection}
use Rattle.step.specs.Direction.{half_gravity_of, half_west_of}
use Rattle.step.specs.Rate.{startup_gain_of, rate_of, integrated_of}
use Rattle.ahrs.specs.declared.Ahrs.{Ahrs}
use Rattle.ahrs.specs.Filter.{finite_state, fresh_of, skipped_startup, overrange_of, half_feedback_of, updated_of}
use Rattle.ahrs.specs.Read.{flags_of}
use Rattle.reached.specs.Runs.{Call, update}
use Rattle.reached.specs.Deaf.{magnetometer, reached_of}
use Rattle.reached.specs.Hearing.{heard_of}
use Rattle.reached.specs.Recovery.{flag_of}

-- limits of 10 degrees, and a timeout with these bits
abbrev settings : ℕ → Settings
settings timeout =
    record {
      sample_rate = of_bits binary32 0x42c8_0000;
      convention = 0;
      gain = half;
      gyroscope_range = nought;
      acceleration_rejection = Squared (of_bits binary32 0x3bf7_04df);
      magnetic_rejection = Squared (of_bits binary32 0x3bf7_04df);
      rejection_timeout = of_bits binary32 timeout;
    }

-- 5 seconds; 1e30 seconds
pub timeouts
    : ((derived_of (settings 0x40a0_0000)).rejection_timeout ≡ pos 500) × ((derived_of (settings 0x7149_f2ca)).rejection_timeout ≡ largest)
unfolding derived_of to_signed sub mul div neg sum round units odd of_bits
timeouts = (refl, refl)

abbrev started : ℕ → Ahrs
started timeout = skipped_startup (fresh_of (settings timeout) (derived_of (settings timeout)))

abbrev still : Vector
still = vector nought nought nought

-- the compass reads west for north, and then north
abbrev aside : ℕ → List Call
aside n = replicate n (update still still (vector nought one nought))

abbrev north : ℕ → List Call
north n = replicate n (update still still (vector one nought nought))

-- T + 2 readings over the limit, and then as many good ones as end the recovery
pub record Row (T timeout : ℕ) : Type 0 where
  pub counted : (derived_of (settings timeout)).rejection_timeout ≡ pos T
  pub heard : heard_of magnetometer (started timeout) (aside (T + 2) ++ north (ninth T)) ≡ some (replicate (T + 2) over ++ replicate (ninth T) good)
  pub up : flag_of magnetometer (reached_of (started timeout) (aside (T + 2))) ≡ ltb 0 T
  pub down : flag_of magnetometer (reached_of (started timeout) (aside (T + 2) ++ north (ninth T))) ≡ false

-- 5, 10, 90 and 100 milliseconds
pub rows : Row 0 0x3ba3_d70a × Row 1 0x3c23_d70a × Row 9 0x3db8_51ec × Row 10 0x3dcc_cccd
unfolding refusal_of finite_state finite_settings finite_config finite_quaternion finite_vector finite_rejection fresh_of derived_of limit_of reset_of
    skipped_startup updated_of overrange_of over_of startup_gain_of half_feedback_of half_gravity_of half_west_of half_inclination_feedback_of
    half_heading_feedback_of skipped_of longer_of rejected_of residual_of counts.updated_of counts.moved_of saturated_of clamp_of flags_of dot_of
    vectors.norm_squared_of vectors.norm_of vectors.normalize_of rate_of integrated_of normalize_of norm_of norm_squared_of sqrt_of root_bits_of squared_of
    exponent_of significand_of nearest_root_of floor_root count_leading_zeros eq ne lt le add sub mul div neg sum round units odd of_bits to_bits to_signed
rows = (
  record { counted = refl; heard = refl; up = refl; down = refl },
  record { counted = refl; heard = refl; up = refl; down = refl },
  record { counted = refl; heard = refl; up = refl; down = refl },
  record { counted = refl; heard = refl; up = refl; down = refl },
)
