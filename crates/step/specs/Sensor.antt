-- 01, "Filter": one sensor's rejection. Its counts are those of the crate `rejection`.
use Rattle.std.specs.Prelude.{◌≡◌, Bool, true, false, not, cond, ◌||◌, ℕ, zero, suc, ◌+◌, ltb, ℤ, pos, negsuc, Float}
use Rattle.std.specs.Float.{binary32}
use Rattle.std.specs.Float.Ieee.{le, lt, of_int}
use Rattle.std.specs.Float.Ieee.Scale.{finite}
use Rattle.number.specs.Float32 as float
use Rattle.number.specs.Float32.{◌⊘◌}
use Rattle.vector.specs.declared.Vector.{Vector}
use Rattle.vector.specs.Vectors.{zero_vector, finite_vector, is_zero_of, norm_squared_of, dot_of, cross_of, normalize_of}
use Rattle.rejection.specs.declared.Counts.{Counts}
use Rattle.rejection.specs.declared.Updated.{Updated}
use Rattle.rejection.specs.Counts.{updated_of}
use Rattle.step.specs.declared.Rejection.{Rejection}
use Rattle.settings.specs.declared.config.Config.{Config}
use Rattle.step.specs.declared.sensor.Feedback.{Feedback}

abbrev pub counts_of : Rejection → Counts
counts_of r = record { trigger = r.recovery_trigger; threshold = r.recovery_threshold }

-- the cross product where the dot is above 0, otherwise the normalized cross
unfoldable pub residual_of : Vector → Vector → Vector
residual_of sensor reference =
    cond (lt float.zero (dot_of sensor reference)) (cross_of sensor reference) (normalize_of (cross_of sensor reference))

unfoldable pub reset_of : ℤ → Rejection
reset_of timeout =
    record {
      half_residual = zero_vector;
      recovery_trigger = pos 0;
      recovery_threshold = timeout;
      ignored = false;
      ignored_count = 0;
    }

-- 02 P5: updates in a row in which the sensor was ignored, and one more; the largest u32 stays
abbrev pub largest_count : ℕ
largest_count = 4294967295

unfoldable pub longer_of : ℕ → ℕ
longer_of n = cond (ltb n largest_count) (n + 1) n

-- an all-zero sensor is marked ignored, and counted so; its trigger, threshold and residual stay
unfoldable pub skipped_of : Rejection → Feedback
skipped_of r =
    record {
      rejection =
          record {
            half_residual = r.half_residual;
            recovery_trigger = r.recovery_trigger;
            recovery_threshold = r.recovery_threshold;
            ignored = true;
            ignored_count = longer_of r.ignored_count;
          };
      half_feedback = zero_vector;
    }

-- the counts are kept, and the residual is used or ignored as it says; one that is ignored gives zero
abbrev pub kept_of : ℕ → Vector → Updated → Feedback
kept_of count residual s =
    record {
      rejection =
          record {
            half_residual = residual;
            recovery_trigger = s.counts.trigger;
            recovery_threshold = s.counts.threshold;
            ignored = not s.used;
            ignored_count = cond s.used 0 (longer_of count);
          };
      half_feedback = cond s.used residual zero_vector;
    }

-- a reading is good in startup, or where its squared residual is at most the limit
unfoldable pub rejected_of : Rejection → Vector → Bool → Float → ℤ → Feedback
rejected_of r residual startup limit timeout =
    kept_of r.ignored_count residual (updated_of timeout (counts_of r) (not (startup || le (norm_squared_of residual) limit)))

-- the accelerometer against gravity
unfoldable pub half_inclination_feedback_of : Rejection → Vector → Vector → Bool → Config → Feedback
half_inclination_feedback_of r gravity accelerometer startup c =
    cond (is_zero_of accelerometer) (skipped_of r)
    (rejected_of r (residual_of (normalize_of accelerometer) gravity) startup c.acceleration_rejection c.rejection_timeout)

-- the cross product of gravity and the magnetometer against west
unfoldable pub half_heading_feedback_of : Rejection → Vector → Vector → Vector → Bool → Config → Feedback
half_heading_feedback_of r gravity west magnetometer startup c =
    cond (is_zero_of magnetometer) (skipped_of r)
    (rejected_of r (residual_of (normalize_of (cross_of gravity magnetometer)) west) startup c.magnetic_rejection c.rejection_timeout)

abbrev pub is_nought : ℤ → Bool
is_nought (pos zero) = true
is_nought (pos (suc n)) = false
is_nought (negsuc n) = false

-- the trigger ratio is 0.0 for T = 0, else both counts converted by round to nearest, ties to even, and divided
unfoldable pub ratio_of : ℤ → ℤ → Float
ratio_of trigger timeout = cond (is_nought timeout) float.zero (of_int binary32 trigger ⊘ of_int binary32 timeout)

-- and it is finite, whatever i32 the trigger and T are
pub record Ratio (r : Rejection) (timeout : ℤ) (x : Float) : Type 0 where
  pub exact : x ≡ ratio_of r.recovery_trigger timeout
  pub is_finite : finite x ≡ true

unfoldable pub finite_rejection : Rejection → Bool
finite_rejection r = finite_vector r.half_residual
