-- 01, "Bench table": the starred rows of the rejection, for any residual over the limit or under it.
use Rattle.std.specs.Prelude.{◌≡◌, true, false, ℤ, pos, Float}
use Rattle.std.specs.Float.Ieee.{le}
use Rattle.vector.specs.declared.Vector.{Vector}
use Rattle.vector.specs.Vectors.{zero_vector, norm_squared_of}
use Rattle.step.specs.declared.Rejection.{Rejection}
use Rattle.step.specs.declared.sensor.Feedback.{Feedback}
use Rattle.step.specs.Sensor.{reset_of, rejected_of}

-- one reading at T, with no startup
abbrev pub reading : ℤ → Vector → Float → Rejection → Feedback
reading timeout v limit r = rejected_of r v false limit timeout

-- T = 3, freshly reset
abbrev pub first : Vector → Float → Feedback
first v limit = reading (pos 3) v limit (reset_of (pos 3))

abbrev pub second : Vector → Float → Feedback
second v limit = reading (pos 3) v limit (first v limit).rejection

abbrev pub third : Vector → Float → Feedback
third v limit = reading (pos 3) v limit (second v limit).rejection

abbrev pub fourth : Vector → Float → Feedback
fourth v limit = reading (pos 3) v limit (third v limit).rejection

pub record Leaves (f : Feedback) (v : Vector) (trigger : ℤ) : Type 0 where
  pub feedback : f.half_feedback ≡ v
  pub counted : f.rejection.recovery_trigger ≡ trigger

-- four readings over the limit: zero, zero, zero, residual; triggers 1, 2, 3, 3
pub record FourOver (v : Vector) (limit : Float) : Type 0 where
  pub one : Leaves (first v limit) zero_vector (pos 1)
  pub two : Leaves (second v limit) zero_vector (pos 2)
  pub three : Leaves (third v limit) zero_vector (pos 3)
  pub four : Leaves (fourth v limit) v (pos 3)

-- T = 20, trigger 20 in recovery
abbrev pub good : Vector → Float → Rejection → Rejection
good v limit r = (reading (pos 20) v limit r).rejection

abbrev pub recovering : Vector → Rejection
recovering v =
    record {
      half_residual = v;
      recovery_trigger = pos 20;
      recovery_threshold = pos 0;
      ignored = false;
      ignored_count = 0;
    }

pub record Stands (r : Rejection) (trigger threshold : ℤ) : Type 0 where
  pub counted : r.recovery_trigger ≡ trigger
  pub compared : r.recovery_threshold ≡ threshold

-- good readings: 11, 2, 0; recovery ends at the third, where the threshold is T again
pub record ThreeGood (v : Vector) (limit : Float) : Type 0 where
  pub one : Stands (good v limit (recovering v)) (pos 11) (pos 0)
  pub two : Stands (good v limit (good v limit (recovering v))) (pos 2) (pos 0)
  pub three : Stands (good v limit (good v limit (good v limit (recovering v)))) (pos 0) (pos 20)

pub record StarredRows : Type 0 where
  pub four_over : (v : Vector) (limit : Float) → le (norm_squared_of v) limit ≡ false → FourOver v limit
  pub three_good : (v : Vector) (limit : Float) → le (norm_squared_of v) limit ≡ true → ThreeGood v limit
