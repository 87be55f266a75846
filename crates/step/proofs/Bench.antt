-- The starred rows of the rejection hold: each side is computed. Assumes nothing.
use mathlib.Core.Path.{◌≡◌}
use mathlib.Core.Bool.{true, false}
use lib.Ieee.{Float, le}
use Rattle.vector.specs.declared.Vector.{Vector}
use Rattle.vector.specs.Vectors.{norm_squared_of}
use Rattle.number.specs.Whole.{saturated_of, clamp_of}
use Rattle.rejection.specs.Counts.{moved_of, updated_of}
use Rattle.step.specs.Sensor.{reset_of, rejected_of}
use Rattle.step.specs.Bench.{FourOver, ThreeGood, StarredRows}

four_over : (v : Vector) (limit : Float) → le (norm_squared_of v) limit ≡ false → FourOver v limit
unfolding reset_of rejected_of updated_of moved_of saturated_of clamp_of
four_over v limit bad =
    record {
      one = record { feedback = simp bad; counted = simp bad };
      two = record { feedback = simp bad; counted = simp bad };
      three = record { feedback = simp bad; counted = simp bad };
      four = record { feedback = simp bad; counted = simp bad };
    }

three_good : (v : Vector) (limit : Float) → le (norm_squared_of v) limit ≡ true → ThreeGood v limit
unfolding rejected_of updated_of moved_of saturated_of clamp_of
three_good v limit good =
    record {
      one = record { counted = simp good; compared = simp good };
      two = record { counted = simp good; compared = simp good };
      three = record { counted = simp good; compared = simp good };
    }

pub starred_rows : StarredRows
starred_rows = record { four_over = four_over; three_good = three_good }
