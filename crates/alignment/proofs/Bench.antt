-- Examples by evaluation: the matrix of 11, +Y+Z+X, and of 14, -Y-X-Z; vectors turned by them; and the signs of zeros. Assumes nothing.
use mathlib.Core.Path.{◌≡◌, refl}
use mathlib.Core.List.{List, [], ◌∷◌}
use lib.IntN.{pos}
use lib.Ieee.{Float, neg, add, mul, sum, round, units, odd, of_int}
use Rattle.number.proofs.Apart.{nought, minus_nought, one, minus_one, two, half}
use Rattle.vector.specs.Vectors.{vector}
use Rattle.vector.specs.Mounting.{mounting_of, turn_of}
use Rattle.math.specs.Matrices.{to_rows_of}
use Rattle.alignment.specs.Whole.{row, rows, whole_matrix}
use Rattle.alignment.specs.Matrix.{to_matrix_of, rotate_of}

whole : whole_matrix 11 ≡ rows (row (pos 0) (pos 1) (pos 0)) (row (pos 0) (pos 0) (pos 1)) (row (pos 1) (pos 0) (pos 0))
unfolding mounting_of
whole = refl

abbrev three : Float → Float → Float → List Float
three a b c = a ∷ b ∷ c ∷ []

floats : to_rows_of (to_matrix_of 14) ≡ three nought minus_one nought ∷ three minus_one nought nought ∷ three nought nought minus_one ∷ []
unfolding mounting_of to_matrix_of of_int round units odd
floats = refl

turned : rotate_of 11 (vector one two half) ≡ vector two half one
unfolding mounting_of rotate_of to_matrix_of neg add mul sum of_int round units odd
turned = refl

-- 0·1 + 1·-0 + 0·1 is a plus zero, where `remap` has the minus zero that it read
plus_zero : (rotate_of 0 (vector one minus_nought one) ≡ vector one nought one) × (turn_of 0 (vector one minus_nought one) ≡ vector one minus_nought one)
unfolding mounting_of rotate_of to_matrix_of neg add mul sum of_int round units odd
plus_zero = (refl, refl)

-- 0·-1 + 1·-0 + 0·-1 is a minus zero: all three are
minus_zero : rotate_of 0 (vector minus_one minus_nought minus_one) ≡ vector minus_one minus_nought minus_one
unfolding mounting_of rotate_of to_matrix_of neg add mul sum of_int round units odd
minus_zero = refl
