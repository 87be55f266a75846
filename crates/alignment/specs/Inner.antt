-- A matrix by the places of what a mounting reads, of which only the inner functions speak.
use Rattle.std.specs.Prelude.{ℕ, ◌/◌, ◌%◌, ◌<◌, List, [], ◌∷◌, map, Float, get_or}
use Rattle.vector.specs.Axes.{signed_axes}
use Rattle.vector.specs.Mounting.{Signed}
use Rattle.vector.specs.Determinant.{row_of}
use Rattle.math.specs.declared.matrix.Matrix.{Matrix}
use Rattle.math.specs.Matrices.{from_rows_of}
use Rattle.alignment.specs.Matrix.{float_of}

abbrev pub float_row : Signed → List Float
float_row s = float_of (row_of s).x ∷ float_of (row_of s).y ∷ float_of (row_of s).z ∷ []

-- the row of the signed axis at a place
abbrev pub row_at : ℕ → List Float
row_at place = get_or (map float_row signed_axes) place []

abbrev pub matrix_by : ℕ → Matrix
matrix_by axes = from_rows_of (row_at (axes / 1024) ∷ row_at (axes / 32 % 32) ∷ row_at (axes % 32) ∷ [])

-- each digit is a signed axis's place
abbrev pub Placed : ℕ → Type 0
Placed axes = (axes / 1024 < 6) × (axes / 32 % 32 < 6) × (axes % 32 < 6)
