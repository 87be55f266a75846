-- 02, P9: each mounting's 3 by 3 matrix of 0, 1 and -1, and a plain turn by the ported matrix product.
use Rattle.answer.specs.Said.{alone}
use Rattle.std.specs.Prelude.{ℕ, List, [], ◌∷◌, ltb, ℤ, Float}
use Rattle.std.specs.Float.{binary32}
use Rattle.std.specs.Float.Ieee.{of_int}
use Rattle.answer.specs.Refusals.{Check, check}
use Rattle.answer.specs.Promises.{Results}
use Rattle.vector.specs.declared.Vector.{Vector}
use Rattle.math.specs.declared.matrix.Matrix.{Matrix}
use Rattle.math.specs.Matrices.{mul_vector_of}
use Rattle.std.specs.declared.result.Result.{Result}
use Rattle.answer.specs.declared.refusal.Refusal.{Refusal}
use Rattle.alignment.specs.Whole.{Rows, whole_matrix}

abbrev pub float_of : ℤ → Float
float_of z = of_int binary32 z

-- entry by entry
abbrev pub floats_of : Rows → Matrix
floats_of m =
    record {
      xx = float_of m.x.x;
      xy = float_of m.x.y;
      xz = float_of m.x.z;
      yx = float_of m.y.x;
      yy = float_of m.y.y;
      yz = float_of m.y.z;
      zx = float_of m.z.x;
      zy = float_of m.z.y;
      zz = float_of m.z.z;
    }

unfoldable pub to_matrix_of : ℕ → Matrix
to_matrix_of n = floats_of (whole_matrix n)

-- the turn by the matrix
unfoldable pub rotate_of : ℕ → Vector → Vector
rotate_of n v = mul_vector_of (to_matrix_of n) v

-- ---- the answer with a matrix; a turn has the checks of `remap`

abbrev pub matrix_checks : ℕ → List Check
matrix_checks n = check 4 (ltb 23 n) ∷ []

-- r answers the matrix m by these checks
abbrev pub Gives : List Check → Matrix → Result Matrix Refusal → Type 0
Gives cs m r = Results alone cs m r
