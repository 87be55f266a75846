-- 02, P9, the statements: the turn by the matrix is the turn, "A then B" is the product of B's matrix with A's, undoing is the transpose.
use Rattle.std.specs.Prelude.{ℕ, ◌<◌, ◌≡◌, true, not, [], ◌∷◌, ◌++◌, ◌⊎◌, ℤ, pos, negsuc}
use Rattle.std.specs.Float.Ieee.{neg}
use Rattle.number.specs.Float32.{zero, one}
use Rattle.answer.specs.Refusals.{check, refusal_of}
use Rattle.vector.specs.declared.Vector.{Vector}
use Rattle.vector.specs.Vectors.{Singles, finite_vector}
use Rattle.vector.specs.Mounting.{Signed, mounting_of}
use Rattle.vector.specs.Determinant.{row_of, determinant}
use Rattle.vector.specs.Turned.{turn_checks, TurnedBy}
use Rattle.remap.specs.Composition.{compose_of, inverse_of}
use Rattle.math.specs.Matrices.{transpose_of}
use Rattle.alignment.specs.Whole.{Rows, transposed, times, whole_matrix}
use Rattle.alignment.specs.Matrix.{float_of, to_matrix_of, rotate_of}

-- ---- the entries

abbrev pub OneOfThree : ℤ → Type 0
OneOfThree z = (z ≡ pos 0) ⊎ ((z ≡ pos 1) ⊎ (z ≡ negsuc 0))

-- each entry of a row is 0, 1 or -1, and their floats are plus zero, one and minus one
pub record Entries : Type 0 where
  pub x : (s : Signed) → OneOfThree (row_of s).x
  pub y : (s : Signed) → OneOfThree (row_of s).y
  pub z : (s : Signed) → OneOfThree (row_of s).z
  pub nought : float_of (pos 0) ≡ zero
  pub unit : float_of (pos 1) ≡ one
  pub minus_unit : float_of (negsuc 0) ≡ neg one

-- ---- the turn

-- of a finite vector the turn by the matrix is the turn, as numbers: zero's sign is ignored
abbrev pub TurnsAlike : Type 0
TurnsAlike = (n : ℕ) (v : Vector) → Singles v → finite_vector v ≡ true → TurnedBy (mounting_of n) v (rotate_of n v)

-- 7 is no check: behind the two of a turn it would refuse nothing more
abbrev pub NoSeven : Type 0
NoSeven =
    (n : ℕ) (v : Vector) → Singles v
    → refusal_of (turn_checks v n ++ (check 7 (not (finite_vector (rotate_of n v))) ∷ [])) ≡ refusal_of (turn_checks v n)

-- ---- one mounting after another, and undone

-- all 576
abbrev pub Products : Type 0
Products = (a b : ℕ) → a < 24 → b < 24 → whole_matrix (compose_of a b) ≡ times (whole_matrix b) (whole_matrix a)

-- in whole numbers, and in the floats of `to_matrix`
pub record Transposes : Type 0 where
  pub whole : (n : ℕ) → n < 24 → whole_matrix (inverse_of n) ≡ transposed (whole_matrix n)
  pub floats : (n : ℕ) → n < 24 → to_matrix_of (inverse_of n) ≡ transpose_of (to_matrix_of n)

abbrev pub determinant_of : Rows → ℤ
determinant_of m = determinant m.x m.y m.z

abbrev pub DeterminantOne : Type 0
DeterminantOne = (n : ℕ) → n < 24 → determinant_of (whole_matrix n) ≡ pos 1
