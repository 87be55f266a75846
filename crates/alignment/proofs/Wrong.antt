-- Wrong answers that the promises refuse, and wrong statements of the matrices, each by evaluation. Assumes nothing.
use Prim.Native.Nat.{ℕ, ◌+◌}
use mathlib.Core.Path.{◌≡◌, refl}
use mathlib.Core.List.{[], ◌∷◌}
use lib.IntN.{ℤ, pos, negsuc}
use lib.Ieee.{nan, neg, add, mul, sum, round, units, odd, of_int, to_bits}
use Rattle.number.proofs.Apart.{apart, bits, nought, minus_nought, one, two, half}
use Rattle.answer.specs.declared.Answer.{Answer}
use Rattle.answer.specs.declared.Answer.TheVariants as answer
use Rattle.answer.specs.Refusals.{refusal_of}
use Rattle.answer.specs.Promises.{Answers}
use Rattle.vector.specs.declared.Vector.{Vector}
use Rattle.vector.specs.Vectors.{vector, finite_vector}
use Rattle.vector.specs.Mounting.{mounting_of, turn_of}
use Rattle.vector.specs.Turned.{turn_checks, turned_answer}
use Rattle.remap.specs.First.{first}
use Rattle.remap.specs.Names.{name_of, same}
use Rattle.remap.specs.Composition.{compose_of, inverse_of}
use Rattle.math.specs.declared.matrix.Matrix.{Matrix}
use Rattle.math.specs.Matrices.{from_rows_of, mul_vector_of, transpose_of}
use Rattle.std.specs.declared.result.Result.{Result}
use Rattle.std.specs.declared.result.Result.TheVariants.{Ok, Err}
use Rattle.answer.specs.Rows.{row_of}
use Rattle.answer.specs.declared.refusal.Refusal.{Refusal}
use Rattle.answer.specs.declared.refusal.Refusal.TheVariants.{Unknown, NotFinite, Overflow}
use Rattle.alignment.specs.Whole.{Rows, rows, row, times, whole_matrix}
use Rattle.alignment.specs.Matrix.{floats_of, to_matrix_of, rotate_of, matrix_checks, Gives}

-- ---- matrices

-- an answer's code by a code of the matrix; a refusal's is beyond every pattern
abbrev read_by : (Matrix → ℕ) → Result Matrix Refusal → ℕ
read_by code (Ok m) = code m
read_by code (Err e) = 0x1_0000_0000 + row_of e

abbrev in_xy : Matrix → ℕ
in_xy m = bits m.xy

abbrev in_yz : Matrix → ℕ
in_yz m = bits m.yz

-- the rows of 11, +Y+Z+X, with those of y and z swapped
abbrev swapped : Rows
swapped = let m = whole_matrix 11 in rows m.x m.z m.y

-- of 1, +X-Z+Y, with the sign dropped
abbrev unsigned : Rows
unsigned = rows (row (pos 1) (pos 0) (pos 0)) (row (pos 0) (pos 0) (pos 1)) (row (pos 0) (pos 1) (pos 0))

-- of 0, +X+Y+Z, with a minus zero
abbrev with_minus_zero : Matrix
with_minus_zero = from_rows_of ((one ∷ minus_nought ∷ nought ∷ []) ∷ (nought ∷ one ∷ nought ∷ []) ∷ (nought ∷ nought ∷ one ∷ []) ∷ [])

abbrev Says : ℕ → Result Matrix Refusal → Type 0
Says n r = Gives (matrix_checks n) (to_matrix_of n) r

-- the transpose; a row swapped; a sign; a minus zero; a refusal of the last mounting; and 24 taken
pub of_to_matrix
    : (Says 11 (Ok (transpose_of (to_matrix_of 11))) → ⊥)
    × (Says 11 (Ok (floats_of swapped)) → ⊥)
    × (Says 1 (Ok (floats_of unsigned)) → ⊥)
    × (Says 0 (Ok with_minus_zero) → ⊥)
    × (Says 23 (Err Unknown) → ⊥)
    × (Says 24 (Ok (to_matrix_of 0)) → ⊥)
unfolding refusal_of mounting_of to_matrix_of of_int round units odd to_bits
of_to_matrix = (
  λ h. apart (read_by in_xy) h.exact refl,
  λ h. apart (read_by in_yz) h.exact refl,
  λ h. apart (read_by in_yz) h.exact refl,
  λ h. apart (read_by in_xy) h.exact refl,
  λ h. apart (read_by in_xy) h.exact refl,
  λ h. apart (read_by in_xy) h.exact refl,
)

-- ---- turns

abbrev one_two_half : Vector
one_two_half = vector one two half

abbrev Turns : Vector → ℕ → Answer → Type 0
Turns v n r = Answers (turn_checks v n) (turned_answer (rotate_of n v)) r

-- the code of what an answer has for y
abbrev in_y : Answer → ℕ
in_y (answer.Rates x y z) = bits y
in_y (answer.Turned x y z) = bits y
in_y (answer.Oriented w x y z) = bits y
in_y (answer.Refused e) = 0x1_0000_0000 + row_of e

-- by the transposed matrix; the vector itself; refused with 7; 24 turned, and refused with 5; the minus zero that `remap` gives where the product
-- has 0·1 + 1·-0 + 0·0
pub of_rotate
    : (Turns one_two_half 11 (turned_answer (mul_vector_of (transpose_of (to_matrix_of 11)) one_two_half)) → ⊥)
    × (Turns one_two_half 11 (turned_answer one_two_half) → ⊥)
    × (Turns one_two_half 11 (answer.Refused Overflow) → ⊥)
    × (Turns one_two_half 24 (turned_answer one_two_half) → ⊥)
    × (Turns (vector nan two half) 24 (answer.Refused NotFinite) → ⊥)
    × (Turns (vector one minus_nought nought) 0 (turned_answer (turn_of 0 (vector one minus_nought nought))) → ⊥)
unfolding refusal_of mounting_of finite_vector rotate_of to_matrix_of neg add mul sum of_int round units odd to_bits
of_rotate = (
  λ h. apart in_y h.exact refl,
  λ h. apart in_y h.exact refl,
  λ h. apart in_y h.exact refl,
  λ h. apart in_y h.exact refl,
  λ h. apart in_y h.exact refl,
  λ h. apart in_y h.exact refl,
)

-- ---- statements

abbrev above : ℤ → ℕ
above (pos n) = n
above (negsuc n) = 0

abbrev at_xy : Rows → ℕ
at_xy m = above m.x.y

-- of "1 then 11", A's matrix with B's; 11 undone by its own matrix
pub of_matrices
    : (whole_matrix (compose_of 1 11) ≡ times (whole_matrix 1) (whole_matrix 11) → ⊥)
    × (whole_matrix (inverse_of 11) ≡ whole_matrix 11 → ⊥)
unfolding compose_of inverse_of first same name_of mounting_of
of_matrices = (λ h. apart at_xy h refl, λ h. apart at_xy h refl)
