-- Wrong answers that the promises refuse, two at least for each method, each by evaluation. Assumes nothing.
use Prim.Native.Nat.{ℕ}
use mathlib.Core.Path.{◌≡◌, refl}
use mathlib.Core.Bool.{true, false, true≢false, false≢true}
use mathlib.Core.List.{List, [], ◌∷◌}
use lib.Count.{count_leading_zeros}
use lib.IntN.{pos, negsuc}
use lib.ListN.{get_or}
use lib.Ieee.{Float, nan, inf, fin, of_bits, to_bits, eq, add, sub, mul, div, neg, sum, round, units, odd}
use Rattle.number.proofs.Apart.{apart, bits, nought, minus_nought, one, two, half}
use Rattle.root.specs.Root.{floor_root, nearest_root_of, significand_of, exponent_of, squared_of, root_bits_of, sqrt_of}
use Rattle.vector.specs.declared.Vector.{Vector}
use Rattle.vector.specs.Vectors.{vector}
use Rattle.math.specs.declared.matrix.Matrix.{Matrix}
use Rattle.math.specs.declared.quaternion.Quaternion.{Quaternion}
use Rattle.math.specs.Matrices as matrices
use Rattle.math.specs.Matrices.{identity_matrix, at, from_rows_of, to_rows_of, transpose_of, mul_vector_of}
use Rattle.math.specs.Quaternions as quaternions
use Rattle.math.specs.Quaternions.{quaternion, finite_quaternion, sum_of, hadamard_of, vector_product_of, conjugate_of, norm_squared_of, norm_of, normalize_of}
use Rattle.math.specs.Quaternions.{to_matrix_of, rotate_of, add_of, product_of, from_array_of, to_array_of}

abbrev four : Float
four = fin false 1 (pos 2)

abbrev eight : Float
eight = fin false 1 (pos 3)

-- ---- matrices

abbrev row : Float → Float → Float → List Float
row x y z = x ∷ y ∷ z ∷ []

-- by its last float
abbrev rows_to : Float → List (List Float)
rows_to zz = row one two half ∷ row nought one two ∷ row two nought zz ∷ []

abbrev to : Float → Matrix
to zz = from_rows_of (rows_to zz)

-- the code of an element
abbrev in_xx : Matrix → ℕ
in_xx m = bits m.xx

abbrev in_xy : Matrix → ℕ
in_xy m = bits m.xy

abbrev in_zz : Matrix → ℕ
in_zz m = bits m.zz

-- zeros; ones
pub of_identity_matrix
    : (from_rows_of (row nought nought nought ∷ row nought nought nought ∷ row nought nought nought ∷ []) ≡ identity_matrix → ⊥)
    × (from_rows_of (row one one one ∷ row one one one ∷ row one one one ∷ []) ≡ identity_matrix → ⊥)
unfolding of_bits to_bits
of_identity_matrix = (λ h. apart in_xx h refl, λ h. apart in_xy h refl)

-- a NaN equal to itself; the zeros told apart; the last element not looked at
pub of_matrix_eq
    : (true ≡ matrices.eq_of (to nan) (to nan) → ⊥) × (false ≡ matrices.eq_of (to nought) (to minus_nought) → ⊥) × (true ≡ matrices.eq_of (to one) (to two) → ⊥)
unfolding eq
of_matrix_eq = (true≢false, false≢true, true≢false)

-- columns for rows; the last element left out
pub of_from_rows : (transpose_of (to one) ≡ from_rows_of (rows_to one) → ⊥) × (to nought ≡ from_rows_of (rows_to one) → ⊥)
unfolding to_bits
of_from_rows = (λ h. apart in_xy h refl, λ h. apart in_zz h refl)

abbrev in_rows : ℕ → ℕ → List (List Float) → ℕ
in_rows i j rows = bits (at rows i j)

-- columns for rows; the last element left out
pub of_to_rows : (to_rows_of (transpose_of (to one)) ≡ to_rows_of (to one) → ⊥) × (rows_to nought ≡ to_rows_of (to one) → ⊥)
unfolding to_bits
of_to_rows = (λ h. apart (in_rows 0 1) h refl, λ h. apart (in_rows 2 2) h refl)

-- the matrix itself; the corners alone swapped
pub of_transpose
    : (to one ≡ transpose_of (to one) → ⊥)
    × (from_rows_of (row one two two ∷ row nought one two ∷ row half nought one ∷ []) ≡ transpose_of (to one) → ⊥)
unfolding to_bits
of_transpose = (λ h. apart in_xy h refl, λ h. apart in_xy h refl)

-- the diagonal alone times two; the last element left out
pub of_matrix_mul
    : (from_rows_of (row two two half ∷ row nought two two ∷ row two nought two ∷ []) ≡ matrices.mul_of (to one) two → ⊥)
    × (from_rows_of (row two four one ∷ row nought two four ∷ row four nought one ∷ []) ≡ matrices.mul_of (to one) two → ⊥)
unfolding mul round units odd to_bits
of_matrix_mul = (λ h. apart in_xy h refl, λ h. apart in_zz h refl)

-- the code of a component
abbrev in_x : Vector → ℕ
in_x v = bits v.x

abbrev in_y : Vector → ℕ
in_y v = bits v.y

-- the columns for the rows; 2^24, 1 and 1 summed from the right
pub of_mul_vector
    : (mul_vector_of (transpose_of (to one)) (vector one one one) ≡ mul_vector_of (to one) (vector one one one) → ⊥)
    × (vector (fin false 8388609 (pos 1)) (fin false 3 (pos 0)) (fin false 3 (pos 0))
    ≡ mul_vector_of (from_rows_of (row (fin false 1 (pos 24)) one one ∷ row one one one ∷ row one one one ∷ [])) (vector one one one) → ⊥)
unfolding add mul sum round units odd to_bits
of_mul_vector = (λ h. apart in_x h refl, λ h. apart in_x h refl)

-- ---- quaternions

abbrev p : Quaternion
p = quaternion one two half nought

abbrev q : Quaternion
q = quaternion two nought one half

-- the code of a component
abbrev in_qw : Quaternion → ℕ
in_qw r = bits r.w

abbrev in_qx : Quaternion → ℕ
in_qx r = bits r.x

abbrev in_qz : Quaternion → ℕ
in_qz r = bits r.z

-- w and x swapped, as where the scalar part stands last; z left out
pub of_quaternion_new
    : (quaternion two one half one ≡ quaternion one two half one → ⊥) × (quaternion one two half nought ≡ quaternion one two half one → ⊥)
unfolding to_bits
of_quaternion_new = (λ h. apart in_qw h refl, λ h. apart in_qz h refl)

-- w not looked at; an infinity taken; a finite quaternion refused
pub of_quaternion_is_finite
    : (true ≡ finite_quaternion (quaternion nan one one one) → ⊥)
    × (true ≡ finite_quaternion (quaternion one one one (inf true)) → ⊥)
    × (false ≡ finite_quaternion p → ⊥)
unfolding finite_quaternion
of_quaternion_is_finite = (true≢false, true≢false, false≢true)

-- a NaN equal to itself; the zeros told apart; w not looked at
pub of_quaternion_eq
    : (true ≡ quaternions.eq_of (quaternion one one one nan) (quaternion one one one nan) → ⊥)
    × (false ≡ quaternions.eq_of (quaternion one one one nought) (quaternion one one one minus_nought) → ⊥)
    × (true ≡ quaternions.eq_of (quaternion one one one one) (quaternion two one one one) → ⊥)
unfolding eq
of_quaternion_eq = (true≢false, false≢true, true≢false)

-- 1, 1, 1 and 2^24 summed from the right: 2^24; w left out
pub of_quaternion_sum
    : (fin false 1 (pos 24) ≡ sum_of (quaternion one one one (fin false 1 (pos 24))) → ⊥) × (fin false 5 (negsuc 0) ≡ sum_of p → ⊥)
unfolding add sum round units odd to_bits
of_quaternion_sum = (λ h. apart bits h refl, λ h. apart bits h refl)

-- Hamilton's product; the squares of the left
pub of_quaternion_hadamard : (product_of p q ≡ hadamard_of p q → ⊥) × (hadamard_of p p ≡ hadamard_of p q → ⊥)
unfolding add sub neg mul sum round units odd to_bits
of_quaternion_hadamard = (λ h. apart in_qw h refl, λ h. apart in_qw h refl)

-- the vector on the left; the sign of the scalar part turned
pub of_vector_product
    : (product_of (quaternion nought one two half) q ≡ vector_product_of q (vector one two half) → ⊥)
    × (quaternion (fin false 9 (negsuc 1)) (fin false 3 (negsuc 0)) (fin false 9 (negsuc 0)) nought ≡ vector_product_of q (vector one two half) → ⊥)
unfolding add sub neg mul sum round units odd to_bits
of_vector_product = (λ h. apart in_qx h refl, λ h. apart in_qw h refl)

-- the quaternion itself; the scalar part turned as well
pub of_conjugate
    : (q ≡ conjugate_of q → ⊥) × (quaternion (fin true 1 (pos 1)) minus_nought (fin true 1 (pos 0)) (fin true 1 (negsuc 0)) ≡ conjugate_of q → ⊥)
unfolding neg to_bits
of_conjugate = (λ h. apart in_qz h refl, λ h. apart in_qw h refl)

-- of (4096, 1, 1, 0) summed from the right; of (2, 0, 0, 0) the norm
pub of_quaternion_norm_squared
    : (fin false 8388609 (pos 1) ≡ norm_squared_of (quaternion (fin false 1 (pos 12)) one one nought) → ⊥)
    × (two ≡ norm_squared_of (quaternion two nought nought nought) → ⊥)
unfolding norm_squared_of add mul sum round units odd to_bits
of_quaternion_norm_squared = (λ h. apart bits h refl, λ h. apart bits h refl)

-- of four ones the square; of (2, 0, 0, 0) the norm without w
pub of_quaternion_norm : (four ≡ norm_of (quaternion one one one one) → ⊥) × (nought ≡ norm_of (quaternion two nought nought nought) → ⊥)
unfolding norm_of norm_squared_of sqrt_of root_bits_of squared_of exponent_of significand_of nearest_root_of floor_root count_leading_zeros
    add mul sum round units odd of_bits to_bits
of_quaternion_norm = (λ h. apart bits h refl, λ h. apart bits h refl)

-- (41, 0, 0, 0) divided by its norm, which gives 1 and not the f32 below it; of zero, zero, as a vector has it
pub of_quaternion_normalize
    : (quaternion one nought nought nought ≡ normalize_of (quaternion (fin false 41 (pos 0)) nought nought nought) → ⊥)
    × (quaternion nought nought nought nought ≡ normalize_of (quaternion nought nought nought nought) → ⊥)
unfolding normalize_of norm_of norm_squared_of sqrt_of root_bits_of squared_of exponent_of significand_of nearest_root_of floor_root count_leading_zeros
    add mul div sum round units odd of_bits to_bits
of_quaternion_normalize = (λ h. apart in_qw h refl, λ h. apart in_qw h refl)

-- the matrix of the turn back; the diagonal without its -1
pub of_to_matrix
    : (transpose_of (to_matrix_of q) ≡ to_matrix_of q → ⊥)
    × (from_rows_of (row eight (fin true 1 (pos 1)) four ∷ row two (fin false 5 (pos 1)) one ∷ row (fin true 1 (pos 2)) one (fin false 17 (negsuc 0)) ∷ [])
    ≡ to_matrix_of q → ⊥)
unfolding add sub neg mul sum round units odd of_bits to_bits
of_to_matrix = (λ h. apart in_xy h refl, λ h. apart in_xx h refl)

-- 1 + k, and a vector along x
abbrev round_z : Quaternion
round_z = quaternion one nought nought one

-- turned back; the vector itself
pub of_rotate
    : (rotate_of (conjugate_of round_z) (vector one nought nought) ≡ rotate_of round_z (vector one nought nought) → ⊥)
    × (vector one nought nought ≡ rotate_of round_z (vector one nought nought) → ⊥)
unfolding rotate_of add sub neg mul sum round units odd of_bits to_bits
of_rotate = (λ h. apart in_y h refl, λ h. apart in_y h refl)

-- w left as it was; the products
pub of_quaternion_add
    : (quaternion one two (fin false 3 (negsuc 0)) half ≡ add_of p q → ⊥) × (hadamard_of p q ≡ add_of p q → ⊥)
unfolding add mul sum round units odd to_bits
of_quaternion_add = (λ h. apart in_qw h refl, λ h. apart in_qw h refl)

-- the scalar part alone times two; two added to it
pub of_quaternion_mul
    : (quaternion two two half nought ≡ quaternions.mul_of p two → ⊥) × (quaternion (fin false 3 (pos 0)) two half nought ≡ quaternions.mul_of p two → ⊥)
unfolding mul round units odd to_bits
of_quaternion_mul = (λ h. apart in_qx h refl, λ h. apart in_qw h refl)

-- the operands swapped; the left conjugated
pub of_product : (product_of q p ≡ product_of p q → ⊥) × (product_of (conjugate_of p) q ≡ product_of p q → ⊥)
unfolding add sub neg mul sum round units odd to_bits
of_product = (λ h. apart in_qz h refl, λ h. apart in_qw h refl)

-- the scalar part last; one place on
pub of_quaternion_from_array
    : (quaternion nought one two half ≡ from_array_of (one ∷ two ∷ half ∷ nought ∷ []) → ⊥)
    × (quaternion two half nought nan ≡ from_array_of (one ∷ two ∷ half ∷ nought ∷ []) → ⊥)
unfolding to_bits
of_quaternion_from_array = (λ h. apart in_qw h refl, λ h. apart in_qx h refl)

abbrev in_place : ℕ → List Float → ℕ
in_place i l = bits (get_or l i nan)

-- the scalar part last; w again for z
pub of_quaternion_to_array
    : (two ∷ half ∷ nought ∷ one ∷ [] ≡ to_array_of p → ⊥) × (one ∷ two ∷ half ∷ one ∷ [] ≡ to_array_of p → ⊥)
unfolding to_bits
of_quaternion_to_array = (λ h. apart (in_place 0) h refl, λ h. apart (in_place 3) h refl)
