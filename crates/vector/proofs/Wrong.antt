-- Wrong answers that the promises refuse, two at least for each method, each by evaluation. Assumes nothing.
use Prim.Native.Nat.{ℕ}
use native.Mathlib.Omega.{arith}
use mathlib.Core.Path.{◌≡◌, refl}
use mathlib.Core.Bool.{true, false, true≢false, false≢true}
use mathlib.Core.List.{List, [], ◌∷◌}
use lib.Count.{count_leading_zeros}
use lib.IntN.{ℤ, pos, negsuc}
use lib.ListN.{get_or}
use lib.Ieee.{Float, nan, inf, fin, of_bits, to_bits, eq, lt, add, sub, mul, div, neg, sum, round, units, odd}
use Rattle.std.specs.Prelude.{Option, Some, None}
use Rattle.answer.specs.declared.Answer.TheVariants.{Refused}
use Rattle.answer.specs.declared.refusal.Refusal.TheVariants.{NotFinite}
use Rattle.answer.specs.Refusals.{refusal_of}
use Rattle.answer.specs.Promises.{Answers}
use Rattle.number.specs.Same.{fabsf_of}
use Rattle.number.proofs.Apart.{apart, bits, nought, minus_nought, one, two, half}
use Rattle.root.specs.Root.{floor_root, nearest_root_of, significand_of, exponent_of, squared_of, root_bits_of, sqrt_of}
use Rattle.vector.specs.declared.Vector.{Vector}
use Rattle.vector.specs.Vectors.{vector, zero_vector, ones_vector, finite_vector, eq_of, is_zero_of, exceeds_of, sum_of, hadamard_of, dot_of, cross_of}
use Rattle.vector.specs.Vectors.{norm_squared_of, norm_of, normalize_of, add_of, sub_of, neg_of, mul_of, from_array_of, to_array_of}
use Rattle.vector.specs.Axes.{axes_of}
use Rattle.vector.specs.Mounting.{Px, Py, Pz, Nx, Ny, mounting, mounting_of, turn_of}
use Rattle.vector.specs.Determinant.{determinant_of}
use Rattle.vector.specs.Turned.{turn_checks, turned_answer}

abbrev one_two_half : Vector
one_two_half = vector one two half

abbrev two_half_two : Vector
two_half_two = vector two half two

-- the code of a component
abbrev in_x : Vector → ℕ
in_x v = bits v.x

abbrev in_y : Vector → ℕ
in_y v = bits v.y

abbrev in_z : Vector → ℕ
in_z v = bits v.z

-- a zero for a one; twos
pub of_ones : (vector one one nought ≡ ones_vector → ⊥) × (vector two two two ≡ ones_vector → ⊥)
unfolding of_bits to_bits
of_ones = (λ h. apart in_z h refl, λ h. apart in_x h refl)

-- x and y swapped; z left out
pub of_new : (vector two one half ≡ vector one two half → ⊥) × (vector one two nought ≡ vector one two half → ⊥)
unfolding to_bits
of_new = (λ h. apart in_x h refl, λ h. apart in_z h refl)

-- z not looked at; an infinity taken; a finite vector refused
pub of_is_finite
    : (true ≡ finite_vector (vector one one nan) → ⊥) × (true ≡ finite_vector (vector (inf true) one one) → ⊥) × (false ≡ finite_vector one_two_half → ⊥)
unfolding finite_vector
of_is_finite = (true≢false, true≢false, false≢true)

-- a NaN equal to itself; the zeros told apart; z not looked at
pub of_eq
    : (true ≡ eq_of (vector nan one one) (vector nan one one) → ⊥)
    × (false ≡ eq_of (vector nought one one) (vector minus_nought one one) → ⊥)
    × (true ≡ eq_of (vector one one one) (vector one one two) → ⊥)
unfolding eq
of_eq = (true≢false, false≢true, true≢false)

-- a minus zero told from zero; z not looked at
pub of_is_zero : (false ≡ is_zero_of (vector nought minus_nought nought) → ⊥) × (true ≡ is_zero_of (vector nought nought one) → ⊥)
unfolding eq of_bits
of_is_zero = (false≢true, true≢false)

-- larger at the limit itself; the sign left on
pub of_exceeds : (true ≡ exceeds_of (vector one one one) one → ⊥) × (false ≡ exceeds_of (vector nought nought (fin true 1 (pos 1))) one → ⊥)
unfolding exceeds_of fabsf_of lt
of_exceeds = (true≢false, false≢true)

-- 2^24, 1 and 1
abbrev far : Vector
far = vector (fin false 1 (pos 24)) one one

-- summed from the right: 2^24 + 2; x left out
pub of_sum : (fin false 8388609 (pos 1) ≡ sum_of far → ⊥) × (two ≡ sum_of far → ⊥)
unfolding add sum round units odd to_bits
of_sum = (λ h. apart bits h refl, λ h. apart bits h refl)

-- the sums; the squares of the left
pub of_hadamard
    : (add_of one_two_half two_half_two ≡ hadamard_of one_two_half two_half_two → ⊥)
    × (hadamard_of one_two_half one_two_half ≡ hadamard_of one_two_half two_half_two → ⊥)
unfolding add mul sum round units odd to_bits
of_hadamard = (λ h. apart in_x h refl, λ h. apart in_y h refl)

-- summed from the right; z left out: 3 for 4
pub of_dot : (fin false 8388609 (pos 1) ≡ dot_of far (vector one one one) → ⊥) × (fin false 3 (pos 0) ≡ dot_of one_two_half two_half_two → ⊥)
unfolding dot_of add mul sum round units odd to_bits
of_dot = (λ h. apart bits h refl, λ h. apart bits h refl)

-- the operands swapped; the sign of y turned
pub of_cross
    : (cross_of two_half_two one_two_half ≡ cross_of one_two_half two_half_two → ⊥)
    × (vector (fin false 15 (negsuc 1)) one (fin true 7 (negsuc 0)) ≡ cross_of one_two_half two_half_two → ⊥)
unfolding add sub neg mul sum round units odd to_bits
of_cross = (λ h. apart in_x h refl, λ h. apart in_y h refl)

-- of (4096, 1, 1) summed from the right; of (2, 0, 0) the norm
pub of_norm_squared
    : (fin false 8388609 (pos 1) ≡ norm_squared_of (vector (fin false 1 (pos 12)) one one) → ⊥)
    × (two ≡ norm_squared_of (vector two nought nought) → ⊥)
unfolding norm_squared_of add mul sum round units odd to_bits
of_norm_squared = (λ h. apart bits h refl, λ h. apart bits h refl)

-- of (2, 0, 0) the square; of (-2, 0, 0) the sum
pub of_norm : (fin false 1 (pos 2) ≡ norm_of (vector two nought nought) → ⊥) × (fin true 1 (pos 1) ≡ norm_of (vector (fin true 1 (pos 1)) nought nought) → ⊥)
unfolding norm_of norm_squared_of sqrt_of root_bits_of squared_of exponent_of significand_of nearest_root_of floor_root count_leading_zeros
    add mul sum round units odd of_bits to_bits
of_norm = (λ h. apart bits h refl, λ h. apart bits h refl)

-- (41, 0, 0) divided by its norm, which gives 1 and not the f32 below it; of zero, NaNs
pub of_normalize
    : (vector one nought nought ≡ normalize_of (vector (fin false 41 (pos 0)) nought nought) → ⊥)
    × (vector nan nan nan ≡ normalize_of (vector nought nought nought) → ⊥)
unfolding normalize_of norm_of norm_squared_of sqrt_of root_bits_of squared_of exponent_of significand_of nearest_root_of floor_root count_leading_zeros
    eq add mul div sum round units odd of_bits to_bits
of_normalize = (λ h. apart in_x h refl, λ h. apart in_x h refl)

-- the differences; z left as it was
pub of_add
    : (sub_of one_two_half two_half_two ≡ add_of one_two_half two_half_two → ⊥)
    × (vector (fin false 3 (pos 0)) (fin false 5 (negsuc 0)) half ≡ add_of one_two_half two_half_two → ⊥)
unfolding add sub neg sum round units odd to_bits
of_add = (λ h. apart in_x h refl, λ h. apart in_z h refl)

-- the operands swapped; the sums
pub of_sub
    : (sub_of two_half_two one_two_half ≡ sub_of one_two_half two_half_two → ⊥)
    × (add_of one_two_half two_half_two ≡ sub_of one_two_half two_half_two → ⊥)
unfolding add sub neg sum round units odd to_bits
of_sub = (λ h. apart in_x h refl, λ h. apart in_x h refl)

-- of zero, zero less itself; the vector itself
pub of_neg : (zero_vector ≡ neg_of zero_vector → ⊥) × (one_two_half ≡ neg_of one_two_half → ⊥)
unfolding neg of_bits to_bits
of_neg = (λ h. apart in_x h refl, λ h. apart in_x h refl)

-- x alone times two; two added
pub of_mul : (vector two two half ≡ mul_of one_two_half two → ⊥) × (add_of one_two_half (vector two two two) ≡ mul_of one_two_half two → ⊥)
unfolding add mul sum round units odd to_bits
of_mul = (λ h. apart in_y h refl, λ h. apart in_x h refl)

-- last first; one place on
pub of_from_array
    : (vector half two one ≡ from_array_of (one ∷ two ∷ half ∷ []) → ⊥) × (vector two half nan ≡ from_array_of (one ∷ two ∷ half ∷ []) → ⊥)
unfolding to_bits
of_from_array = (λ h. apart in_x h refl, λ h. apart in_y h refl)

-- the code of the i-th float
abbrev in_place : ℕ → List Float → ℕ
in_place i l = bits (get_or l i nan)

-- last first; x for y
pub of_to_array : (half ∷ two ∷ one ∷ [] ≡ to_array_of one_two_half → ⊥) × (one ∷ one ∷ half ∷ [] ≡ to_array_of one_two_half → ⊥)
unfolding to_bits
of_to_array = (λ h. apart (in_place 0) h refl, λ h. apart (in_place 1) h refl)

abbrev axes_in : Option ℕ → ℕ
axes_in None = 0
axes_in (Some n) = n

-- of 11, +Y+Z+X, the number of 17, its inverse; of 3, +X+Z-Y, the sign dropped; of 24 the first mounting's
pub of_axes_of : (Some 2049 ≡ axes_of 11 → ⊥) × (Some 65 ≡ axes_of 3 → ⊥) × (Some 34 ≡ axes_of 24 → ⊥)
unfolding mounting_of
of_axes_of = (λ h. apart axes_in h refl, λ h. apart axes_in h refl, λ h. apart axes_in h refl)

-- 11 is +Y+Z+X: what 17, its inverse, gives; the vector itself; a refusal; and 24 turned. The crate remap's `remap` has the same promise.
pub of_turned
    : (Answers (turn_checks one_two_half 11) (turned_answer (turn_of 11 one_two_half)) (turned_answer (turn_of 17 one_two_half)) → ⊥)
    × (Answers (turn_checks one_two_half 11) (turned_answer (turn_of 11 one_two_half)) (turned_answer one_two_half) → ⊥)
    × (Answers (turn_checks one_two_half 11) (turned_answer (turn_of 11 one_two_half)) (Refused NotFinite) → ⊥)
    × (Answers (turn_checks one_two_half 24) (turned_answer (turn_of 24 one_two_half)) (turned_answer one_two_half) → ⊥)
    × (Answers (turn_checks one_two_half 24) (turned_answer (turn_of 24 one_two_half)) (Refused NotFinite) → ⊥)
    × (Answers (turn_checks one_two_half 11) (turned_answer (turn_of 11 one_two_half)) (turned_answer (vector nought nought nought)) → ⊥)
unfolding refusal_of mounting_of finite_vector
of_turned = (
  λ h. let e = h.exact in let z : ◌≡◌ {A = ℕ} 0 1 = cc in omega arith,
  λ h. let e = h.exact in let z : ◌≡◌ {A = ℕ} 0 1 = cc in omega arith,
  λ h. let e = h.exact in let z : ◌≡◌ {A = ℕ} 0 1 = cc in omega arith,
  λ h. let e = h.exact in let z : ◌≡◌ {A = ℕ} 0 1 = cc in omega arith,
  λ h. let e = h.exact in let z : ◌≡◌ {A = ℕ} 0 1 = cc in omega arith,
  λ h. let e = h.exact in let z : ◌≡◌ {A = ℕ} 0 1 = cc in omega arith,
)

-- a whole number's size, 0 for one below
abbrev above : ℤ → ℕ
above (pos n) = n
above (negsuc n) = 0

-- determinant 1 of a mirrored triple, and of one that repeats a letter; minus one of two signs turned
pub of_determinant
    : (pos 1 ≡ determinant_of (mounting Nx Py Pz) → ⊥)
    × (pos 1 ≡ determinant_of (mounting Px Px Pz) → ⊥)
    × (negsuc 0 ≡ determinant_of (mounting Nx Ny Pz) → ⊥)
unfolding determinant_of
of_determinant = (λ h. apart above h refl, λ h. apart above h refl, λ h. apart above h refl)
