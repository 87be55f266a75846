-- The matrix of "A then B" is the product of B's with A's: a test that antt computes at all 576. Undoing is the transpose: one at all 24. The
-- determinant of each is 1. Assumes nothing.
use Prim.Native.Nat.{ℕ, ◌<◌}
use mathlib.Core.Path.{◌≡◌, refl, ap}
use mathlib.Core.Bool.{Bool}
use Rattle.vector.specs.Mounting.{mounting_of}
use Rattle.vector.specs.Determinant as vector
use Rattle.vector.proofs.Determinant.{all_of_determinant_one}
use Rattle.remap.specs.First.{first}
use Rattle.remap.specs.Names.{name_of, same}
use Rattle.remap.specs.Composition.{compose_of, inverse_of}
use Rattle.remap.proofs.Tabled.{at_each, at_both}
use Rattle.alignment.specs.Whole.{transposed, times, whole_matrix}
use Rattle.alignment.specs.Matrix.{floats_of, to_matrix_of}
use Rattle.alignment.specs.Laws.{Products, Transposes, DeterminantOne}
use Rattle.alignment.proofs.Alike.{same_rows, rows_eq}

abbrev multiplies : ℕ → ℕ → Bool
multiplies a b = same_rows (whole_matrix (compose_of a b)) (times (whole_matrix b) (whole_matrix a))

pub products : Products
unfolding compose_of first same name_of mounting_of
products a b h g = rows_eq (whole_matrix (compose_of a b)) (times (whole_matrix b) (whole_matrix a)) (at_both 24 24 multiplies tt a b h g)

abbrev transposes_at : ℕ → Bool
transposes_at n = same_rows (whole_matrix (inverse_of n)) (transposed (whole_matrix n))

whole : (n : ℕ) → n < 24 → whole_matrix (inverse_of n) ≡ transposed (whole_matrix n)
unfolding inverse_of compose_of first same name_of mounting_of
whole n h = rows_eq (whole_matrix (inverse_of n)) (transposed (whole_matrix n)) (at_each 24 transposes_at tt n h)

pub transposes : Transposes
unfolding to_matrix_of
transposes = record { whole = whole; floats = λ n h. ap floats_of (whole n h) }

pub determinant_one : DeterminantOne
unfolding vector.determinant_of
determinant_one n h = all_of_determinant_one.no_other (mounting_of n) (record { number = n; below = h; is = refl })
