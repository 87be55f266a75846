-- The matrix by the places of a mounting is the mounting's. Assumes nothing.
use Prim.Native.Nat.{ℕ}
use mathlib.Core.Path.{◌≡◌, ap, ◌∙◌}
use mathlib.Core.List.{List, [], ◌∷◌}
use lib.Ieee.{Float}
use Rattle.vector.specs.Axes.{place_of, places, places_of}
use Rattle.vector.specs.Mounting.{Signed, Mounting, mounting_of}
use Rattle.vector.proofs.Axes.{at_place, own}
use Rattle.math.specs.declared.matrix.Matrix.{Matrix}
use Rattle.math.specs.Matrices.{from_rows_of}
use Rattle.alignment.specs.Whole.{whole_of}
use Rattle.alignment.specs.Matrix.{floats_of, to_matrix_of}
use Rattle.alignment.specs.Inner.{float_row, row_at, matrix_by}

-- ---- rows and places

by_rows : {a b c x y z : List Float} → a ≡ x → b ≡ y → c ≡ z → from_rows_of (a ∷ b ∷ c ∷ []) ≡ from_rows_of (x ∷ y ∷ z ∷ [])
by_rows p q r = λ i. from_rows_of (p i ∷ q i ∷ r i ∷ [])

by_places : (m : Mounting) → matrix_by (places m) ≡ floats_of (whole_of m)
by_places m = let (p, q, r) = own m in by_rows (axis m.x p) (axis m.y q) (axis m.z r)
  where
    axis : {n : ℕ} (s : Signed) → n ≡ place_of s → row_at n ≡ float_row s
    axis s e = ap row_at e ∙ at_place float_row [] s

-- ---- a mounting's own places

module _ {k n : ℕ} (i : k ≡ n) {a : ℕ} (e : a ≡ places_of k) where
  pub its_matrix : {r : Matrix} → r ≡ matrix_by a → r ≡ to_matrix_of n
  unfolding to_matrix_of
  its_matrix g = g ∙ ap matrix_by e ∙ by_places (mounting_of k) ∙ ap to_matrix_of i
