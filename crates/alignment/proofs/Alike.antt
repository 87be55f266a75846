-- Whether two matrices of whole numbers are the same: a test, so that a rule of many can be computed. Assumes nothing.
use mathlib.Core.Path.{◌≡◌, ap}
use mathlib.Core.Bool.{Bool, false, ◌&&◌}
use lib.Dec.{T, eqb, eqb→eq}
use lib.IntN.{ℤ, pos, negsuc}
use lib.Ieee.Fits.{and_l, and_r}
use Rattle.vector.specs.Determinant.{Row}
use Rattle.alignment.specs.Whole.{Rows}

abbrev alike : ℤ → ℤ → Bool
alike (pos m) (pos n) = eqb m n
alike (pos m) (negsuc n) = false
alike (negsuc m) (pos n) = false
alike (negsuc m) (negsuc n) = eqb m n

alike_eq : (a b : ℤ) → T (alike a b) → a ≡ b
alike_eq (pos m) (pos n) t = ap pos (eqb→eq m n t)
alike_eq (pos m) (negsuc n) t = absurd t
alike_eq (negsuc m) (pos n) t = absurd t
alike_eq (negsuc m) (negsuc n) t = ap negsuc (eqb→eq m n t)

three : (a b c : Bool) → T (a && (b && c)) → T a × T b × T c
three a b c t = let u = and_r a (b && c) t in (and_l a (b && c) t, and_l b c u, and_r b c u)

abbrev same_row : Row → Row → Bool
same_row a b = alike a.x b.x && (alike a.y b.y && alike a.z b.z)

row_eq : (a b : Row) → T (same_row a b) → a ≡ b
row_eq a b t =
    let (p, q, r) = three (alike a.x b.x) (alike a.y b.y) (alike a.z b.z) t in
    λ i. record { x = alike_eq a.x b.x p i; y = alike_eq a.y b.y q i; z = alike_eq a.z b.z r i }

abbrev pub same_rows : Rows → Rows → Bool
same_rows m n = same_row m.x n.x && (same_row m.y n.y && same_row m.z n.z)

pub rows_eq : (m n : Rows) → T (same_rows m n) → m ≡ n
rows_eq m n t =
    let (p, q, r) = three (same_row m.x n.x) (same_row m.y n.y) (same_row m.z n.z) t in
    λ i. record { x = row_eq m.x n.x p i; y = row_eq m.y n.y q i; z = row_eq m.z n.z r i }
