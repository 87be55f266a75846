-- Matrices of whole numbers, three rows of three: the transpose, the product, and the matrix of a mounting.
use Rattle.std.specs.Prelude.{ℕ, ℤ, ◌+ℤ◌, ◌*ℤ◌}
use Rattle.vector.specs.Mounting.{Mounting, mounting_of}
use Rattle.vector.specs.Determinant.{Row, row_of}

pub record Rows : Type 0 where
  pub x : Row
  pub y : Row
  pub z : Row

abbrev pub row : ℤ → ℤ → ℤ → Row
row a b c = record { x = a; y = b; z = c }

abbrev pub rows : Row → Row → Row → Rows
rows a b c = record { x = a; y = b; z = c }

-- its columns as rows
abbrev pub transposed : Rows → Rows
transposed m =
    rows (row m.x.x m.y.x m.z.x) (row m.x.y m.y.y m.z.y) (row m.x.z m.y.z m.z.z)

-- a row by a column
abbrev pub dot : Row → Row → ℤ
dot a b = a.x *ℤ b.x +ℤ a.y *ℤ b.y +ℤ a.z *ℤ b.z

-- a row by each column of m
abbrev pub across : Row → Rows → Row
across a m = let columns = transposed m in row (dot a columns.x) (dot a columns.y) (dot a columns.z)

-- m's rows by n's columns: what n does first, and m to its result
abbrev pub times : Rows → Rows → Rows
times m n = rows (across m.x n) (across m.y n) (across m.z n)

-- the matrix of a mounting: for each body axis the row of the signed axis that it reads
abbrev pub whole_of : Mounting → Rows
whole_of m = rows (row_of m.x) (row_of m.y) (row_of m.z)

-- of the mounting with this number
abbrev pub whole_matrix : ℕ → Rows
whole_matrix n = whole_of (mounting_of n)
