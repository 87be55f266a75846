-- 01, "Mountings": "They are all the signed permutations of determinant +1".
use Rattle.std.specs.Prelude.{ℕ, ◌<◌, ◌≡◌, ℤ, pos, neg_ℤ, ◌+ℤ◌, ◌-ℤ◌, ◌*ℤ◌}
use Rattle.vector.specs.Mounting.{Signed, Mounting, mounting_of, read}

-- a row of a matrix
pub record Row : Type 0 where
  pub x : ℤ
  pub y : ℤ
  pub z : ℤ

-- 1 or -1 in the column of the axis, by its sign, and 0 elsewhere
abbrev pub row_of : Signed → Row
row_of s =
    record {
      x = read neg_ℤ (pos 1) (pos 0) (pos 0) s;
      y = read neg_ℤ (pos 0) (pos 1) (pos 0) s;
      z = read neg_ℤ (pos 0) (pos 0) (pos 1) s;
    }

abbrev pub determinant : Row → Row → Row → ℤ
determinant a b c =
    a.x *ℤ (b.y *ℤ c.z -ℤ b.z *ℤ c.y) -ℤ a.y *ℤ (b.x *ℤ c.z -ℤ b.z *ℤ c.x) +ℤ a.z *ℤ (b.x *ℤ c.y -ℤ b.y *ℤ c.x)

-- of the matrix that turns a vector as the mounting does
unfoldable pub determinant_of : Mounting → ℤ
determinant_of m = determinant (row_of m.x) (row_of m.y) (row_of m.z)

-- the place of a signed axis's letter
abbrev pub letter_of : Signed → ℕ
letter_of s = read (λ (n : ℕ). n) 0 1 2 s

-- a signed permutation: no two axes share a letter
pub record Permutation (m : Mounting) : Type 0 where
  pub x_y : letter_of m.x ≡ letter_of m.y → ⊥
  pub y_z : letter_of m.y ≡ letter_of m.z → ⊥
  pub z_x : letter_of m.z ≡ letter_of m.x → ⊥

-- m is the mounting with some number
pub record Numbered (m : Mounting) : Type 0 where
  pub number : ℕ
  pub below : number < 24
  pub is : mounting_of number ≡ m

-- ---- the statement

-- of any three signed axes: they are a mounting exactly when their determinant is 1, and only a signed permutation has that
pub record AllOfDeterminantOne : Type 0 where
  pub all : (m : Mounting) → determinant_of m ≡ pos 1 → Numbered m
  pub no_other : (m : Mounting) → Numbered m → determinant_of m ≡ pos 1
  pub permutation : (m : Mounting) → determinant_of m ≡ pos 1 → Permutation m
