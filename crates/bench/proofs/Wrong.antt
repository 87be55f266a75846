-- Root vectors that `is_right` does not take for right, each by evaluation. Assumes nothing.
use Rattle.std.proofs.Common.{◌≡◌, ℕ, true, List, [], ◌∷◌, true≢false}
use lib.Count.{count_leading_zeros}
use lib.Ieee.{of_bits, to_bits, round, units, odd}
use Rattle.root.specs.Root.{floor_root, nearest_root_of, significand_of, exponent_of, squared_of, root_bits_of, sqrt_of}
use Rattle.bench.specs.Vectors.{right_of}

-- 2.0 as its own root; the root's neighbour
abbrev itself : List ℕ
itself = 0 ∷ 0 ∷ 0 ∷ 0x40 ∷ 0 ∷ 0 ∷ 0 ∷ 0x40 ∷ []

abbrev neighbour : List ℕ
neighbour = 0 ∷ 0 ∷ 0 ∷ 0x40 ∷ 0xF4 ∷ 0x04 ∷ 0xB5 ∷ 0x3F ∷ []

pub of_is_right : (true ≡ right_of itself → ⊥) × (true ≡ right_of neighbour → ⊥)
unfolding sqrt_of root_bits_of squared_of exponent_of significand_of nearest_root_of floor_root of_bits to_bits count_leading_zeros round units odd
of_is_right = (true≢false, true≢false)
