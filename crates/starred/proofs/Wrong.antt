-- Wrong values that the starred definitions refuse, each by evaluation. Assumes nothing.
use Prim.Native.Nat.{ℕ}
use native.Mathlib.Omega.{arith}
use mathlib.Core.Path.{◌≡◌}
use mathlib.Core.Bool.{false}
use lib.Count.{count_leading_zeros}
use lib.IntN.{pos}
use lib.Ieee.{fin, binary32, of_bits, to_bits, round, units, odd}
use Rattle.root.specs.Root.{floor_root, nearest_root_of, significand_of, exponent_of, squared_of, root_bits_of, sqrt_of}
use Rattle.vector.specs.Mounting.{mounting_of}
use Rattle.remap.specs.First.{first}
use Rattle.remap.specs.Names.{name_of, same}
use Rattle.remap.specs.Composition.{compose_of, inverse_of}

-- the neighbours of the root of 2.0
pub of_root : (to_bits binary32 (sqrt_of (fin false 1 (pos 1))) ≡ 0x3FB5_04F4 → ⊥) × (to_bits binary32 (sqrt_of (fin false 1 (pos 1))) ≡ 0x3FB5_04F2 → ⊥)
unfolding sqrt_of root_bits_of squared_of exponent_of significand_of nearest_root_of floor_root of_bits to_bits count_leading_zeros round units odd
of_root = (λ h. let z : ◌≡◌ {A = ℕ} 0x3FB5_04F3 0x3FB5_04F4 = h in omega arith, λ h. let z : ◌≡◌ {A = ℕ} 0x3FB5_04F3 0x3FB5_04F2 = h in omega arith)

-- the second first; the inverse of 11 by its signs
pub of_mountings : (compose_of 1 11 ≡ 8 → ⊥) × (inverse_of 11 ≡ 11 → ⊥)
unfolding compose_of inverse_of first same name_of mounting_of
of_mountings = (λ h. let z : ◌≡◌ {A = ℕ} 20 8 = h in omega arith, λ h. let z : ◌≡◌ {A = ℕ} 17 11 = h in omega arith)
