-- The starred rows of the bench table hold: each side is computed. Assumes nothing.
use mathlib.Core.Path.{◌≡◌, refl}
use lib.Count.{count_leading_zeros}
use lib.Ieee.{of_bits, to_bits, of_int, round, units, odd}
use Rattle.root.specs.Root.{floor_root, nearest_root_of, significand_of, exponent_of, squared_of, root_bits_of, sqrt_of}
use Rattle.vector.specs.Mounting.{mounting_of}
use Rattle.remap.specs.First.{first}
use Rattle.remap.specs.Names.{name_of, same}
use Rattle.remap.specs.Composition.{compose_of, inverse_of}
use Rattle.step.proofs.Bench.{starred_rows}
use Rattle.starred.specs.Starred.{Starred}

mountings : (compose_of 1 1 ≡ 2) × (compose_of 1 11 ≡ 20) × (compose_of 11 1 ≡ 8) × (inverse_of 1 ≡ 3)
unfolding compose_of inverse_of first same name_of mounting_of
mountings = (refl, refl, refl, refl)

pub starred : Starred
unfolding sqrt_of root_bits_of squared_of exponent_of significand_of nearest_root_of floor_root of_bits to_bits count_leading_zeros of_int round units odd
starred =
    record {
      root_of_2 = refl;
      root_of_quarter = refl;
      root_of_largest = refl;
      root_of_minus_zero = refl;
      whole_down = refl;
      whole_up = refl;
      one_then_one = mountings.0;
      one_then_eleven = mountings.1;
      eleven_then_one = mountings.2;
      three_undoes_one = mountings.3;
      rejection_steps = starred_rows;
    }
