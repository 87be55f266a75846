-- 01's record of the bench table with settings behind it, moved, restored and refused, by evaluation. Assumes nothing.
use Prim.Native.Nat.{ℕ}
use mathlib.Core.Path.{◌≡◌, refl}
use mathlib.Core.List.{List, [], ◌∷◌, ◌++◌, map}
use lib.ListN.{take, set}
use lib.Ieee.{lt, mul, div, of_bits, to_bits}
use Rattle.answer.specs.Refusals.{refusal_of}
use Rattle.number.specs.Same.{is_minus_zero}
use Rattle.vector.specs.Vectors.{finite_vector}
use Rattle.bias.specs.declared.BiasSettings.{BiasSettings}
use Rattle.bias.specs.Settings.{finite_settings, coefficient_of}
use Rattle.bias.specs.Estimator.{finite_bias}
use Rattle.wire.specs.Wire.{float_of, put_bits}
use Rattle.offset.specs.Record.{has_mark, vector_at, storable, storable_vector, record_checks}
use Rattle.offset.proofs.Bench.{row, running}
use Rattle.editions.specs.Edition.{settings_at}
use Rattle.editions.specs.Move.{up_of, down_of, up_checks, down_checks}
use Rattle.editions.specs.Restore.{restore_checks}

-- 100 readings a second, cutoff 0.02, threshold 3, period 5
abbrev pub given : BiasSettings
given =
    record {
      sample_rate = float_of 0x42C80000;
      cutoff_frequency = float_of 0x3CA3D70A;
      stationary_threshold = float_of 0x40400000;
      stationary_period = float_of 0x40A00000;
    }

-- the row of version 2, with these
abbrev pub long : List ℕ
long =
    set row 3 2
    ++ 0x00 ∷ 0x00 ∷ 0xC8 ∷ 0x42 ∷ 0x0A ∷ 0xD7 ∷ 0xA3 ∷ 0x3C ∷ 0x00 ∷ 0x00 ∷ 0x40 ∷ 0x40 ∷ 0x00 ∷ 0x00 ∷ 0xA0 ∷ 0x40 ∷ []

pub bench_moved
    : (refusal_of (up_checks row given 34) ≡ 0)
    × (up_of row given ≡ long)
    × (refusal_of (down_checks long 18) ≡ 0)
    × (down_of long ≡ row)
    × (settings_at long ≡ given)
unfolding refusal_of record_checks has_mark vector_at storable_vector storable is_minus_zero finite_settings coefficient_of settings_at of_bits to_bits lt mul
    div
bench_moved = (refl, refl, refl, refl, refl)

-- with another pattern for the rate, the cutoff, or x of the offset
abbrev pub rated : ℕ → List ℕ
rated n = put_bits long 18 n

abbrev pub cut : ℕ → List ℕ
cut n = put_bits long 22 n

abbrev pub turned : ℕ → List ℕ
turned n = put_bits long 6 n

-- a minus zero is a setting like any other, and 5 in the offset
abbrev judged : List (List ℕ)
judged =
    row ∷ long ∷ cut 0x80000000 ∷
    take 33 long ∷ take 17 long ∷ set long 0 0 ∷ set long 3 1 ∷ set row 3 2 ∷ set long 5 24 ∷
    turned 0x80000000 ∷ turned 0x7F800000 ∷ cut 0x7FC00000 ∷ rated 0 ∷ rated 0x80000000 ∷ rated 0xBF800000 ∷ rated 1 ∷ []

pub bench_refused
    : map (λ (s : List ℕ). refusal_of (restore_checks running s 0)) judged
    ≡ 0 ∷ 0 ∷ 0 ∷ 1 ∷ 1 ∷ 2 ∷ 3 ∷ 3 ∷ 4 ∷ 5 ∷ 5 ∷ 5 ∷ 6 ∷ 6 ∷ 6 ∷ 7 ∷ []
unfolding refusal_of record_checks has_mark vector_at storable_vector storable is_minus_zero finite_vector finite_bias finite_settings coefficient_of
    settings_at of_bits lt mul div
bench_refused = refl
