-- 01's bench table, the record's row, and what 02's P4 says of zeros, by evaluation. Assumes nothing.
use Prim.Native.Nat.{ℕ, ◌+◌, ◌*◌}
use mathlib.Core.Path.{◌≡◌, refl}
use mathlib.Core.Bool.{true}
use mathlib.Core.List.{List, [], ◌∷◌, map}
use lib.IntN.{pos}
use lib.ListN.{set}
use lib.Ieee.{Float, fin, neg, of_bits, to_bits}
use Rattle.answer.specs.Refusals.{refusal_of}
use Rattle.number.specs.Same.{plain, is_minus_zero}
use Rattle.number.proofs.Apart.{nought, minus_nought, one, half}
use Rattle.vector.specs.Vectors.{vector}
use Rattle.vector.specs.Mounting.{mounting_of}
use Rattle.remap.specs.First.{first}
use Rattle.remap.specs.Names.{name_of, same}
use Rattle.remap.specs.Composition.{compose_of, inverse_of}
use Rattle.bias.specs.declared.Bias.{Bias}
use Rattle.offset.specs.declared.Offset.{Offset}
use Rattle.offset.specs.Record.{has_mark, vector_at, offset_at, storable, storable_vector, record_of, record_checks, read_checks}
use Rattle.offset.specs.Restore.{reframed_of, restored_of}

abbrev pub minus_two : Float
minus_two = fin true 1 (pos 1)

-- the record's bytes but the last, with a mounting and what comes last
abbrev pub record_with : ℕ → List ℕ → List ℕ
record_with m end =
    0x47 ∷ 0x4F ∷ 0x46 ∷ 0x01 ∷ 0x00 ∷ m ∷ 0x00 ∷ 0x00 ∷ 0x80 ∷ 0x3F ∷ 0x00 ∷ 0x00 ∷ 0x00 ∷ 0xC0 ∷ 0x00 ∷ 0x00 ∷ 0x00 ∷ end

abbrev pub row : List ℕ
row = record_with 0x0B (0x3F ∷ [])

abbrev pub row_offset : Offset
row_offset = record { mounting = 11; vector = vector one minus_two half }

-- the bytes are of that offset, and the other way round; of 17 bytes, of 19, and of mounting 24 the numbers
pub bench_read
    : (refusal_of (read_checks row) ≡ 0)
    × (offset_at row ≡ row_offset)
    × (record_of row_offset ≡ row)
    × (refusal_of (read_checks (record_with 0x0B [])) ≡ 1)
    × (refusal_of (read_checks (record_with 0x0B (0x3F ∷ 0x00 ∷ []))) ≡ 1)
    × (refusal_of (read_checks (record_with 24 (0x3F ∷ []))) ≡ 4)
unfolding refusal_of record_checks has_mark vector_at storable_vector storable is_minus_zero record_of plain of_bits to_bits
bench_read = (refl, refl, refl, refl, refl, refl)

-- an estimator with a timer that runs, and an offset of its own
abbrev pub running : Bias
running =
    record {
      settings = record { sample_rate = one; stationary_threshold = one; stationary_period = one; cutoff_frequency = one };
      filter_coefficient = one;
      timeout = 9;
      timer = 7;
      offset = vector one one one;
    }

-- restored under 0, into any estimator
pub bench_restored : (b : Bias) → (restored_of b row 0).offset ≡ vector half one minus_two
unfolding reframed_of inverse_of compose_of first same name_of mounting_of vector_at of_bits
bench_restored b = refl

-- ---- zeros

-- zeros under mounting 0
abbrev pub zero_row : List ℕ
zero_row = 0x47 ∷ 0x4F ∷ 0x46 ∷ 0x01 ∷ 0x00 ∷ 0x00 ∷ 0x00 ∷ 0x00 ∷ 0x00 ∷ 0x00 ∷ 0x00 ∷ 0x00 ∷ 0x00 ∷ 0x00 ∷ 0x00 ∷ 0x00 ∷ 0x00 ∷ 0x00 ∷ []

-- with a minus sign on one axis
abbrev pub minus_row : ℕ → List ℕ
minus_row axis = set zero_row (9 + 4 * axis) 0x80

-- zeros are accepted, and 5 for a minus zero on any axis; minus zeros are written as zeros
pub bench_zeros
    : (map (λ (s : List ℕ). refusal_of (read_checks s)) (zero_row ∷ minus_row 0 ∷ minus_row 1 ∷ minus_row 2 ∷ []) ≡ 0 ∷ 5 ∷ 5 ∷ 5 ∷ [])
    × (record_of (record { mounting = 0; vector = vector minus_nought minus_nought minus_nought }) ≡ zero_row)
unfolding refusal_of record_checks has_mark vector_at storable_vector storable is_minus_zero record_of plain of_bits to_bits
bench_zeros = (refl, refl)

-- restored under 2, which is +X-Y-Z, into any estimator: the signs are the turning's
pub bench_signs : (b : Bias) → (restored_of b zero_row 2).offset ≡ vector nought minus_nought minus_nought
unfolding reframed_of inverse_of compose_of first same name_of mounting_of vector_at neg of_bits
bench_signs b = refl
