-- Wrong answers that the promises refuse, each by evaluation. Assumes nothing.
use Prim.Native.Nat.{ℕ}
use native.Mathlib.Omega.{arith}
use mathlib.Core.Path.{◌≡◌, ap, refl}
use mathlib.Core.Bool.{true, false, cond}
use mathlib.Core.List.{List, [], ◌∷◌}
use lib.ListN.{get_or, set}
use lib.Ieee.{Float, nan, inf, fin, neg, of_bits, to_bits}
use Rattle.number.specs.Same.{plain, is_minus_zero}
use Rattle.number.proofs.Apart.{unlike, nought, minus_nought, one, half}
use Rattle.std.specs.declared.result.Result.{Result}
use Rattle.std.specs.declared.result.Result.TheVariants.{Ok, Err}
use Rattle.answer.specs.declared.change.Change.{Change}
use Rattle.answer.specs.declared.refusal.Refusal.{Refusal}
use Rattle.answer.specs.declared.refusal.Refusal.TheVariants.{Version, NotFinite}
use Rattle.answer.specs.Refusals.{refusal_of, accepted}
use Rattle.answer.specs.Rows.{refusal_at}
use Rattle.vector.specs.Vectors.{vector, finite_vector}
use Rattle.vector.specs.Mounting.{mounting_of}
use Rattle.remap.specs.First.{first}
use Rattle.remap.specs.Names.{name_of, same}
use Rattle.remap.specs.Composition.{compose_of, inverse_of}
use Rattle.bias.specs.declared.Bias.{Bias}
use Rattle.bias.specs.Estimator.{finite_bias, with_timer, with_offset}
use Rattle.bias.specs.Settings.{finite_settings}
use Rattle.offset.specs.declared.Offset.{Offset}
use Rattle.offset.specs.Record.{has_mark, vector_at, storable, storable_vector, record_of, record_checks, Reads, Writes}
use Rattle.offset.specs.Restore.{reframed_of, Restores}
use Rattle.offset.proofs.Bench.{minus_two, record_with, row, row_offset, running, zero_row, minus_row}

-- version 2 taken as 1, and 1 as 2; 18 bytes taken for 34; another mounting of 24 taken; the caller's floats not looked at
pub of_record_refusal
    : (0 ≡ refusal_of (record_checks 18 1 (set row 3 2) 0 true) → ⊥)
    × (0 ≡ refusal_of (record_checks 18 2 row 0 true) → ⊥)
    × (0 ≡ refusal_of (record_checks 34 1 row 0 true) → ⊥)
    × (0 ≡ refusal_of (record_checks 18 1 row 24 true) → ⊥)
    × (0 ≡ refusal_of (record_checks 18 1 row 0 false) → ⊥)
unfolding refusal_of record_checks has_mark vector_at storable_vector storable is_minus_zero of_bits
of_record_refusal = (λ h. omega arith, λ h. omega arith, λ h. omega arith, λ h. omega arith, λ h. omega arith)

-- so it is of the number that the check's result has
pub of_check_record
    : (0 ≡ refusal_of (record_checks 18 1 (set row 3 2) 0 true) → ⊥)
    × (0 ≡ refusal_of (record_checks 18 2 row 0 true) → ⊥)
    × (0 ≡ refusal_of (record_checks 34 1 row 0 true) → ⊥)
    × (0 ≡ refusal_of (record_checks 18 1 row 24 true) → ⊥)
    × (0 ≡ refusal_of (record_checks 18 1 row 0 false) → ⊥)
of_check_record = of_record_refusal

abbrev mounting_in : Result Offset Refusal → ℕ
mounting_in (Ok o) = o.mounting
mounting_in (Err e) = 0

-- the mounting left out; mounting 24 taken; a record of version 2 taken; one of version 1 refused for it; a number that no check gives;
-- a minus zero taken as whatever it be, on each axis
pub of_read_offset
    : (Reads row (Ok (record { mounting = 0; vector = vector one minus_two half })) → ⊥)
    × (Reads (record_with 24 (0x3F ∷ [])) (Ok (record { mounting = 24; vector = vector one minus_two half })) → ⊥)
    × (Reads (set row 3 2) (Ok row_offset) → ⊥)
    × (Reads row (Err Version) → ⊥)
    × (Reads row (Err NotFinite) → ⊥)
    × ((o : Offset) → Reads (minus_row 0) (Ok o) → ⊥)
    × ((o : Offset) → Reads (minus_row 1) (Ok o) → ⊥)
    × ((o : Offset) → Reads (minus_row 2) (Ok o) → ⊥)
unfolding refusal_of record_checks has_mark vector_at storable_vector storable is_minus_zero of_bits
of_read_offset = (
  λ h. unlike 0 11 refl (ap mounting_in h.exact),
  λ h. let e = h.number in omega arith,
  λ h. let e = h.number in omega arith,
  λ h. let e = h.number in omega arith,
  λ h. let e = h.number in omega arith,
  λ o h. let e = h.number in omega arith,
  λ o h. let e = h.number in omega arith,
  λ o h. let e = h.number in omega arith,
)

abbrev blank : List ℕ
blank = 0 ∷ 0 ∷ 0 ∷ 0 ∷ 0 ∷ 0 ∷ 0 ∷ 0 ∷ 0 ∷ 0 ∷ 0 ∷ 0 ∷ 0 ∷ 0 ∷ 0 ∷ 0 ∷ 0 ∷ 0 ∷ []

abbrev zeros : Float → Offset
zeros x = record { mounting = 0; vector = vector x nought nought }

abbrev twenty_four : Offset
twenty_four = record { mounting = 24; vector = row_offset.vector }

-- nothing written; a refused call that writes; an infinity taken; mounting 24 written; a minus zero written as it stands; a minus zero refused
pub of_write_offset
    : (Writes row_offset blank blank 0 → ⊥)
    × (Writes (zeros (inf false)) blank row 5 → ⊥)
    × (Writes (zeros (inf false)) blank blank 0 → ⊥)
    × (Writes twenty_four blank (record_of twenty_four) 0 → ⊥)
    × (Writes (zeros minus_nought) blank (minus_row 0) 0 → ⊥)
    × (Writes (zeros minus_nought) blank blank 5 → ⊥)
unfolding refusal_of record_of plain finite_vector to_bits
of_write_offset = (
  λ h. unlike 0 0x47 refl (ap (λ (l : List ℕ). get_or l 0 0) h.holds),
  λ h. unlike 0x47 0 refl (ap (λ (l : List ℕ). get_or l 0 0) h.holds),
  λ h. let e = h.number in omega arith,
  λ h. let e = h.number in omega arith,
  λ h. unlike 0x80 0 refl (ap (λ (l : List ℕ). get_or l 9 0) h.holds),
  λ h. let e = h.number in omega arith,
)

-- by a number, 0 of no refusal
abbrev gives : Bias → ℕ → Change Bias
gives b n = record { state = b; result = accepted n (Ok tt) (Err (refusal_at n)) }

-- 1 for a number with a minus sign
abbrev minus : Float → ℕ
minus nan = 0
minus (inf s) = 0
minus (fin s m e) = cond s 1 0

-- the offset as it was recorded; the recorded mounting applied, not undone; the timer cleared; a refused call that restores;
-- the turning's sign lost on a zero; a minus zero taken, whatever is left
pub of_restore
    : (Restores running row 0 (gives (with_offset running (vector one minus_two half)) 0) → ⊥)
    × (Restores running row 0 (gives (with_offset running (vector minus_two half one)) 0) → ⊥)
    × (Restores running row 0 (gives (with_offset (with_timer running 0) (vector half one minus_two)) 0) → ⊥)
    × (Restores running row 24 (gives (with_offset running (vector half one minus_two)) 4) → ⊥)
    × (Restores running zero_row 2 (gives (with_offset running (vector nought nought nought)) 0) → ⊥)
    × ((b : Bias) → Restores running (minus_row 1) 0 (gives b 0) → ⊥)
unfolding refusal_of record_checks has_mark vector_at storable_vector storable is_minus_zero of_bits
    finite_vector finite_bias finite_settings reframed_of inverse_of compose_of first same name_of mounting_of neg
of_restore = (
  λ h. unlike 1 0 refl (ap (λ (b : Bias). minus b.offset.y) h.holds),
  λ h. unlike 1 0 refl (ap (λ (b : Bias). minus b.offset.x) h.holds),
  λ h. unlike 0 7 refl (ap (λ (b : Bias). b.timer) h.holds),
  λ h. unlike 1 0 refl (ap (λ (b : Bias). minus b.offset.z) h.holds),
  λ h. unlike 0 1 refl (ap (λ (b : Bias). minus b.offset.y) h.holds),
  λ b h. let e = h.number in omega arith,
)
