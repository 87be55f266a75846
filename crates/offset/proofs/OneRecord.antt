-- One offset, as numbers, and mounting have one record: `SameBytes`, `SameNumbers` and `OneRecord` hold. Assumes nothing.
use Prim.Native.Nat.{ℕ, zero, suc, ◌/◌, ◌%◌, ◌<◌}
use native.Mathlib.Omega.{arith}
use mathlib.Core.Path.{◌≡◌, refl, ap, sym, ◌∙◌}
use mathlib.Core.Bool.{true}
use mathlib.Core.List.{List, [], ◌∷◌, ◌++◌}
use lib.Dec.{T}
use lib.ListN.{length}
use lib.Ieee.{Float, binary32, fits}
use lib.Ieee.Bits.{to_bits-lt}
use Rattle.answer.specs.Said.{alone}
use Rattle.answer.specs.Refusals.{refusal_of}
use Rattle.answer.proofs.Tests.{three}
use Rattle.answer.proofs.Answering.{gives_result, is_new}
use Rattle.number.specs.Same.{plain}
use Rattle.number.proofs.Same.{same_finite}
use Rattle.number.proofs.Plain.{plain_fits, plain_plain}
use Rattle.vector.specs.declared.Vector.{Vector}
use Rattle.vector.specs.Vectors.{Singles, finite_vector}
use Rattle.wire.specs.Wire.{bits_of}
use Rattle.offset.specs.declared.Offset.{Offset}
use Rattle.offset.specs.Record.{offset_at, bytes_of, float_bytes, record_of, write_checks}
use Rattle.offset.specs.OneRecord.{Bytes, plain_vector, SameOffset, Holds, SameBytes, SameNumbers, OneRecord}
use Rattle.offset.proofs.Accepting.{good_passes}
use Rattle.offset.proofs.ReadWritten.{same_offset, written_good}
use Rattle.offset.proofs.WrittenRead.{record_back, read_good, read_offset}

-- ---- the same numbers, the same bytes

module _ (o p : Offset) (e : SameOffset o p) where
  pub same_record : record_of o ≡ record_of p
  unfolding record_of
  same_record = rw (e.mounting, e.x.number, e.y.number, e.z.number)

  same_finites : finite_vector o.vector ≡ finite_vector p.vector
  unfolding finite_vector
  same_finites = three (same_finite e.x) (same_finite e.y) (same_finite e.z)

  same_refusal : (room : ℕ) → refusal_of (write_checks o room) ≡ refusal_of (write_checks p room)
  same_refusal room = rw (e.mounting, same_finites)

pub same_bytes : SameBytes
same_bytes o p e s t after also n k l w u =
    let q = ap (λ (room : ℕ). refusal_of (write_checks o room)) l ∙ same_refusal o p e (length t) in (
      w.number ∙ q ∙ sym u.number,
      λ z.
          let y = sym w.number ∙ z in
          is_new _ _ w.holds y ∙ same_record o p e ∙ sym (is_new _ _ u.holds (sym q ∙ y)),
    )

-- an offset with plus zeros is the same
pub with_plus_zeros : (o p : Offset) → p.mounting ≡ o.mounting → p.vector ≡ plain_vector o.vector → SameOffset p o
with_plus_zeros o p m e =
    record {
      mounting = m;
      x = record { number = ap (λ (v : Vector). plain v.x) e ∙ plain_plain o.vector.x };
      y = record { number = ap (λ (v : Vector). plain v.y) e ∙ plain_plain o.vector.y };
      z = record { number = ap (λ (v : Vector). plain v.z) e ∙ plain_plain o.vector.z };
    }

-- ---- and the other way round

pub same_numbers : SameNumbers
same_numbers o p f g s t after w u =
    let one : record_of o ≡ record_of p = sym (is_new _ _ w.holds (sym w.number)) ∙ is_new _ _ u.holds (sym u.number) in
    let same = sym (same_offset o f) ∙ ap offset_at one ∙ same_offset p g in
    record {
      mounting = ap (λ (q : Offset). q.mounting) same;
      x = record { number = ap (λ (q : Offset). q.vector.x) same };
      y = record { number = ap (λ (q : Offset). q.vector.y) same };
      z = record { number = ap (λ (q : Offset). q.vector.z) same };
    }

-- ---- what is written are bytes

data Each : List ℕ → Type 0 where
  none : Each []
  byte : (b : ℕ) {s : List ℕ} → b < 256 → Each s → Each (b ∷ s)

each_is : {s : List ℕ} → Each s → Bytes s
each_is none i = omega arith
each_is (byte b h k) zero = h
each_is (byte b h k) (suc i) = each_is k i

each_append : {s t : List ℕ} → Each s → Each t → Each (s ++ t)
each_append none k = k
each_append (byte b h j) k = byte b h (each_append j k)

each_four : (n : ℕ) → n < 4294967296 → Each (bytes_of n)
each_four n h =
    byte (n % 256) (omega arith) (byte (n / 256 % 256) (omega arith) (byte (n / 65536 % 256) (omega arith) (byte (n / 16777216) (omega arith) none)))

each_float : (x : Float) → T (fits binary32 x) → Each (float_bytes x)
each_float x t = each_four (bits_of (plain x)) (to_bits-lt binary32 (plain x) (plain_fits binary32 x t))

-- ---- exactly one

module _ (o : Offset) (f : Singles o.vector) (m : o.mounting < 24) where
  are_bytes : Bytes (record_of o)
  unfolding record_of
  are_bytes =
      let x = each_float o.vector.x f.x in
      let y = each_float o.vector.y f.y in
      let floats = each_append (each_append x y) (each_float o.vector.z f.z) in
      let version = byte 0x01 (omega arith) (byte 0x00 (omega arith) (byte o.mounting (omega arith) floats)) in
      each_is (byte 0x47 (omega arith) (byte 0x4F (omega arith) (byte 0x46 (omega arith) version)))

  holds : finite_vector o.vector ≡ true → Holds (record_of o) o
  holds e =
      let z = good_passes _ _ (record_of o) 0 true (written_good o f m e) in
      let same = same_offset o f in (
        offset_at (record_of o),
        gives_result alone _ _ (sym z) refl,
        with_plus_zeros o (offset_at (record_of o)) (ap (λ (q : Offset). q.mounting) same) (ap (λ (q : Offset). q.vector) same),
      )

-- a record that holds the offset is the one that is written
the_record : (o : Offset) (t : List ℕ) → Bytes t → Holds t o → t ≡ record_of o
the_record o t b (p, r, e) = sym (record_back t b (read_good t p r)) ∙ ap record_of (sym (read_offset t p r)) ∙ same_record p o e

pub one_record : OneRecord
one_record o f m e = (record_of o, are_bytes o f m, holds o f m e, the_record o)
