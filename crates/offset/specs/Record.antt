-- 01, "Bias", and 02's P4: the offset record, 18 bytes: `GOF`, a 16-bit version, a mounting byte, three f32, all little-endian; written and read.
-- A zero stands in it with a plus sign.
use Rattle.answer.specs.Said.{alone}
use Rattle.std.specs.Prelude.{ℕ, ◌/◌, ◌%◌, Bool, true, not, ◌&&◌, ◌||◌, List, [], ◌∷◌, ◌++◌, ltb, eqb, length, get_or, Float}
use Rattle.std.specs.Float.Ieee.Scale.{finite}
use Rattle.std.specs.declared.result.Result.{Result}
use Rattle.answer.specs.declared.refusal.Refusal.{Refusal}
use Rattle.answer.specs.Refusals.{Check, check}
use Rattle.answer.specs.Promises.{Results, Changed}
use Rattle.number.specs.Same.{plain, is_minus_zero}
use Rattle.vector.specs.declared.Vector.{Vector}
use Rattle.vector.specs.Vectors.{vector, finite_vector}
use Rattle.wire.specs.Wire.{u16_at, bits_at, float_of, bits_of}
use Rattle.offset.specs.declared.Offset.{Offset}

-- ---- what bytes hold

-- `G`, `O`, `F`
unfoldable pub has_mark : List ℕ → Bool
has_mark s = eqb (get_or s 0 0) 0x47 && eqb (get_or s 1 0) 0x4F && eqb (get_or s 2 0) 0x46

abbrev pub mounting_at : List ℕ → ℕ
mounting_at s = get_or s 5 0

unfoldable pub vector_at : List ℕ → Vector
vector_at s = vector (float_of (bits_at s 6)) (float_of (bits_at s 10)) (float_of (bits_at s 14))

abbrev pub offset_at : List ℕ → Offset
offset_at s = record { mounting = mounting_at s; vector = vector_at s }

-- ---- reading

-- a float that a record may hold: neither NaN, nor infinite, nor minus zero
unfoldable pub storable : Float → Bool
storable x = finite x && not (is_minus_zero x)

unfoldable pub storable_vector : Vector → Bool
storable_vector v = storable v.x && storable v.y && storable v.z

-- the checks of a record that has a length and a version, with one more mounting number, and with whether the floats of a state are finite
unfoldable pub record_checks : ℕ → ℕ → List ℕ → ℕ → Bool → List Check
record_checks size version s m stateFinite =
    check 1 (not (eqb (length s) size)) ∷
    check 2 (not (has_mark s)) ∷
    check 3 (not (eqb (u16_at s 3) version)) ∷
    check 4 (ltb 23 m || ltb 23 (mounting_at s)) ∷
    check 5 (not (stateFinite && storable_vector (vector_at s))) ∷
    []

-- the record of this page: 18 bytes, version 1
abbrev pub record_length : ℕ
record_length = 18

abbrev pub record_version : ℕ
record_version = 1

-- a reading has no other mounting and no state
abbrev pub read_checks : List ℕ → List Check
read_checks s = record_checks record_length record_version s 0 true

abbrev pub Reads : List ℕ → Result Offset Refusal → Type 0
Reads s r = Results alone (read_checks s) (offset_at s) r

-- ---- writing

-- into room for so many bytes; a minus zero is written as any zero
abbrev pub write_checks : Offset → ℕ → List Check
write_checks o room =
    check 1 (not (eqb room record_length)) ∷ check 4 (ltb 23 o.mounting) ∷ check 5 (not (finite_vector o.vector)) ∷ []

-- the four bytes of a pattern
abbrev pub bytes_of : ℕ → List ℕ
bytes_of n = n % 256 ∷ n / 256 % 256 ∷ n / 65536 % 256 ∷ n / 16777216 ∷ []

-- those of a float, with the sign of a zero dropped
abbrev pub float_bytes : Float → List ℕ
float_bytes x = bytes_of (bits_of (plain x))

unfoldable pub record_of : Offset → List ℕ
record_of o =
    0x47 ∷ 0x4F ∷ 0x46 ∷ 0x01 ∷ 0x00 ∷ o.mounting ∷ (float_bytes o.vector.x ++ float_bytes o.vector.y ++ float_bytes o.vector.z)

-- r is the refusal's number, and `after` holds the record, or where it is refused what was there
abbrev pub Writes : Offset → List ℕ → List ℕ → ℕ → Type 0
Writes o s after r = Changed (write_checks o (length s)) (record_of o) s after r
