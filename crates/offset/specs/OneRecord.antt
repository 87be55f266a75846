-- 02's P4: one offset, as numbers, and mounting have one record, and equal records mean equal offsets. What was written is read with plus zeros,
-- and what was read is written as it was.
use Rattle.std.specs.Prelude.{ℕ, ◌<◌, ◌≡◌, true, List, length, get_or}
use Rattle.std.specs.declared.result.Result.{Result}
use Rattle.std.specs.declared.result.Result.TheVariants.{Ok}
use Rattle.answer.specs.declared.refusal.Refusal.{Refusal}
use Rattle.number.specs.Same.{plain, Same}
use Rattle.vector.specs.declared.Vector.{Vector}
use Rattle.vector.specs.Vectors.{Singles, vector, finite_vector}
use Rattle.offset.specs.declared.Offset.{Offset}
use Rattle.offset.specs.Record.{record_length, Reads, Writes}

-- a list of bytes, as every `&[u8]` of the code is
abbrev pub Bytes : List ℕ → Type 0
Bytes s = (i : ℕ) → get_or s i 0 < 256

-- ---- as numbers

-- a minus zero made a plus zero
abbrev pub plain_vector : Vector → Vector
plain_vector v = vector (plain v.x) (plain v.y) (plain v.z)

-- the same mounting, and the same numbers, zero's sign aside
pub record SameOffset (o p : Offset) : Type 0 where
  pub mounting : o.mounting ≡ p.mounting
  pub x : Same o.vector.x p.vector.x
  pub y : Same o.vector.y p.vector.y
  pub z : Same o.vector.z p.vector.z

-- s is accepted, and holds o as numbers
abbrev pub Holds : List ℕ → Offset → Type 0
Holds s o = (p : Offset) × Reads s (Ok p) × SameOffset p o

-- ---- one record

-- two offsets that are the same are both written as the same bytes, or both refused with the same number
abbrev pub SameBytes : Type 0
SameBytes =
    (o p : Offset) → SameOffset o p → (s t after also : List ℕ) (n k : ℕ) → length s ≡ length t
    → Writes o s after n → Writes p t also k → (n ≡ k) × (n ≡ 0 → after ≡ also)

-- two offsets that are written as the same bytes are the same
abbrev pub SameNumbers : Type 0
SameNumbers =
    (o p : Offset) → Singles o.vector → Singles p.vector → (s t after : List ℕ) → Writes o s after 0 → Writes p t after 0 → SameOffset o p

-- every finite offset, as numbers, and mounting has exactly one record that is accepted
abbrev pub OneRecord : Type 0
OneRecord =
    (o : Offset) → Singles o.vector → o.mounting < 24 → finite_vector o.vector ≡ true
    → (s : List ℕ) × Bytes s × Holds s o × ((t : List ℕ) → Bytes t → Holds t o → t ≡ s)

-- ---- there and back

-- whatever offset a call has written, a call that reads the buffer gives back with plus zeros
abbrev pub ReadWritten : Type 0
ReadWritten =
    (o : Offset) (s after : List ℕ) (r : Result Offset Refusal) → Singles o.vector
    → Writes o s after 0 → Reads after r → r ≡ Ok (record { mounting = o.mounting; vector = plain_vector o.vector })

-- whatever offset a call has read, a call that writes it where it has room writes the bytes that were read
abbrev pub WrittenRead : Type 0
WrittenRead =
    (s before after : List ℕ) (o : Offset) (n : ℕ) → Bytes s → length before ≡ record_length
    → Reads s (Ok o) → Writes o before after n → (n ≡ 0) × (after ≡ s)
