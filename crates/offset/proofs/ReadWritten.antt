-- Reading what was written gives the offset with plus zeros: `ReadWritten` holds. Assumes nothing.
use Prim.Native.Nat.{ℕ, ◌<◌}
use native.Mathlib.Omega.{arith}
use mathlib.Core.Path.{◌≡◌, refl, ap, sym, subst, ◌∙◌}
use mathlib.Core.Bool.{true}
use mathlib.Core.List.{List}
use lib.Dec.{T}
use lib.ListN.{length}
use lib.Ieee.{Float, binary32, fits, of_bits, to_bits}
use lib.Ieee.Bits.{of_bits-to_bits}
use Rattle.answer.proofs.Answering.{is_new}
use Rattle.number.specs.Same.{plain}
use Rattle.number.proofs.Plain.{plain_fits}
use Rattle.vector.specs.Vectors.{Singles, finite_vector}
use Rattle.wire.specs.Wire.{bits_of}
use Rattle.wire.proofs.Laws.{digits}
use Rattle.offset.specs.declared.Offset.{Offset}
use Rattle.std.specs.declared.result.Result.TheVariants.{Ok}
use Rattle.offset.specs.Record.{has_mark, storable_vector, vector_at, offset_at, record_of, record_length, record_version, Reads}
use Rattle.offset.specs.OneRecord.{plain_vector, ReadWritten}
use Rattle.offset.proofs.Storable.{storable_plains}
use Rattle.offset.proofs.Accepting.{Good, good_passes, writable}

-- the pattern of a float that an `f32` holds makes it again, without the sign of a zero
back : (x : Float) → T (fits binary32 x) → of_bits binary32 (to_bits binary32 (plain x)) ≡ plain x
back x t = of_bits-to_bits binary32 (plain x) (plain_fits binary32 x t)

module _ (o : Offset) (f : Singles o.vector) where
  pub same_vector : vector_at (record_of o) ≡ plain_vector o.vector
  unfolding record_of vector_at
  same_vector =
      simp (digits (bits_of (plain o.vector.x)), digits (bits_of (plain o.vector.y)), digits (bits_of (plain o.vector.z)))
      (simp (back o.vector.x f.x, back o.vector.y f.y, back o.vector.z f.z))

  pub same_offset : offset_at (record_of o) ≡ record { mounting = o.mounting; vector = plain_vector o.vector }
  unfolding record_of
  same_offset = λ i. record { mounting = o.mounting; vector = same_vector i }

  -- what was written is accepted
  pub written_good : o.mounting < 24 → finite_vector o.vector ≡ true → Good record_length record_version (record_of o) 0 true
  unfolding record_of has_mark
  written_good m e =
      record {
        size = refl;
        mark = refl;
        version = refl;
        other = omega arith;
        mounting = m;
        state = refl;
        floats = ap storable_vector same_vector ∙ storable_plains o.vector ∙ e;
      }

pub read_written : ReadWritten
read_written o s after r f w e =
    let there : after ≡ record_of o = is_new _ _ w.holds (sym w.number) in
    let e' = subst (λ (t : List ℕ). Reads t r) there e in
    let writes = writable o (length s) (sym w.number) in
    let z = good_passes _ _ (record_of o) 0 true (written_good o f writes.mounting writes.floats) in
    is_new _ _ e'.exact z ∙ ap Ok (same_offset o f)
