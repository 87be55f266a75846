-- Writing what was read gives the bytes again: `WrittenRead` holds. Assumes nothing.
use Prim.Native.Nat.{ℕ, ◌+◌, ◌*◌, ◌/◌, ◌%◌, ◌<◌}
use native.Mathlib.Omega.{arith}
use mathlib.Core.Path.{◌≡◌, ap, sym, ◌∙◌}
use mathlib.Core.Bool.{true, not}
use mathlib.Core.List.{List, [], ◌∷◌}
use lib.Dec.{eqb}
use lib.ListN.{length, get_or}
use lib.Ieee.{Float, binary32}
use lib.Ieee.Bits.{to_bits-of_bits}
use lib.Ieee.Scale.{finite}
use denote.Floats.{passes as true-T}
use borrow.Author.Tests.{eqb-true, le-ltb}
use Rattle.answer.proofs.Tests.{agrees, all_three}
use Rattle.answer.specs.Refusals.{refusal_of}
use Rattle.answer.proofs.Answering.{passes, all_pass, is_new}
use Rattle.wire.specs.Wire.{bits_at, float_of, bits_of}
use Rattle.wire.proofs.Laws.{finite_no_nan, spell, spelled}
use Rattle.offset.specs.declared.Offset.{Offset}
use Rattle.std.specs.declared.result.Result.TheVariants.{Ok}
use Rattle.answer.specs.declared.refusal.Refusal.{Refusal}
use Rattle.std.specs.declared.result.Result.{Result}
use Rattle.offset.specs.Record.{has_mark, mounting_at, vector_at, offset_at, storable, storable_vector, Reads}
use Rattle.offset.specs.Record.{record_length, record_version, write_checks, bytes_of, float_bytes, record_of}
use Rattle.offset.specs.OneRecord.{Bytes, WrittenRead}
use Rattle.offset.proofs.Storable.{storable_finite, storable_finites, storable_stays}
use Rattle.offset.proofs.Accepting.{Good, good}

-- four bytes are those of the pattern that they make
bytes_back : (a b c d : ℕ) → a < 256 → b < 256 → c < 256 → d < 256 → bytes_of (a + 256 * b + 65536 * c + 16777216 * d) ≡ a ∷ b ∷ c ∷ d ∷ []
bytes_back a b c d ha hb hc hd =
    let n = a + 256 * b + 65536 * c + 16777216 * d in
    let ea : n % 256 ≡ a = omega arith in
    let qb : n / 256 ≡ b + 256 * (c + 256 * d) = omega arith in
    let rb : (b + 256 * (c + 256 * d)) % 256 ≡ b = omega arith in
    let qc : n / 65536 ≡ c + 256 * d = omega arith in
    let rc : (c + 256 * d) % 256 ≡ c = omega arith in
    let eb : n / 256 % 256 ≡ b = rw qb rb in
    let ec : n / 65536 % 256 ≡ c = rw qc rc in
    let ed : n / 16777216 ≡ d = omega arith in
    cc

module _ (s : List ℕ) (bytes : Bytes s) where
  -- so are the four bytes at a place those of the float that they make, where it is finite
  pub pattern_back : (at : ℕ) → finite (float_of (bits_at s at)) ≡ true
      → bytes_of (bits_of (float_of (bits_at s at))) ≡ get_or s at 0 ∷ get_or s (at + 1) 0 ∷ get_or s (at + 2) 0 ∷ get_or s (at + 3) 0 ∷ []
  pattern_back at e =
      let n = bits_at s at in
      let whole = finite_no_nan (float_of n) (true-T _ e) in
      ap bytes_of (to_bits-of_bits binary32 n (omega (arith, bytes at, bytes (at + 1), bytes (at + 2), bytes (at + 3))) whole)
      ∙ bytes_back (get_or s at 0) _ _ _ (bytes at) (bytes (at + 1)) (bytes (at + 2)) (bytes (at + 3))

  -- and without the sign of a zero, where a record may hold it
  float_back : (at : ℕ) → storable (float_of (bits_at s at)) ≡ true
      → float_bytes (float_of (bits_at s at)) ≡ get_or s at 0 ∷ get_or s (at + 1) 0 ∷ get_or s (at + 2) 0 ∷ get_or s (at + 3) 0 ∷ []
  float_back at e =
      let x = float_of (bits_at s at) in
      ap (λ (y : Float). bytes_of (bits_of y)) (storable_stays x e) ∙ pattern_back at (storable_finite x e)

  pub record_back : Good record_length record_version s 0 true → record_of (offset_at s) ≡ s
  unfolding record_of has_mark vector_at storable_vector
  record_back g =
      let m = all_three (eqb (get_or s 0 0) 0x47) (eqb (get_or s 1 0) 0x4F) (eqb (get_or s 2 0) 0x46) g.mark in
      let f = all_three (storable (float_of (bits_at s 6))) (storable (float_of (bits_at s 10))) (storable (float_of (bits_at s 14))) g.floats in
      let e₀ = eqb-true (get_or s 0 0) 0x47 m.0 in
      let e₁ = eqb-true (get_or s 1 0) 0x4F m.1 in
      let e₂ = eqb-true (get_or s 2 0) 0x46 m.2 in
      let e₃ : get_or s 3 0 ≡ 1 = omega (arith, bytes 3, g.version) in
      let e₄ : get_or s 4 0 ≡ 0 = omega (arith, bytes 3, g.version) in
      let x = float_back 6 f.0 in
      let y = float_back 10 f.1 in
      let z = float_back 14 f.2 in
      let spelt : record_of (offset_at s) ≡ spell 18 s 0 = cc in
      spelt ∙ sym (spelled 18 s 0 g.size)

-- what was read is accepted
read_passes : (s : List ℕ) (room : ℕ) → Good record_length record_version s 0 true → room ≡ record_length → refusal_of (write_checks (offset_at s) room) ≡ 0
read_passes s room g h =
    passes 1 _ (agrees room record_length h)
    ∙ passes 4 _ (le-ltb 23 (mounting_at s) (omega (arith, g.mounting)))
    ∙ passes 5 _ (ap not (storable_finites (vector_at s) g.floats))
    ∙ all_pass

module _ (s : List ℕ) (o : Offset) (e : Reads s (Ok o)) where
  pub read_good : Good record_length record_version s 0 true
  read_good = good _ _ s 0 true (sym e.number)

  pub read_offset : o ≡ offset_at s
  read_offset = let q : ◌≡◌ {A = Result Offset Refusal} (Ok o) (Ok (offset_at s)) = is_new _ _ e.exact (sym e.number) in cc

pub written_read : WrittenRead
written_read s before after o n bytes h e w =
    let g = read_good s o e in
    let r = read_offset s o e in
    let z = ap (λ (p : Offset). refusal_of (write_checks p (length before))) r ∙ read_passes s (length before) g h in
    (w.number ∙ z, is_new _ _ w.holds z ∙ ap record_of r ∙ record_back s bytes g)
