-- What an accepted record has, and that this is all it needs; and what an accepted write has. Assumes nothing.
use Prim.Native.Nat.{ℕ, ◌<◌}
use native.Mathlib.Omega.{arith}
use mathlib.Core.Path.{◌≡◌, ap, ap₂, ◌∙◌}
use mathlib.Core.Bool.{Bool, true, not, ◌&&◌, ◌||◌}
use mathlib.Core.List.{List, []}
use lib.Dec.{ltb, eqb}
use lib.ListN.{length}
use borrow.Author.Tests.{eqb-true, ltb-false, le-ltb}
use Rattle.answer.specs.Refusals.{refusal_of}
use Rattle.answer.proofs.Tests.{agrees, differs, both, neither}
use Rattle.answer.proofs.Answering.{fails, passes, all_pass, passed, unfailed}
use Rattle.vector.specs.Vectors.{finite_vector}
use Rattle.wire.specs.Wire.{u16_at}
use Rattle.offset.specs.declared.Offset.{Offset}
use Rattle.offset.specs.Record.{has_mark, mounting_at, storable_vector, vector_at, record_checks, write_checks}

-- n and v are the record's length and version
pub record Good (n v : ℕ) (s : List ℕ) (m : ℕ) (f : Bool) : Type 0 where
  pub size : length s ≡ n
  pub mark : has_mark s ≡ true
  pub version : u16_at s 3 ≡ v
  pub other : m < 24
  pub mounting : mounting_at s < 24
  pub state : f ≡ true
  pub floats : storable_vector (vector_at s) ≡ true

-- ---- the record's checks all pass exactly where it is good

module _ (n v : ℕ) (s : List ℕ) (m : ℕ) (f : Bool) where
  pub good : refusal_of (record_checks n v s m f) ≡ 0 → Good n v s m f
  unfolding record_checks
  good e =
      let p₁ = passed 0 (eqb (length s) n) _ e in
      let p₂ = passed 1 (has_mark s) _ p₁.1 in
      let p₃ = passed 2 (eqb (u16_at s 3) v) _ p₂.1 in
      let p₄ = unfailed 3 (ltb 23 m || ltb 23 (mounting_at s)) _ p₃.1 in
      let p₅ = passed 4 (f && storable_vector (vector_at s)) _ p₄.1 in
      let numbers = neither (ltb 23 m) (ltb 23 (mounting_at s)) p₄.0 in
      let floats = both f (storable_vector (vector_at s)) p₅.0 in
      record {
        size = eqb-true (length s) n p₁.0;
        mark = p₂.0;
        version = eqb-true (u16_at s 3) v p₃.0;
        other = omega (arith, ltb-false 23 m numbers.0);
        mounting = omega (arith, ltb-false 23 (mounting_at s) numbers.1);
        state = floats.0;
        floats = floats.1;
      }

  pub good_passes : Good n v s m f → refusal_of (record_checks n v s m f) ≡ 0
  unfolding record_checks
  good_passes g =
      passes 1 _ (agrees (length s) n g.size)
      ∙ passes 2 _ (ap not g.mark)
      ∙ passes 3 _ (agrees (u16_at s 3) v g.version)
      ∙ passes 4 _ (rw (le-ltb 23 m (omega (arith, g.other)), le-ltb 23 (mounting_at s) (omega (arith, g.mounting))))
      ∙ passes 5 _ (ap not (ap₂ ◌&&◌ g.state g.floats))
      ∙ all_pass

  pub other_length : (length s ≡ n → ⊥) → refusal_of (record_checks n v s m f) ≡ 1
  unfolding record_checks
  other_length h = fails 1 _ (differs (length s) n h)

-- ---- a write's

pub record Writable (o : Offset) (room : ℕ) : Type 0 where
  pub size : room ≡ 18
  pub mounting : o.mounting < 24
  pub floats : finite_vector o.vector ≡ true

pub writable : (o : Offset) (room : ℕ) → refusal_of (write_checks o room) ≡ 0 → Writable o room
writable o room e =
    let p₁ = passed 0 (eqb room 18) _ e in
    let p₄ = unfailed 3 (ltb 23 o.mounting) _ p₁.1 in
    record {
      size = eqb-true room 18 p₁.0;
      mounting = omega (arith, ltb-false 23 o.mounting p₄.0);
      floats = (passed 4 (finite_vector o.vector) [] p₄.1).0;
    }
