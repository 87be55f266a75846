-- A record restores as it did before it was moved, and bytes that are none of the second edition as they did by the first's reader. Assumes nothing.
use Prim.Native.Nat.{ℕ}
use native.Mathlib.Omega.{arith}
use mathlib.Core.Path.{◌≡◌, refl, ap, ap₂, sym, ◌∙◌}
use mathlib.Core.Bool.{Bool, true, not, cond, ◌&&◌, ◌||◌, and-true, or-false}
use mathlib.Core.List.{List, [], ◌∷◌, append-nil}
use lib.Dec.{ltb}
use lib.ListN.{length}
use borrow.Author.Tests.{le-ltb, ne_eqb}
use Rattle.answer.specs.Refusals.{Check, check, refusal_of, accepted}
use Rattle.answer.specs.Promises.{Changed}
use Rattle.answer.proofs.Tests.{agrees}
use Rattle.answer.proofs.Answering.{passes}
use Rattle.bias.specs.declared.Bias.{Bias}
use Rattle.answer.specs.declared.change.Change.{Change}
use Rattle.answer.specs.Rows.{number_in}
use Rattle.answer.proofs.Answering.{same_result}
use Rattle.bias.specs.Estimator.{finite_bias}
use Rattle.wire.specs.Wire.{u16_at}
use Rattle.offset.specs.Record.{mounting_at, vector_at, storable_vector, record_checks}
use Rattle.editions.specs.declared.Edition.{Edition}
use Rattle.editions.specs.Edition.{first, second, edition_of, held_checks, edition_checks}
use Rattle.editions.specs.Restore.{restore_checks, AsBefore, SameOnceMoved}
use Rattle.editions.proofs.Part.{same_restored}
use Rattle.editions.proofs.Accepting.{Sound}
use Rattle.editions.proofs.Moved.{up_first, up_front, up_sound, down_second, down_front, down_sound}

-- ---- two changes that are the same

same_change : {cs ds : List Check} {new also b : Bias} (r q : Change Bias) → refusal_of cs ≡ refusal_of ds → new ≡ also
    → Changed cs new b r.state (number_in r.result) → Changed ds also b q.state (number_in q.result) → r ≡ q
same_change {b = b} r q e f h k =
    let result = same_result r.result q.result (h.number ∙ e ∙ sym k.number) in
    let state = h.holds ∙ ap₂ (λ (n : ℕ) (x : Bias). accepted n x b) e f ∙ sym k.holds in
    λ i. record { state = state i; result = result i }

-- ---- of a sound record only the other mounting and the state are left to refuse

abbrev left : ℕ → Bool → List Check
left m f = check 4 (ltb 23 m) ∷ check 5 (not f) ∷ []

module _ (e : Edition) (s : List ℕ) (m : ℕ) (f : Bool) (g : Sound e s 0 true) where
  last : refusal_of (check 4 (ltb 23 m || ltb 23 (mounting_at s)) ∷ check 5 (not (f && storable_vector (vector_at s))) ∷ held_checks e s)
      ≡ refusal_of (left m f)
  unfolding refusal_of
  last = rw (le-ltb 23 (mounting_at s) (omega (arith, g.part.mounting)), g.part.floats, g.held, or-false (ltb 23 m), and-true f)

  settled : refusal_of (edition_checks e s m f) ≡ refusal_of (left m f)
  unfolding record_checks
  settled =
      passes 1 _ (agrees (length s) e.layout.size g.part.size)
      ∙ passes 2 _ (ap not g.part.mark)
      ∙ passes 3 _ (agrees (u16_at s 3) e.layout.version g.part.version)
      ∙ last

-- ---- moved

-- a record is held to the edition that it is of
held_to : (e : Edition) (n : ℕ) → n ≡ e.layout.size → edition_of e.layout.size ≡ e → edition_of n ≡ e
held_to e n h k = ap edition_of h ∙ k

module _ (e d : Edition) (ke : edition_of e.layout.size ≡ e) (kd : edition_of d.layout.size ≡ d) (s t : List ℕ) (g : Sound e s 0 true) (h : Sound d t 0 true) where
  same_number : (b : Bias) (m : ℕ) → refusal_of (restore_checks b t m) ≡ refusal_of (restore_checks b s m)
  same_number b m =
      let f = finite_bias b in
      ap (λ (x : Edition). refusal_of (edition_checks x t m f)) (held_to d (length t) h.part.size kd)
      ∙ settled d t m f h
      ∙ sym (settled e s m f g)
      ∙ ap (λ (x : Edition). refusal_of (edition_checks x s m f)) (sym (held_to e (length s) g.part.size ke))

pub same_once_moved : SameOnceMoved
same_once_moved =
    record {
      up = λ s p t after b m r moved f w q k.
          same_change moved r (same_number first second refl refl s after (up_first s p t after w) (up_sound s p t after w f) b m)
          (same_restored 2 s _ (up_front s p t after w) b m) k q;
      down = λ s t after b m r moved w q k.
          same_change moved r (same_number second first refl refl s after (down_second s t after w) (down_sound s t after w) b m)
          (same_restored 1 s _ (down_front s t after w) b m) k q;
    }

-- ---- of the first edition, or of none

pub as_before : AsBefore
as_before b s m r old h p q =
    let f = finite_bias b in
    let held = ap (λ (t : Bool). edition_checks (cond t second first) s m f) (ne_eqb (length s) 34 h) ∙ append-nil (record_checks 18 1 s m f) in
    same_change r old (ap refusal_of held) refl p q
