-- What was written is restored with plus zeros, turned; and saved again in its frame it gives the same bytes. Assumes nothing.
use mathlib.Core.Path.{refl, ap, sym, ◌∙◌}
use Prim.Native.Nat.{ℕ}
use mathlib.Core.List.{List}
use lib.ListN.{length}
use Rattle.answer.proofs.Answering.{is_new}
use Rattle.remap.proofs.Composing.{undone}
use Rattle.offset.specs.declared.Offset.{Offset}
use Rattle.offset.specs.Record.{mounting_at, vector_at}
use Rattle.offset.specs.OneRecord.{plain_vector}
use Rattle.offset.specs.Restore.{reframed_of, restore_checks, WrittenRestored, SavedAgain}
use Rattle.offset.proofs.Accepting.{writable}
use Rattle.offset.proofs.ReadWritten.{same_offset}
use Rattle.offset.proofs.OneRecord.{same_record, with_plus_zeros}
use Rattle.offset.proofs.Once.{restored_offset}

pub written_restored : WrittenRestored
written_restored o b s after m r f w p z =
    let there = is_new _ _ w.holds (sym w.number) in
    restored_offset restore_checks b after m r p z
    ∙ ap (λ (t : List ℕ). reframed_of (vector_at t) (mounting_at t) m) there
    ∙ ap (λ (q : Offset). reframed_of q.vector q.mounting m) (same_offset o f)

pub saved_again : SavedAgain
unfolding reframed_of
saved_again v m b s saved t again r f w p z u =
    let o : Offset = record { mounting = m; vector = v } in
    let back = (undone m (plain_vector v) (writable o (length s) (sym w.number)).mounting).2 in
    let same = with_plus_zeros o (record { mounting = m; vector = r.state.offset }) refl (written_restored o b s saved m r f w p z ∙ back) in
    is_new _ _ u.holds (sym u.number) ∙ same_record _ o same ∙ sym (is_new _ _ w.holds (sym w.number))
