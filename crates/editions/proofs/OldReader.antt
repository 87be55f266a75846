-- The first edition's reader refuses 34 bytes with 1: `ShownTheSecond` holds. Assumes nothing.
use Prim.Native.Nat.{ℕ}
use native.Mathlib.Omega.{arith}
use mathlib.Core.Path.{◌≡◌, ap, ◌∙◌}
use mathlib.Core.Bool.{Bool}
use mathlib.Core.List.{List}
use lib.ListN.{length}
use Rattle.answer.specs.Refusals.{refusal_of, accepted}
use Rattle.std.specs.declared.result.Result.TheVariants.{Ok, Err}
use Rattle.answer.specs.Rows.{refusal_at}
use Rattle.answer.specs.declared.refusal.Refusal.TheVariants.{Length}
use Rattle.answer.proofs.Answering.{same_result}
use Rattle.offset.specs.Record.{offset_at, record_checks}
use Rattle.offset.specs.Restore.{restored_of}
use Rattle.offset.proofs.Accepting.{other_length}
use Rattle.editions.specs.OldReader.{ShownTheSecond}

too_long : (s : List ℕ) (m : ℕ) (f : Bool) → length s ≡ 34 → refusal_of (record_checks 18 1 s m f) ≡ 1
too_long s m f h = other_length 18 1 s m f (λ e. omega arith)

pub shown_the_second : ShownTheSecond
shown_the_second s h =
    record {
      reads = λ r p. p.exact ∙ ap (λ (k : ℕ). accepted k (Ok (offset_at s)) (Err (refusal_at k))) (too_long s 0 _ h);
      restores = λ b m r p.
          let result = same_result r.result (Err Length) (p.number ∙ too_long s m _ h) in
          let state = p.holds ∙ ap (λ (k : ℕ). accepted k (restored_of b s m) b) (too_long s m _ h) in
          λ i. record { state = state i; result = result i };
    }
