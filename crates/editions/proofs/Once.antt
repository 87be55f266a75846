-- Twice equals once, a start that is tried again gives the same offset, and nothing else changes: `StillHolds` holds. Assumes nothing.
use Prim.Native.Nat.{ℕ}
use mathlib.Core.Path.{◌≡◌}
use mathlib.Core.List.{List}
use lib.ListN.{length}
use Rattle.answer.specs.Refusals.{refusal_of}
use Rattle.bias.specs.declared.Bias.{Bias}
use Rattle.bias.specs.Estimator.{finite_bias}
use Rattle.offset.specs.Restore.{restored_of}
use Rattle.offset.proofs.Once as offset
use Rattle.editions.specs.Edition.{edition_of}
use Rattle.editions.specs.Restore.{restore_checks, StillHolds}
use Rattle.editions.proofs.Accepting.{sound, sound_passes}

-- the same record is accepted again
accepted_again : (b : Bias) (s : List ℕ) (m : ℕ) → refusal_of (restore_checks b s m) ≡ 0 → refusal_of (restore_checks (restored_of b s m) s m) ≡ 0
accepted_again b s m z =
    let e = edition_of (length s) in
    let g = sound e s m (finite_bias b) z in
    sound_passes e s m _ (record { part = offset.good_again b s m e.layout.size e.layout.version g.part; held = g.held })

pub still_holds : StillHolds
still_holds =
    record {
      once = offset.once_by restore_checks accepted_again;
      retried = offset.retried restore_checks;
      only_the_offset = offset.only_the_offset restore_checks;
    }
