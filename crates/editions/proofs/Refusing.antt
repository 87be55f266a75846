-- The rows of every call ascend, so the law of the refusal table holds of them. Assumes nothing.
use mathlib.Core.Bool.{Bool, true, false, cond}
use mathlib.Core.List.{List}
use Prim.Native.Nat.{ℕ}
use lib.Dec.{T, eqb}
use lib.ListN.{length}
use Rattle.answer.specs.Refusals.{ascends}
use Rattle.answer.proofs.Table.{by_the_table}
use Rattle.bias.specs.Estimator.{finite_bias}
use Rattle.offset.specs.Record.{record_checks}
use Rattle.editions.specs.Edition.{first, second, edition_checks}
use Rattle.editions.specs.Move.{up_checks, down_checks}
use Rattle.editions.specs.Restore.{restore_checks}
use Rattle.editions.specs.Exact.{ExactlyWhen}

-- by either edition
either : (t : Bool) (s : List ℕ) (m : ℕ) (f : Bool) → T (ascends 1 (edition_checks (cond t second first) s m f))
unfolding ascends record_checks
either true s m f = tt
either false s m f = tt

pub exactly_when : ExactlyWhen
unfolding ascends record_checks
exactly_when =
    record {
      move_up = λ s p room. by_the_table (up_checks s p room) tt;
      move_down = λ s room. by_the_table (down_checks s room) tt;
      restore = λ b s m. by_the_table (restore_checks b s m) (either (eqb (length s) 34) s m (finite_bias b));
    }
