-- 01, "What we will read in the promises": two results that both satisfy a call's promise are the same, and leave the same in the lent slice.
use Rattle.std.specs.Prelude.{ℕ, List}
use Rattle.answer.specs.Promises.{One, OneLent}
use Rattle.bias.specs.declared.Bias.{Bias}
use Rattle.offset.specs.declared.Offset.{Offset}
use Rattle.offset.specs.Record.{Reads, Writes}
use Rattle.offset.specs.Restore.{Restores}

pub record Determined : Type 0 where
  pub read_offset : (s : List ℕ) → One (Reads s)
  pub write_offset : (o : Offset) (s : List ℕ) → OneLent (Writes o s)
  pub restore : (b : Bias) (s : List ℕ) (m : ℕ) → One (Restores b s m)
