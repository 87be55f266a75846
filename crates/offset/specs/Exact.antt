-- 01, "The refusal table": of every call here each number is given exactly when its row says.
use Rattle.std.specs.Prelude.{ℕ, Bool, List}
use Rattle.answer.specs.Refusals.{Exactly}
use Rattle.bias.specs.declared.Bias.{Bias}
use Rattle.offset.specs.declared.Offset.{Offset}
use Rattle.offset.specs.Record.{record_checks, read_checks, write_checks}
use Rattle.offset.specs.Restore.{restore_checks}

pub record ExactlyWhen : Type 0 where
  -- a record of whatever length and version, by its result and by its number
  pub check_record : (size version : ℕ) (s : List ℕ) (m : ℕ) (f : Bool) → Exactly (record_checks size version s m f)
  pub record_refusal : (size version : ℕ) (s : List ℕ) (m : ℕ) (f : Bool) → Exactly (record_checks size version s m f)
  pub write_offset : (o : Offset) (room : ℕ) → Exactly (write_checks o room)
  pub read_offset : (s : List ℕ) → Exactly (read_checks s)
  pub restore : (b : Bias) (s : List ℕ) (m : ℕ) → Exactly (restore_checks b s m)
