-- 02's P8: an old reader shown version 2 answers 1 and shows no offset. It is left as it is.
use Rattle.std.specs.Prelude.{ℕ, ◌≡◌, List, length}
use Rattle.bias.specs.declared.Bias.{Bias}
use Rattle.answer.specs.declared.change.Change.{Change}
use Rattle.std.specs.declared.result.Result.{Result}
use Rattle.std.specs.declared.result.Result.TheVariants.{Err}
use Rattle.answer.specs.declared.refusal.Refusal.{Refusal}
use Rattle.answer.specs.declared.refusal.Refusal.TheVariants.{Length}
use Rattle.offset.specs.declared.Offset.{Offset}
use Rattle.offset.specs.Record.{Reads}
use Rattle.offset.specs.Restore.{Restores}
use Rattle.editions.specs.Edition.{second}

-- whatever the 34 bytes are
pub record OldReader (s : List ℕ) : Type 0 where
  pub reads : (r : Result Offset Refusal) → Reads s r → r ≡ Err Length
  pub restores : (b : Bias) (m : ℕ) (r : Change Bias) → Restores b s m r → r ≡ record { state = b; result = Err Length }

abbrev pub ShownTheSecond : Type 0
ShownTheSecond = (s : List ℕ) → length s ≡ second.layout.size → OldReader s
