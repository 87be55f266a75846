-- 01, "The refusal table": of every call here each number is given exactly when its row says.
use Rattle.std.specs.Prelude.{ℕ, List}
use Rattle.answer.specs.Refusals.{Exactly}
use Rattle.bias.specs.declared.Bias.{Bias}
use Rattle.bias.specs.declared.BiasSettings.{BiasSettings}
use Rattle.editions.specs.Move.{up_checks, down_checks}
use Rattle.editions.specs.Restore.{restore_checks}

pub record ExactlyWhen : Type 0 where
  pub move_up : (s : List ℕ) (p : BiasSettings) (room : ℕ) → Exactly (up_checks s p room)
  pub move_down : (s : List ℕ) (room : ℕ) → Exactly (down_checks s room)
  pub restore : (b : Bias) (s : List ℕ) (m : ℕ) → Exactly (restore_checks b s m)
