-- 01, "What we will read in the promises": two results that both satisfy a call's promise are the same, and leave the same in the lent slice.
use Rattle.std.specs.Prelude.{ℕ, List}
use Rattle.answer.specs.Promises.{One, OneLent}
use Rattle.bias.specs.declared.Bias.{Bias}
use Rattle.bias.specs.declared.BiasSettings.{BiasSettings}
use Rattle.editions.specs.Move.{MovesUp, MovesDown}
use Rattle.editions.specs.Restore.{Restores}

pub record Determined : Type 0 where
  pub move_up : (s : List ℕ) (p : BiasSettings) (before : List ℕ) → OneLent (MovesUp s p before)
  pub move_down : (s before : List ℕ) → OneLent (MovesDown s before)
  pub restore : (b : Bias) (s : List ℕ) (m : ℕ) → One (Restores b s m)
