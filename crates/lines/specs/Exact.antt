-- 01, "The refusal table", and "What we will read in the promises": each number is given exactly when its row says, and a result is the only one.
use Rattle.std.specs.Prelude.{ℕ, List}
use Rattle.answer.specs.Refusals.{Exactly}
use Rattle.answer.specs.Promises.{OneLent}
use Rattle.lines.specs.declared.Line.{Line}
use Rattle.lines.specs.Rule.{line_checks}
use Rattle.lines.specs.Feeding.{feed_checks, last_checks, PartFed, LastFed}

pub record ExactlyWhen : Type 0 where
  pub line : (n : ℕ) (s : List ℕ) → Exactly (line_checks n s)
  pub feed : (part out : List ℕ) → Exactly (feed_checks part out)
  pub last : (out : List ℕ) → Exactly (last_checks out)

-- two results that both satisfy the promise are the same, and leave the same in the lent slice
pub record Determined : Type 0 where
  pub feed : (l : Line) (part old : List ℕ) → OneLent (PartFed l part old)
  pub last : (l : Line) (old : List ℕ) → OneLent (LastFed l old)
