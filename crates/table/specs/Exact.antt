-- 01, "What we will read in the promises", of a party's calls: each number is given exactly when its row says, and a result is the only one.
use Rattle.std.specs.Prelude.{ℕ, Bool}
use Rattle.answer.specs.Refusals.{Exactly}
use Rattle.answer.specs.Order.{InOrder}
use Rattle.answer.specs.Promises.{One, OneLent}
use Rattle.settings.specs.declared.Settings.{Settings}
use Rattle.table.specs.declared.Table.{Table}
use Rattle.table.specs.declared.Party.{Party}
use Rattle.table.specs.declared.foot.Foot.{Foot}
use Rattle.table.specs.declared.foot.Side.{Side}
use Rattle.table.specs.Calls.{Starts, choose_checks, Chosen, Chooses, rewrite_checks, Resettles, Rewrites}
use Rattle.table.specs.Sides.{FootChooses, FootRewrites}

-- a start's are the filter's own
pub record ExactlyWhen : Type 0 where
  pub choose : (p : Party) (row : ℕ) (s : Settings) → Exactly (choose_checks p row s)
  -- 10 stands before 5
  pub rewrite : (p : Party) (shared : Bool) (s : Settings) → InOrder (rewrite_checks p shared s)

pub record Determined : Type 0 where
  pub start : (row : ℕ) (s : Settings) → One (Starts row s)
  pub choose : (s : Settings) (p : Party) (row : ℕ) → One (Chosen s p row)
  pub choose_lent : (t : Table) (p : Party) (row : ℕ) → One (Chooses t p row)
  pub rewrite : (o : ℕ) (p : Party) (s : Settings) → One (Resettles o p s)
  -- the lent table afterwards, and the answer
  pub rewrite_lent : (t : Table) (o : ℕ) (p : Party) (s : Settings) → OneLent (Rewrites t o p s)
  -- by the side of a foot, and by an owner, who promises the same
  pub foot_choose : (t : Table) (f : Foot) (side : Side) (row : ℕ) → One (FootChooses t f side row)
  pub foot_rewrite : (t : Table) (f : Foot) (side : Side) (s : Settings) → OneLent (FootRewrites t f side s)
