-- 02, P12: both parties in the foot, and a choice or a rewrite by one of them: the other is as it was.
use Rattle.std.specs.Prelude.{ℕ, ◌≡◌}
use Rattle.answer.specs.declared.change.Change.{Change}
use Rattle.answer.specs.Rows.{number_in}
use Rattle.answer.specs.Promises.{Changed}
use Rattle.settings.specs.declared.Settings.{Settings}
use Rattle.ahrs.specs.declared.Ahrs.{Ahrs}
use Rattle.table.specs.declared.Table.{Table}
use Rattle.table.specs.declared.Party.{Party}
use Rattle.table.specs.declared.foot.Foot.{Foot}
use Rattle.table.specs.declared.foot.Side.{Side}
use Rattle.table.specs.declared.foot.Side.TheVariants.{First, Second}
use Rattle.table.specs.Calls.{party, row_of, settled_of, choose_checks, shared_with, rewrite_checks, rewritten_of}

abbrev pub other : Side → Side
other First = Second
other Second = First

abbrev pub party_of : Side → Foot → Party
party_of First f = f.first
party_of Second f = f.second

-- the row that the other party uses
abbrev pub other_row : Side → Foot → ℕ
other_row side f = (party_of (other side) f).row

-- one party anew
abbrev pub with_party : Side → Party → Foot → Foot
with_party First p f = record { first = p; second = f.second }
with_party Second p f = record { first = f.first; second = p }

-- the filter of one party anew, as a call of its own leaves it
abbrev pub with_filter : Side → Ahrs → Foot → Foot
with_filter side s f = with_party side (party s (party_of side f).row) f

abbrev pub stood_of : Side → Change Party → Foot → Change Foot
stood_of side r f = record { state = with_party side r.state f; result = r.result }

abbrev pub FootChooses : Table → Foot → Side → ℕ → Change Foot → Type 0
FootChooses t f side row r =
    let p = party_of side f in
    Changed (choose_checks p row (row_of t row)) (with_party side (settled_of p (row_of t row) row) f) f r.state (number_in r.result)

-- the row that the other truly uses is the one that is compared
pub record FootRewrites (t : Table) (f : Foot) (side : Side) (s : Settings) (t' : Table) (r : Change Foot) : Type 0 where
  pub settled
      : Changed (rewrite_checks (party_of side f) (shared_with (party_of side f) (other_row side f)) s)
      (with_party side (settled_of (party_of side f) s (party_of side f).row) f) f r.state (number_in r.result)
  pub table : t' ≡ rewritten_of t (other_row side f) (party_of side f) s
