-- 02, P12: the row that a party uses, and the filter that it has, in every run of two parties at one table.
use Rattle.std.specs.Prelude.{◌≤◌, ◌≡◌, List}
use Rattle.answer.specs.Refusals.{refusal_of}
use Rattle.answer.specs.Runs as runs
use Rattle.settings.specs.declared.Settings.{Settings}
use Rattle.settings.specs.Config.{settings_checks}
use Rattle.ahrs.specs.declared.Ahrs.{Ahrs}
use Rattle.reached.specs.Runs.{Call, outline_of}
use Rattle.reached.specs.Reached.{Sound}
use Rattle.table.specs.declared.Table.{Table}
use Rattle.table.specs.declared.foot.Side.{Side}
use Rattle.table.specs.Calls.{row_of}
use Rattle.table.specs.Sides.{other, party_of}
use Rattle.apart.specs.Turns.{Standing, fresh_of, Act, Turn, after_of, end_of}

-- ---- the row in use

-- from the start on, no row in use is above 7
abbrev pub StaysInTable : Type 0
StaysInTable = (s s' : Settings) (t : Table) (us : List Turn) (p : Side) → (party_of p (end_of (fresh_of s s' t) us).foot).row ≤ 7

-- whatever the other does at its turn, the row that p uses holds what it held
abbrev pub HoldsStill : Type 0
HoldsStill =
    (p : Side) (f : Standing) (a : Act)
    → row_of (after_of f (record { by = other p; act = a })).table (party_of p f.foot).row ≡ row_of f.table (party_of p f.foot).row

-- ---- the filter

-- a choice or a rewrite does to the filter what `set_settings` does, or nothing: what every call of the filter keeps, every turn keeps
abbrev pub StaysAFilter : Type 1
StaysAFilter =
    (Q : Ahrs → Type 0) → ((s : Ahrs) → Q s → (c : Call) → Q (runs.step_of outline_of s c).state)
    → (p : Side) (f : Standing) (us : List Turn) → Q (party_of p f.foot).filter → Q (party_of p (end_of f us).foot).filter

-- so each filter of a foot is sound after any turns, as every state is that the filter's calls reach
abbrev pub StaysSound : Type 0
StaysSound =
    (s s' : Settings) → refusal_of (settings_checks s) ≡ 0 → refusal_of (settings_checks s') ≡ 0
    → (t : Table) (us : List Turn) (p : Side) → Sound (party_of p (end_of (fresh_of s s' t) us).foot).filter
