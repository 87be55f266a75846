-- 02, P12: two parties at one table, and a run of turns, by the definitions that the calls' promises cite.
use Rattle.std.specs.Prelude.{ℕ, List, [], ◌∷◌}
use Rattle.answer.specs.Refusals.{refusal_of, accepted}
use Rattle.answer.specs.Runs as runs
use Rattle.answer.specs.Runs.{Told, number}
use Rattle.settings.specs.declared.Settings.{Settings}
use Rattle.ahrs.specs.declared.Ahrs.{Ahrs}
use Rattle.reached.specs.Runs.{Call, outline_of}
use Rattle.table.specs.declared.Table.{Table}
use Rattle.table.specs.declared.Party.{Party}
use Rattle.table.specs.declared.foot.Foot.{Foot}
use Rattle.table.specs.declared.foot.Side.{Side}
use Rattle.table.specs.declared.foot.Side.TheVariants.{First, Second}
use Rattle.table.specs.Calls.{party, row_of, fresh_party, settled_of, choose_checks, shared_with, rewrite_checks, rewritten_of}
use Rattle.table.specs.Sides.{party_of, other_row, with_party}
use Rattle.apart.specs.Looks.{Look, Shown, shown_of}

-- both parties, and the table that is lent to each
pub record Standing : Type 0 where
  pub foot : Foot
  pub table : Table

-- the first party starts on row 0, the second on row 1; the rows hold any numbers
abbrev pub fresh_of : Settings → Settings → Table → Standing
fresh_of s s' t = record { foot = record { first = fresh_party 0 s; second = fresh_party 1 s' }; table = t }

-- ---- a turn

-- what a party does: a call of its filter, one that only reads it, a choice, or a rewrite of the row that it uses
pub data Act : Type 0 where
  call : Call → Act
  look : Look → Act
  choose : ℕ → Act
  rewrite : Settings → Act

pub record Turn : Type 0 where
  pub by : Side
  pub act : Act

-- what a party is told
pub data Heard : Type 0 where
  told : Told → Heard
  shown : Shown → Heard

-- what a turn leaves of the party that has it, and tells it
pub record Step : Type 0 where
  pub party : Party
  pub heard : Heard

abbrev pub settled_by : Party → Party → ℕ → Step
settled_by new old n = record { party = accepted n new old; heard = told (number n) }

abbrev pub called_by : ℕ → runs.Step Ahrs → Step
called_by row s = record { party = party s.state row; heard = told s.told }

-- p's turn at the table t, with the other party on the row `other`
abbrev pub act_of : Table → ℕ → Party → Act → Step
act_of t other p (call c) = called_by p.row (runs.step_of outline_of p.filter c)
act_of t other p (look l) = record { party = p; heard = shown (shown_of p.filter l) }
act_of t other p (choose row) = settled_by (settled_of p (row_of t row) row) p (refusal_of (choose_checks p row (row_of t row)))
act_of t other p (rewrite s) = settled_by (settled_of p s p.row) p (refusal_of (rewrite_checks p (shared_with p other) s))

-- the table after it: only an accepted rewrite changes it, in the row that p uses
abbrev pub table_of : Table → ℕ → Party → Act → Table
table_of t other p (call c) = t
table_of t other p (look l) = t
table_of t other p (choose row) = t
table_of t other p (rewrite s) = rewritten_of t other p s

-- ---- a run

abbrev pub step_of : Standing → Turn → Step
step_of f u = act_of f.table (other_row u.by f.foot) (party_of u.by f.foot) u.act

abbrev pub after_of : Standing → Turn → Standing
after_of f u =
    record {
      foot = with_party u.by (step_of f u).party f.foot;
      table = table_of f.table (other_row u.by f.foot) (party_of u.by f.foot) u.act;
    }

-- what some turns leave
abbrev pub end_of : Standing → List Turn → Standing
end_of f [] = f
end_of f (u ∷ us) = end_of (after_of f u) us

-- a is put in front where the turn is p's own
abbrev pub if_own : {A : Type 0} → Side → Side → A → List A → List A
if_own First First a later = a ∷ later
if_own First Second a later = later
if_own Second First a later = later
if_own Second Second a later = a ∷ later

-- what p's own turns leave and tell it
abbrev pub steps_of : Side → Standing → List Turn → List Step
steps_of p f [] = []
steps_of p f (u ∷ us) = if_own p u.by (step_of f u) (steps_of p (after_of f u) us)
