-- 02, P12: what one party does to the other: nothing but what that one sees at its own turns.
use Rattle.std.specs.Prelude.{ℕ, ◌≡◌, Bool, List, [], ◌∷◌}
use Rattle.settings.specs.declared.Settings.{Settings}
use Rattle.reached.specs.Runs.{Call}
use Rattle.table.specs.declared.Table.{Table}
use Rattle.table.specs.declared.Party.{Party}
use Rattle.table.specs.declared.foot.Side.{Side}
use Rattle.table.specs.Calls.{row_of, shared_with}
use Rattle.table.specs.Sides.{party_of, other_row}
use Rattle.apart.specs.Looks.{Look}
use Rattle.apart.specs.Turns.{Standing, Act, call, look, choose, rewrite, Turn, after_of, end_of, if_own, steps_of}

-- ---- of a run, by p's own turns

-- the calls by it
abbrev pub calls_by : Side → List Turn → List Act
calls_by p [] = []
calls_by p (u ∷ us) = if_own p u.by u.act (calls_by p us)

-- the contents of the row, where the call is a choice
abbrev pub chosen_in : Table → Act → List Settings
chosen_in t (call c) = []
chosen_in t (look l) = []
chosen_in t (choose row) = row_of t row ∷ []
chosen_in t (rewrite s) = []

-- the contents in each row at the moment it chooses it
abbrev pub rows_chosen : Side → Standing → List Turn → List (List Settings)
rows_chosen p f [] = []
rows_chosen p f (u ∷ us) = if_own p u.by (chosen_in f.table u.act) (rows_chosen p (after_of f u) us)

-- whether the other uses its row
abbrev pub turns_shared : Side → Standing → List Turn → List Bool
turns_shared p f [] = []
turns_shared p f (u ∷ us) = if_own p u.by (shared_with (party_of p f.foot) (other_row p f.foot)) (turns_shared p (after_of f u) us)

-- the same answers at each of its turns, and the same state and row after each and at the end
pub record Alike (p : Side) (f f' : Standing) (us us' : List Turn) : Type 0 where
  pub steps : steps_of p f us ≡ steps_of p f' us'
  pub end : party_of p (end_of f us).foot ≡ party_of p (end_of f' us').foot

-- two runs, of any tables and any turns of the other: from the same state and row of p, with the same calls by it, the same contents in
-- each row at the moment it chooses it, and the same turns at which the other uses its row
abbrev pub NoInterference : Type 0
NoInterference =
    (p : Side) (f f' : Standing) (us us' : List Turn)
    → party_of p f.foot ≡ party_of p f'.foot
    → calls_by p us ≡ calls_by p us'
    → rows_chosen p f us ≡ rows_chosen p f' us'
    → turns_shared p f us ≡ turns_shared p f' us'
    → Alike p f f' us us'

-- ---- the same, of the least that p has to see

-- what p sees at a turn: nothing at a call of its filter, of a choice what the row holds, of a rewrite whether the row is shared
pub data Sight : Type 0 where
  called : Call → Sight
  looked : Look → Sight
  chose : ℕ → Settings → Sight
  rewrote : Settings → Bool → Sight

abbrev pub sight_of : Table → ℕ → Party → Act → Sight
sight_of t other p (call c) = called c
sight_of t other p (look l) = looked l
sight_of t other p (choose row) = chose row (row_of t row)
sight_of t other p (rewrite s) = rewrote s (shared_with p other)

abbrev pub sights_of : Side → Standing → List Turn → List Sight
sights_of p f [] = []
sights_of p f (u ∷ us) =
    if_own p u.by (sight_of f.table (other_row p f.foot) (party_of p f.foot) u.act) (sights_of p (after_of f u) us)

abbrev pub OnlyWhatItSees : Type 0
OnlyWhatItSees =
    (p : Side) (f f' : Standing) (us us' : List Turn)
    → party_of p f.foot ≡ party_of p f'.foot → sights_of p f us ≡ sights_of p f' us' → Alike p f f' us us'
