-- 02, P12: a party, the table of eight rows, and each call on them: its checks, what it gives, and its promise.
use Rattle.answer.specs.Said.{alone}
use Rattle.std.specs.Prelude.{ℕ, ◌≡◌, Bool, not, ◌&&◌, ◌||◌, List, ◌∷◌, ltb, eqb, get_or, set}
use Rattle.std.specs.Float.{nan}
use Rattle.std.specs.declared.result.Result.{Result}
use Rattle.answer.specs.declared.refusal.Refusal.{Refusal}
use Rattle.answer.specs.declared.change.Change.{Change}
use Rattle.answer.specs.Refusals.{Check, check, refusal_of, accepted}
use Rattle.answer.specs.Rows.{number_in}
use Rattle.answer.specs.Promises.{Results, Changed}
use Rattle.settings.specs.declared.Settings.{Settings}
use Rattle.settings.specs.declared.limit.Limit.TheVariants.{Squared}
use Rattle.settings.specs.Config.{known_convention, derived_of, settings_checks}
use Rattle.ahrs.specs.declared.Ahrs.{Ahrs}
use Rattle.ahrs.specs.Filter.{fresh_of, with_settings}
use Rattle.ahrs.specs.Calls.{change_checks}
use Rattle.table.specs.declared.Table.{Table}
use Rattle.table.specs.declared.Party.{Party}

abbrev pub party : Ahrs → ℕ → Party
party filter row = record { filter = filter; row = row }

-- ---- the table

-- past the last row there are no numbers; no call looks there
abbrev pub no_settings : Settings
no_settings =
    record {
      sample_rate = nan;
      convention = 0;
      gain = nan;
      gyroscope_range = nan;
      acceleration_rejection = Squared nan;
      magnetic_rejection = Squared nan;
      rejection_timeout = nan;
    }

unfoldable pub row_of : Table → ℕ → Settings
row_of t row = get_or t.rows row no_settings

unfoldable pub with_row : Table → ℕ → Settings → Table
with_row t row s = record { rows = set t.rows row s }

-- there are eight
abbrev pub no_row : ℕ → Bool
no_row row = ltb 7 row

-- ---- a start: the filter's own, with the settings that it is made with, on a row

abbrev pub fresh_party : ℕ → Settings → Party
fresh_party row s = party (fresh_of s (derived_of s)) row

abbrev pub Starts : ℕ → Settings → Result Party Refusal → Type 0
Starts row s r = Results alone (settings_checks s) (fresh_party row s) r

-- ---- a choice

-- settings set as `set_settings` sets them, and the row then in use
unfoldable pub settled_of : Party → Settings → ℕ → Party
settled_of p s row = party (with_settings p.filter s (derived_of s)) row

abbrev pub Settles : Party → Settings → ℕ → Change Party → Type 0
Settles p s row r = Changed (change_checks p.filter s) (settled_of p s row) p r.state (number_in r.result)

-- 4 for a row above 7, chosen or in use; then 4 to 7 as settings do. s is what the row holds
abbrev pub choose_checks : Party → ℕ → Settings → List Check
choose_checks p row s = check 4 (no_row row || no_row p.row) ∷ change_checks p.filter s

abbrev pub Chosen : Settings → Party → ℕ → Change Party → Type 0
Chosen s p row r = Changed (choose_checks p row s) (settled_of p s row) p r.state (number_in r.result)

abbrev pub Chooses : Table → Party → ℕ → Change Party → Type 0
Chooses t p row r = Chosen (row_of t row) p row r

-- ---- a rewrite

-- the other party uses the row too
abbrev pub shared_with : Party → ℕ → Bool
shared_with p other = eqb p.row other

-- 10 for a shared row, after 4 and before 5; otherwise 4 to 7 as settings do
abbrev pub rewrite_checks : Party → Bool → Settings → List Check
rewrite_checks p shared s =
    check 4 (no_row p.row || not (known_convention p.filter.settings && known_convention s)) ∷
    check 10 shared ∷
    change_checks p.filter s

abbrev pub Resettles : ℕ → Party → Settings → Change Party → Type 0
Resettles other p s r = Changed (rewrite_checks p (shared_with p other) s) (settled_of p s p.row) p r.state (number_in r.result)

-- the table after it: a refused rewrite leaves it as it was
abbrev pub rewritten_of : Table → ℕ → Party → Settings → Table
rewritten_of t other p s = accepted (refusal_of (rewrite_checks p (shared_with p other) s)) (with_row t p.row s) t

pub record Rewrites (t : Table) (other : ℕ) (p : Party) (s : Settings) (t' : Table) (r : Change Party) : Type 0 where
  pub settled : Resettles other p s r
  pub table : t' ≡ rewritten_of t other p s
