-- The code's calls are the turns of a run: their promises say so.
use Rattle.std.specs.Prelude.{ℕ, ◌≡◌}
use Rattle.std.specs.declared.result.Result.{Result}
use Rattle.std.specs.declared.result.Result.TheVariants.{Ok}
use Rattle.answer.specs.declared.refusal.Refusal.{Refusal}
use Rattle.answer.specs.declared.change.Change.{Change}
use Rattle.answer.specs.Refusals.{refusal_of}
use Rattle.answer.specs.Rows.{number_in}
use Rattle.answer.specs.Runs as runs
use Rattle.answer.specs.Runs.{number}
use Rattle.vector.specs.declared.Vector.{Vector}
use Rattle.math.specs.declared.quaternion.Quaternion.{Quaternion}
use Rattle.settings.specs.declared.Settings.{Settings}
use Rattle.settings.specs.Config.{settings_checks}
use Rattle.ahrs.specs.declared.Ahrs.{Ahrs}
use Rattle.ahrs.specs.declared.read.Flags.{Flags}
use Rattle.ahrs.specs.declared.read.InternalStates.{InternalStates}
use Rattle.ahrs.specs.declared.read.IgnoredCounts.{IgnoredCounts}
use Rattle.ahrs.specs.Read.{gravity_of, linear_of, earth_of}
use Rattle.ahrs.specs.Calls.{SettingsReads, QuaternionReads, VectorReads, FlagsReads, StatesReads, IgnoredReads}
use Rattle.reached.specs.Runs.{Call, outline_of}
use Rattle.table.specs.declared.Table.{Table}
use Rattle.table.specs.declared.Party.{Party}
use Rattle.table.specs.declared.foot.Foot.{Foot}
use Rattle.table.specs.declared.foot.Side.{Side}
use Rattle.table.specs.Calls.{fresh_party, Starts, Chooses, Rewrites}
use Rattle.table.specs.Sides.{party_of, with_filter, FootChooses, FootRewrites}
use Rattle.apart.specs.Looks.{Look, settings, quaternion, gravity, linear_acceleration, earth_acceleration, flags, internal_states, ignored_counts}
use Rattle.apart.specs.Looks.{shown_of, settings_read, quaternion_read, vector_read, flags_read, states_read, ignored_read}
use Rattle.apart.specs.Turns.{Standing, Act, call, look, choose, rewrite, Turn, Heard, told, shown, act_of, table_of, step_of, after_of}

abbrev pub turn : Side → Act → Turn
turn side a = record { by = side; act = a }

abbrev pub standing : Foot → Table → Standing
standing f t = record { foot = f; table = t }

-- a turn at f leaves g and tells h
pub record Goes (f : Standing) (u : Turn) (g : Standing) (h : Heard) : Type 0 where
  pub left : after_of f u ≡ g
  pub heard : (step_of f u).heard ≡ h

-- a party's own turn, where the other is not at hand, leaves it and the table so, and tells it h
pub record Alone (t : Table) (other : ℕ) (p : Party) (a : Act) (t' : Table) (p' : Party) (h : Heard) : Type 0 where
  pub party : (act_of t other p a).party ≡ p'
  pub heard : (act_of t other p a).heard ≡ h
  pub table : table_of t other p a ≡ t'

abbrev pub numbered : ℕ → Heard
numbered n = told (number n)

pub record Covered : Type 0 where
  -- a start that is accepted gives the party that a run begins with
  pub of_start : (row : ℕ) (s : Settings) (p : Party) → Starts row s (Ok p) → (refusal_of (settings_checks s) ≡ 0) × (p ≡ fresh_party row s)
  -- a call of the filter is a step of its runs (`reached`), put back by `Foot::with_filter`
  pub of_call : (side : Side) (f : Foot) (t : Table) (c : Call) (s : runs.Step Ahrs) → runs.step_of outline_of (party_of side f).filter c ≡ s
      → Goes (standing f t) (turn side (call c)) (standing (with_filter side s.state f) t) (told s.told)
  -- a call that only reads leaves all as it was
  pub of_look : (side : Side) (f : Foot) (t : Table) (l : Look)
      → Goes (standing f t) (turn side (look l)) (standing f t) (shown (shown_of (party_of side f).filter l))
  pub of_choose : (side : Side) (f : Foot) (t : Table) (row : ℕ) (r : Change Foot) → FootChooses t f side row r
      → Goes (standing f t) (turn side (choose row)) (standing r.state t) (numbered (number_in r.result))
  pub of_rewrite : (side : Side) (f : Foot) (t t' : Table) (s : Settings) (r : Change Foot) → FootRewrites t f side s t' r
      → Goes (standing f t) (turn side (rewrite s)) (standing r.state t') (numbered (number_in r.result))
  -- the lent functions
  pub of_choose_lent : (t : Table) (other : ℕ) (p : Party) (row : ℕ) (r : Change Party) → Chooses t p row r
      → Alone t other p (choose row) t r.state (numbered (number_in r.result))
  pub of_rewrite_lent : (t t' : Table) (other : ℕ) (p : Party) (s : Settings) (r : Change Party) → Rewrites t other p s t' r
      → Alone t other p (rewrite s) t' r.state (numbered (number_in r.result))

-- what a call that only reads tells is what its promise says
pub record Shows : Type 0 where
  pub of_settings : (s : Ahrs) (r : Result Settings Refusal) → SettingsReads s r → shown_of s settings ≡ settings_read r
  pub of_quaternion : (s : Ahrs) (r : Result Quaternion Refusal) → QuaternionReads s r → shown_of s quaternion ≡ quaternion_read r
  pub of_gravity : (s : Ahrs) (r : Result Vector Refusal) → VectorReads s (gravity_of s) r → shown_of s gravity ≡ vector_read r
  pub of_linear_acceleration : (s : Ahrs) (r : Result Vector Refusal) → VectorReads s (linear_of s) r → shown_of s linear_acceleration ≡ vector_read r
  pub of_earth_acceleration : (s : Ahrs) (r : Result Vector Refusal) → VectorReads s (earth_of s) r → shown_of s earth_acceleration ≡ vector_read r
  pub of_flags : (s : Ahrs) (r : Result Flags Refusal) → FlagsReads s r → shown_of s flags ≡ flags_read r
  pub of_internal_states : (s : Ahrs) (r : Result InternalStates Refusal) → StatesReads s r → shown_of s internal_states ≡ states_read r
  pub of_ignored_counts : (s : Ahrs) (r : Result IgnoredCounts Refusal) → IgnoredReads s r → shown_of s ignored_counts ≡ ignored_read r
