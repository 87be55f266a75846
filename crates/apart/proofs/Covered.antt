-- The code's calls are the turns of a run: `Covered` and `Shows` hold. Assumes nothing.
use Prim.Native.Nat.{ℕ}
use mathlib.Core.Path.{◌≡◌, refl, sym, ap, ap₂, ◌∙◌}
use Rattle.std.specs.declared.result.Result.{Result}
use Rattle.std.specs.declared.result.Result.TheVariants.{Ok, Err}
use Rattle.answer.specs.declared.refusal.Refusal.{Refusal}
use Rattle.answer.specs.declared.change.Change.{Change}
use Rattle.answer.specs.Refusals.{refusal_of, accepted}
use Rattle.answer.specs.Rows.{refusal_at, number_in}
use Rattle.answer.specs.Runs as runs
use Rattle.settings.specs.declared.Settings.{Settings}
use Rattle.settings.specs.Config.{settings_checks}
use Rattle.ahrs.specs.declared.Ahrs.{Ahrs}
use Rattle.reached.specs.Runs.{Call, outline_of}
use Rattle.table.specs.declared.Table.{Table}
use Rattle.table.specs.declared.Party.{Party}
use Rattle.table.specs.declared.foot.Foot.{Foot}
use Rattle.table.specs.declared.foot.Side.{Side}
use Rattle.table.specs.declared.foot.Side.TheVariants.{First, Second}
use Rattle.table.specs.Calls.{fresh_party, Starts, row_of, settled_of, choose_checks, shared_with, rewrite_checks}
use Rattle.table.specs.Sides.{party_of, other_row, with_filter, FootChooses, FootRewrites}
use Rattle.table.proofs.Sides.{in_the_foot}
use Rattle.apart.specs.Looks.{Look, shown_of, settings_read, quaternion_read, vector_read, flags_read, states_read, ignored_read}
use Rattle.apart.specs.Turns.{call, look, choose, rewrite, told, shown}
use Rattle.apart.specs.Covered.{turn, standing, Goes, numbered, Covered, Shows}

-- the party of a start, where there is one
abbrev started_of : Party → Result Party Refusal → Party
started_of p (Ok q) = q
started_of p (Err e) = p

started : (row : ℕ) (s : Settings) (p : Party) → Starts row s (Ok p) → (refusal_of (settings_checks s) ≡ 0) × (p ≡ fresh_party row s)
started row s p h =
    let e = sym h.number in
    (e, ap (started_of p) (h.exact ∙ ap (λ (n : ℕ). accepted n (Ok (fresh_party row s)) (Err (refusal_at n))) e))

called
    : (side : Side) (f : Foot) (t : Table) (c : Call) (s : runs.Step Ahrs) → runs.step_of outline_of (party_of side f).filter c ≡ s
    → Goes (standing f t) (turn side (call c)) (standing (with_filter side s.state f) t) (told s.told)
called side f t c s e =
    record { left = ap (λ (x : runs.Step Ahrs). standing (with_filter side x.state f) t) e; heard = ap (λ (x : runs.Step Ahrs). told x.told) e }

looked : (side : Side) (f : Foot) (t : Table) (l : Look) → Goes (standing f t) (turn side (look l)) (standing f t) (shown (shown_of (party_of side f).filter l))
looked First f t l = record { left = refl; heard = refl }
looked Second f t l = record { left = refl; heard = refl }

chosen
    : (side : Side) (f : Foot) (t : Table) (row : ℕ) (r : Change Foot) → FootChooses t f side row r
    → Goes (standing f t) (turn side (choose row)) (standing r.state t) (numbered (number_in r.result))
chosen side f t row r h =
    let p = party_of side f in
    let s = row_of t row in
    record {
      left = ap (λ (g : Foot). standing g t) (in_the_foot f side (refusal_of (choose_checks p row s)) (settled_of p s row) ∙ sym h.holds);
      heard = ap (λ (n : ℕ). numbered n) (sym h.number);
    }

rewritten
    : (side : Side) (f : Foot) (t t' : Table) (s : Settings) (r : Change Foot) → FootRewrites t f side s t' r
    → Goes (standing f t) (turn side (rewrite s)) (standing r.state t') (numbered (number_in r.result))
rewritten side f t t' s r h =
    let p = party_of side f in
    let n = refusal_of (rewrite_checks p (shared_with p (other_row side f)) s) in
    record {
      left = ap₂ standing (in_the_foot f side n (settled_of p s p.row) ∙ sym h.settled.holds) (sym h.table);
      heard = ap (λ (n : ℕ). numbered n) (sym h.settled.number);
    }

pub covered : Covered
covered =
    record {
      of_start = started;
      of_call = called;
      of_look = looked;
      of_choose = chosen;
      of_rewrite = rewritten;
      of_choose_lent = λ t o p row r h. record { party = sym h.holds; heard = ap (λ (n : ℕ). numbered n) (sym h.number); table = refl };
      of_rewrite_lent =
          λ t t' o p s r h. record { party = sym h.settled.holds; heard = ap (λ (n : ℕ). numbered n) (sym h.settled.number); table = sym h.table };
    }

pub shows : Shows
shows =
    record {
      of_settings = λ s r h. ap settings_read (sym h.exact);
      of_quaternion = λ s r h. ap quaternion_read (sym h.exact);
      of_gravity = λ s r h. ap vector_read (sym h.exact);
      of_linear_acceleration = λ s r h. ap vector_read (sym h.exact);
      of_earth_acceleration = λ s r h. ap vector_read (sym h.exact);
      of_flags = λ s r h. ap flags_read (sym h.exact);
      of_internal_states = λ s r h. ap states_read (sym h.answer.exact);
      of_ignored_counts = λ s r h. ap ignored_read (sym h.exact);
    }
