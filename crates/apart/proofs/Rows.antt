-- The row in use lies in the table, and holds still while the other has its turns; and what the filter's calls keep, every turn keeps. Assumes nothing.
use Prim.Native.Nat.{ℕ, ◌≤◌}
use native.Mathlib.Omega.{arith}
use mathlib.Core.Path.{◌≡◌, refl, sym, subst}
use mathlib.Core.List.{List, [], ◌∷◌}
use lib.Seq.{get_or-set_other}
use borrow.Author.Tests.{ltb-false, eqb-false}
use Rattle.answer.specs.Refusals.{refusal_of}
use Rattle.answer.specs.Runs as runs
use Rattle.answer.proofs.Answering.{unfailed, is_new}
use Rattle.answer.proofs.Running.{settled as accepts}
use Rattle.answer.proofs.Tests.{neither}
use Rattle.settings.specs.declared.Settings.{Settings}
use Rattle.settings.specs.Config.{derived_of}
use Rattle.ahrs.specs.declared.Ahrs.{Ahrs}
use Rattle.ahrs.specs.Filter.{with_settings}
use Rattle.ahrs.specs.Calls.{change_checks}
use Rattle.reached.specs.Runs.{Call, set_settings, outline_of}
use Rattle.reached.specs.Reached.{Sound}
use Rattle.reached.proofs.Running.{started_sound, after_call}
use Rattle.table.specs.declared.Table.{Table}
use Rattle.table.specs.declared.Party.{Party}
use Rattle.table.specs.declared.foot.Side.{Side}
use Rattle.table.specs.declared.foot.Side.TheVariants.{First, Second}
use Rattle.table.specs.Calls.{no_settings, row_of, with_row, no_row, settled_of, choose_checks, shared_with, rewrite_checks}
use Rattle.table.specs.Sides.{party_of, other_row}
use Rattle.apart.specs.Turns.{Standing, fresh_of, Act, call, look, choose, rewrite, Turn, act_of, table_of, after_of, end_of}
use Rattle.apart.specs.Rows.{StaysInTable, HoldsStill, StaysAFilter, StaysSound}

-- ---- what each turn of a party keeps of it, it keeps throughout

module _ (Q : Party → Type 0) (keeps : (t : Table) (o : ℕ) (p : Party) (a : Act) → Q p → Q (act_of t o p a).party) where
  after : (p : Side) (f : Standing) (b : Side) (a : Act) → Q (party_of p f.foot) → Q (party_of p (after_of f (record { by = b; act = a })).foot)
  after First f First a h = keeps f.table (other_row First f.foot) (party_of First f.foot) a h
  after First f Second a h = h
  after Second f First a h = h
  after Second f Second a h = keeps f.table (other_row Second f.foot) (party_of Second f.foot) a h

  throughout : (p : Side) (f : Standing) (us : List Turn) → Q (party_of p f.foot) → Q (party_of p (end_of f us).foot)
  throughout p f [] h = h
  throughout p f (u ∷ us) h = throughout p (after_of f u) us (after p f u.by u.act h)

-- ---- a row of the table

in_table : (t : Table) (o : ℕ) (p : Party) (a : Act) → p.row ≤ 7 → (act_of t o p a).party.row ≤ 7
unfolding settled_of
in_table t o p (call c) h = h
in_table t o p (look l) h = h
in_table t o p (choose row) h =
    accepts (λ (q : Party). q.row ≤ 7) (refusal_of (choose_checks p row (row_of t row))) (settled_of p (row_of t row) row) p h
    (λ e. ltb-false 7 row (neither (no_row row) (no_row p.row) (unfailed 3 _ _ e).0).0)
in_table t o p (rewrite s) h =
    accepts (λ (q : Party). q.row ≤ 7) (refusal_of (rewrite_checks p (shared_with p o) s)) (settled_of p s p.row) p h (λ e. h)

pub stays_in_table : StaysInTable
stays_in_table s s' t us First = throughout (λ (q : Party). q.row ≤ 7) in_table First (fresh_of s s' t) us (omega arith)
stays_in_table s s' t us Second = throughout (λ (q : Party). q.row ≤ 7) in_table Second (fresh_of s s' t) us (omega arith)

-- ---- it holds still

other_row_lem : (t : Table) (q : ℕ) (s : Settings) (o : ℕ) → (q ≡ o → ⊥) → row_of (with_row t q s) o ≡ row_of t o
unfolding row_of with_row
other_row_lem t q s o d = get_or-set_other t.rows q o s no_settings (λ e. d (sym e))

still : (t : Table) (o : ℕ) (p : Party) (a : Act) → row_of (table_of t o p a) o ≡ row_of t o
still t o p (call c) = refl
still t o p (look l) = refl
still t o p (choose row) = refl
still t o p (rewrite s) =
    accepts (λ (x : Table). row_of x o ≡ row_of t o) (refusal_of (rewrite_checks p (shared_with p o) s)) (with_row t p.row s) t refl
    (λ e. other_row_lem t p.row s o (eqb-false p.row o (unfailed 9 _ _ (unfailed 3 _ _ e).1).0))

pub holds_still : HoldsStill
holds_still First f a = still f.table (party_of First f.foot).row (party_of Second f.foot) a
holds_still Second f a = still f.table (party_of Second f.foot).row (party_of First f.foot) a

-- ---- the filter

module _ (Q : Ahrs → Type 0) (keeps : (s : Ahrs) → Q s → (c : Call) → Q (runs.step_of outline_of s c).state) where
  -- new settings that are accepted are a settings change of the filter
  settled : (p : Party) (s : Settings) (row : ℕ) → refusal_of (change_checks p.filter s) ≡ 0 → Q p.filter → Q (settled_of p s row).filter
  unfolding settled_of
  settled p s row e h = subst Q (is_new (with_settings p.filter s (derived_of s)) p.filter refl e) (keeps p.filter h (set_settings s))

  kept : (t : Table) (o : ℕ) (p : Party) (a : Act) → Q p.filter → Q (act_of t o p a).party.filter
  kept t o p (call c) h = keeps p.filter h c
  kept t o p (look l) h = h
  kept t o p (choose row) h =
      accepts (λ (q : Party). Q q.filter) (refusal_of (choose_checks p row (row_of t row))) (settled_of p (row_of t row) row) p h
      (λ e. settled p (row_of t row) row (unfailed 3 _ _ e).1 h)
  kept t o p (rewrite s) h =
      accepts (λ (q : Party). Q q.filter) (refusal_of (rewrite_checks p (shared_with p o) s)) (settled_of p s p.row) p h
      (λ e. settled p s p.row (unfailed 9 _ _ (unfailed 3 _ _ e).1).1 h)

pub stays_a_filter : StaysAFilter
stays_a_filter Q keeps p f us h = throughout (λ (q : Party). Q q.filter) (kept Q keeps) p f us h

pub stays_sound : StaysSound
stays_sound s s' e e' t us First = stays_a_filter Sound after_call First (fresh_of s s' t) us (started_sound s e)
stays_sound s s' e e' t us Second = stays_a_filter Sound after_call Second (fresh_of s s' t) us (started_sound s' e')
