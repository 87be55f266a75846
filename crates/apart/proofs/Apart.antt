-- A party's run at the table is the run of that party alone with what it sees, so that nothing else of the other can show in it. Assumes nothing.
use Prim.Native.Nat.{ℕ}
use mathlib.Core.Path.{◌≡◌, refl, sym, ap, ◌∙◌}
use mathlib.Core.Bool.{Bool}
use mathlib.Core.List.{List, [], ◌∷◌}
use Rattle.answer.specs.Refusals.{refusal_of}
use Rattle.answer.specs.Runs as runs
use Rattle.settings.specs.declared.Settings.{Settings}
use Rattle.reached.specs.Runs.{outline_of}
use Rattle.table.specs.declared.Table.{Table}
use Rattle.table.specs.declared.Party.{Party}
use Rattle.table.specs.declared.foot.Side.{Side}
use Rattle.table.specs.declared.foot.Side.TheVariants.{First, Second}
use Rattle.table.specs.Calls.{no_settings, settled_of, choose_checks, shared_with, rewrite_checks}
use Rattle.table.specs.Sides.{party_of, other_row}
use Rattle.apart.specs.Looks.{shown_of}
use Rattle.apart.specs.Turns.{Standing, Act, call, look, choose, rewrite, Turn, shown, Step, called_by, settled_by, act_of, after_of, end_of, steps_of}
use Rattle.apart.specs.Apart.{calls_by, chosen_in, rows_chosen, turns_shared, Alike, NoInterference}
use Rattle.apart.specs.Apart.{Sight, called, looked, chose, rewrote, sight_of, sights_of, OnlyWhatItSees}

-- ---- a party alone with what it sees

abbrev alone_of : Party → Sight → Step
alone_of p (called c) = called_by p.row (runs.step_of outline_of p.filter c)
alone_of p (looked l) = record { party = p; heard = shown (shown_of p.filter l) }
alone_of p (chose row s) = settled_by (settled_of p s row) p (refusal_of (choose_checks p row s))
alone_of p (rewrote s shared) = settled_by (settled_of p s p.row) p (refusal_of (rewrite_checks p shared s))

abbrev alone : Party → List Sight → List Step
alone p [] = []
alone p (v ∷ vs) = alone_of p v ∷ alone (alone_of p v).party vs

one_turn : (t : Table) (o : ℕ) (p : Party) (a : Act) → act_of t o p a ≡ alone_of p (sight_of t o p a)
one_turn t o p (call c) = refl
one_turn t o p (look l) = refl
one_turn t o p (choose row) = refl
one_turn t o p (rewrite s) = refl

own : {x y : Step} (xs : List Step) (vs : List Sight) → x ≡ y → xs ≡ alone x.party vs → (x ∷ xs) ≡ (y ∷ alone y.party vs)
own {x} xs vs e h = ap (λ (l : List Step). x ∷ l) h ∙ ap (λ (z : Step). z ∷ alone z.party vs) e

pub as_alone : (p : Side) (f : Standing) (us : List Turn) → steps_of p f us ≡ alone (party_of p f.foot) (sights_of p f us)
as_alone p f [] = refl
as_alone p f (u ∷ us) = turn p f u.by u.act us (λ g. as_alone p g us)
  where
    turn : (p : Side) (f : Standing) (b : Side) (a : Act) (us : List Turn)
        → ((g : Standing) → steps_of p g us ≡ alone (party_of p g.foot) (sights_of p g us))
        → steps_of p f (record { by = b; act = a } ∷ us) ≡ alone (party_of p f.foot) (sights_of p f (record { by = b; act = a } ∷ us))
    turn First f First a us later =
        let g = after_of f (record { by = First; act = a }) in
        own (steps_of First g us) (sights_of First g us) (one_turn f.table (other_row First f.foot) (party_of First f.foot) a) (later g)
    turn First f Second a us later = later (after_of f (record { by = Second; act = a }))
    turn Second f First a us later = later (after_of f (record { by = First; act = a }))
    turn Second f Second a us later =
        let g = after_of f (record { by = Second; act = a }) in
        own (steps_of Second g us) (sights_of Second g us) (one_turn f.table (other_row Second f.foot) (party_of Second f.foot) a) (later g)

-- ---- the state at the end is the one after its last turn

abbrev last_of : Party → List Step → Party
last_of p [] = p
last_of p (x ∷ xs) = last_of x.party xs

at_last : (p : Side) (f : Standing) (us : List Turn) → party_of p (end_of f us).foot ≡ last_of (party_of p f.foot) (steps_of p f us)
at_last p f [] = refl
at_last p f (u ∷ us) = turn p f u.by u.act us (λ g. at_last p g us)
  where
    turn : (p : Side) (f : Standing) (b : Side) (a : Act) (us : List Turn)
        → ((g : Standing) → party_of p (end_of g us).foot ≡ last_of (party_of p g.foot) (steps_of p g us))
        → party_of p (end_of f (record { by = b; act = a } ∷ us)).foot ≡ last_of (party_of p f.foot) (steps_of p f (record { by = b; act = a } ∷ us))
    turn First f First a us later = later (after_of f (record { by = First; act = a }))
    turn First f Second a us later = later (after_of f (record { by = Second; act = a }))
    turn Second f First a us later = later (after_of f (record { by = First; act = a }))
    turn Second f Second a us later = later (after_of f (record { by = Second; act = a }))

alike
    : (p : Side) (f f' : Standing) (us us' : List Turn) → party_of p f.foot ≡ party_of p f'.foot → steps_of p f us ≡ steps_of p f' us'
    → Alike p f f' us us'
alike p f f' us us' e h = record { steps = h; end = at_last p f us ∙ (λ i. last_of (e i) (h i)) ∙ sym (at_last p f' us') }

pub only_what_it_sees : OnlyWhatItSees
only_what_it_sees p f f' us us' e s = alike p f f' us us' e (as_alone p f us ∙ (λ i. alone (e i) (s i)) ∙ sym (as_alone p f' us'))

-- ---- what it sees is had from its calls, the rows that it chose and the turns at which its row is shared

abbrev sewn_of : Act → List Settings → Bool → Sight
sewn_of (call c) r b = called c
sewn_of (look l) r b = looked l
sewn_of (choose row) [] b = chose row no_settings
sewn_of (choose row) (s ∷ r) b = chose row s
sewn_of (rewrite s) r b = rewrote s b

abbrev sewn : List Act → List (List Settings) → List Bool → List Sight
sewn [] rs bs = []
sewn (a ∷ acts) [] bs = []
sewn (a ∷ acts) (r ∷ rs) [] = []
sewn (a ∷ acts) (r ∷ rs) (b ∷ bs) = sewn_of a r b ∷ sewn acts rs bs

one_sight : (t : Table) (o : ℕ) (p : Party) (a : Act) → sight_of t o p a ≡ sewn_of a (chosen_in t a) (shared_with p o)
one_sight t o p (call c) = refl
one_sight t o p (look l) = refl
one_sight t o p (choose row) = refl
one_sight t o p (rewrite s) = refl

abbrev Seen : Side → Standing → List Turn → Type 0
Seen p f us = sights_of p f us ≡ sewn (calls_by p us) (rows_chosen p f us) (turns_shared p f us)

seen : (p : Side) (f : Standing) (us : List Turn) → Seen p f us
seen p f [] = refl
seen p f (u ∷ us) = turn p f u.by u.act us (λ g. seen p g us)
  where
    turn : (p : Side) (f : Standing) (b : Side) (a : Act) (us : List Turn) → ((g : Standing) → Seen p g us) → Seen p f (record { by = b; act = a } ∷ us)
    turn First f First a us later =
        λ i. one_sight f.table (other_row First f.foot) (party_of First f.foot) a i ∷ later (after_of f (record { by = First; act = a })) i
    turn First f Second a us later = later (after_of f (record { by = Second; act = a }))
    turn Second f First a us later = later (after_of f (record { by = First; act = a }))
    turn Second f Second a us later =
        λ i. one_sight f.table (other_row Second f.foot) (party_of Second f.foot) a i ∷ later (after_of f (record { by = Second; act = a })) i

pub no_interference : NoInterference
no_interference p f f' us us' e c r s =
    only_what_it_sees p f f' us us' e (seen p f us ∙ (λ i. sewn (c i) (r i) (s i)) ∙ sym (seen p f' us'))
