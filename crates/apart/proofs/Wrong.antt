-- Runs that `NoInterference` would join were one of its conditions left out: they do not go alike. Assumes nothing.
use Prim.Native.Nat.{ℕ}
use native.Mathlib.Omega.{arith}
use mathlib.Core.Path.{◌≡◌, refl, sym, ap, ap₂, ◌∙◌}
use mathlib.Core.Bool.{Bool, true, false, not, ◌&&◌, false≢true}
use mathlib.Core.List.{List, [], ◌∷◌}
use mathlib.Core.Logic.{inl, inr}
use Rattle.answer.specs.Refusals.{refusal_of, Fails}
use Rattle.answer.specs.Runs.{Told, answer, number}
use Rattle.answer.proofs.Answering.{fails, passes}
use Rattle.settings.specs.declared.Settings.{Settings}
use Rattle.settings.specs.Config.{known_convention}
use Rattle.ahrs.specs.declared.Ahrs.{Ahrs}
use Rattle.ahrs.specs.Calls.{change_checks}
use Rattle.ahrs.proofs.Refusing.{exactly_when}
use Rattle.table.specs.declared.Table.{Table}
use Rattle.table.specs.declared.foot.Side.TheVariants.{First}
use Rattle.table.specs.Calls.{party, row_of, rewrite_checks, choose_checks}
use Rattle.apart.specs.Turns.{Standing, Act, choose, rewrite, Turn, Heard, told, shown, Step}
use Rattle.apart.specs.Apart.{Alike}

-- the first party on row 0, the second on a row
abbrev at : Ahrs → Ahrs → ℕ → Table → Standing
at a b row t = record { foot = record { first = party a 0; second = party b row }; table = t }

abbrev once : Act → List Turn
once a = record { by = First; act = a } ∷ []

-- the number that the first turn tells
abbrev told_of : Told → ℕ
told_of (number n) = n
told_of (answer r) = 0

abbrev heard_of : Heard → ℕ
heard_of (told t) = told_of t
heard_of (shown v) = 0

abbrev first_of : List Step → ℕ
first_of [] = 0
first_of (s ∷ ss) = heard_of s.heard

-- no settings change is refused with 10
no_ten : (a : Ahrs) (s : Settings) → refusal_of (change_checks a s) ≡ 10 → ⊥
unfolding Fails
no_ten a s e = go ((exactly_when.set_settings a s).given 10 (omega arith) e).0
  where
    go : Fails 10 (change_checks a s) → ⊥
    go (inl p) = let z = p.0 in omega arith
    go (inr (inl p)) = let z = p.0 in omega arith
    go (inr (inr (inl p))) = let z = p.0 in omega arith
    go (inr (inr (inr (inl p)))) = let z = p.0 in omega arith
    go (inr (inr (inr (inr none)))) = elim none [ ]

-- and none of known conventions with 4
no_four : (a : Ahrs) (s : Settings) → (not (known_convention a.settings && known_convention s)) ≡ false → refusal_of (change_checks a s) ≡ 4 → ⊥
unfolding Fails
no_four a s k e = go ((exactly_when.set_settings a s).given 4 (omega arith) e).0
  where
    go : Fails 4 (change_checks a s) → ⊥
    go (inl p) = false≢true (sym k ∙ p.1)
    go (inr (inl p)) = let z = p.0 in omega arith
    go (inr (inr (inl p))) = let z = p.0 in omega arith
    go (inr (inr (inr (inl p)))) = let z = p.0 in omega arith
    go (inr (inr (inr (inr none)))) = elim none [ ]

module _ (a b : Ahrs) (s : Settings) (t : Table) (known : known_convention a.settings ≡ true) (also : known_convention s ≡ true) where
  both : (not (known_convention a.settings && known_convention s)) ≡ false
  both = ap₂ (λ (x y : Bool). not (x && y)) known also

  -- the same rewrite, with the other party on row 1 and on the very row: the turns at which the row is shared are needed
  pub of_sharing : Alike First (at a b 1 t) (at a b 0 t) (once (rewrite s)) (once (rewrite s)) → ⊥
  of_sharing h =
      let apart : refusal_of (rewrite_checks (party a 0) false s) ≡ refusal_of (change_checks a s) = passes 4 _ both ∙ passes 10 _ refl in
      let shared : refusal_of (rewrite_checks (party a 0) true s) ≡ 10 = passes 4 _ both ∙ fails 10 _ refl in
      no_ten a s (sym apart ∙ ap first_of h.steps ∙ shared)

-- the same choice, of a row that holds a known convention and of one that does not: what the row holds is needed
pub of_contents
    : (a b : Ahrs) (t t' : Table) → known_convention a.settings ≡ true → known_convention (row_of t 3) ≡ true → known_convention (row_of t' 3) ≡ false
    → Alike First (at a b 1 t) (at a b 1 t') (once (choose 3)) (once (choose 3)) → ⊥
of_contents a b t t' known here there h =
    let unknown = ap₂ (λ (x y : Bool). not (x && y)) known there in
    let four : refusal_of (choose_checks (party a 0) 3 (row_of t' 3)) ≡ 4 = passes 4 _ refl ∙ fails 4 _ unknown in
    let first : refusal_of (choose_checks (party a 0) 3 (row_of t 3)) ≡ refusal_of (change_checks a (row_of t 3)) = passes 4 _ refl in
    no_four a (row_of t 3) (ap₂ (λ (x y : Bool). not (x && y)) known here) (sym first ∙ ap first_of h.steps ∙ four)
