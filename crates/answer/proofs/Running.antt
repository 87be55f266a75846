-- A run of calls: what the code leaves and tells is the step, and what every call keeps holds throughout. Assumes nothing.
use Prim.Native.Nat.{ℕ, zero, suc}
use mathlib.Core.Path.{◌≡◌, refl, sym}
use mathlib.Core.List.{[], ◌∷◌}
use Rattle.answer.specs.Refusals.{accepted}
use Rattle.answer.specs.Runs.{answer, number, sets, answers, Covered, step_of, Kept}

pub covered : Covered
covered S old (sets cs new) now (number n) p = λ i. record { state = sym p.holds i; told = number (sym p.number i) }
covered S old (sets cs new) now (answer r) p = absurd p
covered S old (answers cs new a) now (answer r) p = λ i. record { state = sym p.state i; told = answer (sym p.answer.exact i) }
covered S old (answers cs new a) now (number n) p = absurd p

-- what is refused is as it was, and what is accepted is new
pub settled : {S : Type 0} (Q : S → Type 0) (n : ℕ) (new old : S) → Q old → (n ≡ 0 → Q new) → Q (accepted n new old)
settled Q zero new old h k = k refl
settled Q (suc n) new old h k = h

-- so is what is read of it
pub read_settled
    : {S A : Type 0} (read : S → A) (n : ℕ) (new old : S) (x : A) → (n ≡ 0 → read new ≡ x) → read (accepted n new old) ≡ accepted n x (read old)
read_settled read zero new old x h = h refl
read_settled read (suc n) new old x h = refl

-- and what the new one has as the old one had it
pub untouched : {S A : Type 0} (read : S → A) (n : ℕ) (new old : S) → read new ≡ read old → read (accepted n new old) ≡ read old
untouched read n new old e = settled (λ s. read s ≡ read old) n new old refl (λ z. e)

pub kept : Kept
kept S C outline Q on s h [] = tt
kept S C outline Q on s h (c ∷ cs) = (on s h c, kept S C outline Q on (step_of outline s c).state (on s h c) cs)
