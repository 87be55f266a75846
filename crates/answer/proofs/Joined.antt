-- Checks that come after others: theirs is the number where the first give none, and one that passes there may be left out. Assumes nothing.
use Prim.Native.Nat.{ℕ, ◌≤◌}
use native.Mathlib.Omega.{arith}
use mathlib.Core.Path.{◌≡◌, refl}
use mathlib.Core.Bool.{Bool, true, false, cond}
use mathlib.Core.List.{List, [], ◌∷◌, ◌++◌}
use lib.Dec.{T}
use Rattle.answer.specs.Refusals.{Check, check, refusal_of, ascends}
use Rattle.answer.proofs.Table.{first_number, rest_ascends}

pub refused_first : (cs ds : List Check) → (refusal_of cs ≡ 0 → ⊥) → refusal_of (cs ++ ds) ≡ refusal_of cs
unfolding refusal_of
refused_first [] ds h = absurd (h refl)
refused_first (c ∷ cs) ds h = go c.fails h (λ k. refused_first cs ds k)
  where
    go
        : (b : Bool) → (cond b c.number (refusal_of cs) ≡ 0 → ⊥) → ((refusal_of cs ≡ 0 → ⊥) → refusal_of (cs ++ ds) ≡ refusal_of cs)
        → cond b c.number (refusal_of (cs ++ ds)) ≡ cond b c.number (refusal_of cs)
    go true k on = refl
    go false k on = on k

from : (k : ℕ) → 1 ≤ k → (cs ds : List Check) → T (ascends k cs) → refusal_of cs ≡ 0 → refusal_of (cs ++ ds) ≡ refusal_of ds
unfolding refusal_of
from k l [] ds t e = refl
from k l (c ∷ cs) ds t e = go c.fails e (λ z. from c.number (omega (arith, l, first_number k c cs t)) cs ds (rest_ascends k c cs t) z)
  where
    go
        : (b : Bool) → cond b c.number (refusal_of cs) ≡ 0 → (refusal_of cs ≡ 0 → refusal_of (cs ++ ds) ≡ refusal_of ds)
        → cond b c.number (refusal_of (cs ++ ds)) ≡ refusal_of ds
    go true z on = absurd (omega (arith, l, first_number k c cs t, z))
    go false z on = on z

pub passed_first : (cs ds : List Check) → T (ascends 1 cs) → refusal_of cs ≡ 0 → refusal_of (cs ++ ds) ≡ refusal_of ds
passed_first cs ds t e = from 1 (omega arith) cs ds t e

-- one that passes wherever those before it do may be left out
pub left_out : (cs ds : List Check) (n : ℕ) (b : Bool) → (refusal_of cs ≡ 0 → b ≡ false) → refusal_of (cs ++ (check n b ∷ ds)) ≡ refusal_of (cs ++ ds)
unfolding refusal_of
left_out [] ds n b h = rw (h refl)
left_out (c ∷ cs) ds n b h = go c.fails h (left_out cs ds n b)
  where
    go
        : (f : Bool) → (cond f c.number (refusal_of cs) ≡ 0 → b ≡ false)
        → ((refusal_of cs ≡ 0 → b ≡ false) → refusal_of (cs ++ (check n b ∷ ds)) ≡ refusal_of (cs ++ ds))
        → cond f c.number (refusal_of (cs ++ (check n b ∷ ds))) ≡ cond f c.number (refusal_of (cs ++ ds))
    go true k on = refl
    go false k on = on k
