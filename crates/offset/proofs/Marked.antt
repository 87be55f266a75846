-- Bytes that start with the mark have it, place by place. Assumes nothing.
use Rattle.std.proofs.Common.{◌≡◌, ℕ, Bool, true, false, List, [], ◌∷◌, nat_eq, refl, sym}
use borrow.Author.Tests.{eq-eqb, ne_eqb, eqb-true, eqb-false}
use mathlib.Core.Bool.{and_assoc, and-false, and-true}
use lib.Dec.{eqb}
use Rattle.std.specs.List.{starts_with}
use Rattle.offset.specs.Record.{has_mark}

flipped : (n a : ℕ) → eqb n a ≡ eqb a n
flipped n a = go (eqb a n) refl
  where
    go : (b : Bool) → eqb a n ≡ b → eqb n a ≡ b
    go true e = eq-eqb n a (sym (eqb-true a n e))
    go false e = ne_eqb n a (λ h. eqb-false a n e (sym h))

pub marked : (s : List ℕ) → starts_with nat_eq s (0x47 ∷ 0x4F ∷ 0x46 ∷ []) ≡ has_mark s
unfolding has_mark
marked [] = refl
marked (a ∷ []) = simp and-false
marked (a ∷ b ∷ []) = simp and-false
marked (a ∷ b ∷ c ∷ s) = rw (flipped 0x47 a, flipped 0x4F b, flipped 0x46 c) (simp (and-true, and_assoc))
