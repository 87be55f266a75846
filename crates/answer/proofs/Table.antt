-- The law of the refusal table: in a list that ascends, the first check that fails is the lowest, so `ByTheTable` follows from the order's. Assumes nothing.
use Prim.Native.Nat.{ℕ, ◌≤◌}
use native.Mathlib.Omega.{arith}
use mathlib.Core.Path.{◌≡◌, refl, sym, ◌∙◌}
use mathlib.Core.Bool.{Bool, true, false, ◌&&◌, false≢true}
use mathlib.Core.List.{List, [], ◌∷◌}
use mathlib.Core.Logic.{◌⊎◌, inl, inr}
use lib.Dec.{T, leb, leb→le, le→leb}
use lib.Ieee.Fits.{and_l, and_r}
use Rattle.answer.specs.Refusals.{Check, ascends, Fails, Lowest, ByTheTable}
use Rattle.answer.specs.Order.{First, numbered}
use Rattle.answer.proofs.Ordering.{by_the_order}

-- a list that ascends from k: its first number is k at least, and the rest ascends from there
pub first_number : (k : ℕ) (c : Check) (cs : List Check) → T (ascends k (c ∷ cs)) → k ≤ c.number
unfolding ascends
first_number k c cs t = leb→le k c.number (and_l (leb k c.number) (ascends c.number cs) t)

pub rest_ascends : (k : ℕ) (c : Check) (cs : List Check) → T (ascends k (c ∷ cs)) → T (ascends c.number cs)
unfolding ascends
rest_ascends k c cs t = and_r (leb k c.number) (ascends c.number cs) t

-- every check that fails in it has the number k at least
at_least : (k j : ℕ) (cs : List Check) → T (ascends k cs) → Fails j cs → k ≤ j
unfolding Fails
at_least k j [] t f = absurd f
at_least k j (c ∷ cs) t (inl p) = omega (arith, first_number k c cs t, p.0)
at_least k j (c ∷ cs) t (inr f) = omega (arith, first_number k c cs t, at_least c.number j cs (rest_ascends k c cs t) f)

further : (c : Check) (cs : List Check) (j : ℕ) → c.fails ≡ false → Fails j (c ∷ cs) → Fails j cs
unfolding Fails
further c cs j e (inl p) = absurd (false≢true (sym e ∙ p.1))
further c cs j e (inr f) = f

lowest : (k j : ℕ) (cs : List Check) → T (ascends k cs) → First j cs → Lowest j cs
unfolding First Fails
lowest k j [] t f = absurd f
lowest k j (c ∷ cs) t (inl p) = (inl p, least)
  where
    least : (i : ℕ) → Fails i (c ∷ cs) → j ≤ i
    least i (inl q) = omega (arith, p.0, q.0)
    least i (inr f) = omega (arith, p.0, at_least c.number i cs (rest_ascends k c cs t) f)
lowest k j (c ∷ cs) t (inr p) =
    let l = lowest c.number j cs (rest_ascends k c cs t) p.1 in
    (inr l.0, λ i f. l.1 i (further c cs i p.0 f))

first : (k j : ℕ) (cs : List Check) → T (ascends k cs) → Lowest j cs → First j cs
unfolding First Fails
first k j [] t l = l.0
first k j (c ∷ cs) t l = go c.fails refl l.0 (first c.number j cs (rest_ascends k c cs t))
  where
    go : (b : Bool) → c.fails ≡ b → Fails j (c ∷ cs) → (Lowest j cs → First j cs)
        → ((c.number ≡ j) × (c.fails ≡ true)) ⊎ ((c.fails ≡ false) × First j cs)
    go true e (inl p) on = inl p
    go true e (inr f) on = inl (omega (arith, l.1 c.number (inl (refl, e)), at_least c.number j cs (rest_ascends k c cs t) f), e)
    go false e f on = inr (e, on (further c cs j e f, λ i g. l.1 i (inr g)))

-- no number of it is 0
both_hold : (a b : Bool) → T a → T b → T (a && b)
both_hold true b s t = t
both_hold false b s t = absurd s

all_numbered : (k : ℕ) (cs : List Check) → 1 ≤ k → T (ascends k cs) → T (numbered cs)
unfolding numbered
all_numbered k [] h t = tt
all_numbered k (c ∷ cs) h t =
    let least : 1 ≤ c.number = omega (arith, first_number k c cs t) in
    both_hold (leb 1 c.number) (numbered cs) (le→leb 1 c.number least) (all_numbered c.number cs least (rest_ascends k c cs t))

pub by_the_table : ByTheTable
by_the_table cs t =
    let o = by_the_order cs (all_numbered 1 cs (omega arith) t) in
    record {
      given = λ k h e. lowest 1 k cs t (o.given k h e);
      when = λ k l. o.when k (first 1 k cs t l);
      nothing = o.nothing;
      else = o.else;
    }
