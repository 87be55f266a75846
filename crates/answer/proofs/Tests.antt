-- What a test of several parts, or of what calls gave, says of its parts. Assumes nothing.
use Prim.Native.Nat.{ℕ}
use mathlib.Core.Path.{◌≡◌, refl, sym, ap, ap₂, ◌∙◌}
use mathlib.Core.Bool.{Bool, true, false, not, ◌&&◌, ◌||◌, false≢true}
use lib.Dec.{eqb}
use borrow.Author.Tests.{eq-eqb, ne_eqb}

-- ---- parts

pub both : (a b : Bool) → (a && b) ≡ true → (a ≡ true) × (b ≡ true)
both true b e = (refl, e)
both false b e = (e, cc)

pub all_three : (a b c : Bool) → (a && b && c) ≡ true → (a ≡ true) × (b ≡ true) × (c ≡ true)
all_three a b c e =
    let p = both (a && b) c e in
    let q = both a b p.0 in
    (q.0, q.1, p.1)

pub all_four : (a b c d : Bool) → (a && b && c && d) ≡ true → (a ≡ true) × (b ≡ true) × (c ≡ true) × (d ≡ true)
all_four a b c d e =
    let p = both (a && b && c) d e in
    let q = all_three a b c p.0 in
    (q.0, q.1, q.2, p.1)

pub neither : (a b : Bool) → (a || b) ≡ false → (a ≡ false) × (b ≡ false)
neither true b e = (e, cc)
neither false b e = (refl, e)

-- ---- what calls gave, by what they ensure

pub one : {r p v : Bool} → r ≡ p → not r ≡ v → not p ≡ v
one e h = ap not (sym e) ∙ h

pub two : {r s p q v : Bool} → r ≡ p → s ≡ q → not (r && s) ≡ v → not (p && q) ≡ v
two e f h = ap not (sym (ap₂ ◌&&◌ e f)) ∙ h

pub three : {r s t p q u : Bool} → r ≡ p → s ≡ q → t ≡ u → (r && s && t) ≡ (p && q && u)
three e f g = ap₂ ◌&&◌ (ap₂ ◌&&◌ e f) g

-- ---- a test of the opposite

pub untrue : (b : Bool) → not b ≡ true → b ≡ false
untrue true h = absurd (false≢true h)
untrue false h = refl

pub still : (b : Bool) → not b ≡ false → b ≡ true
still true h = refl
still false h = absurd (false≢true (sym h))

-- ---- two numbers

pub differs : (a b : ℕ) → (a ≡ b → ⊥) → not (eqb a b) ≡ true
differs a b h = ap not (ne_eqb a b h)

pub agrees : (a b : ℕ) → a ≡ b → not (eqb a b) ≡ false
agrees a b h = ap not (eq-eqb a b h)
