-- A sum, a difference or a product is finite only where both its operands are: so a test of a result is a test of what it was made of. Assumes nothing.
use Rattle.std.proofs.Common.{◌≡◌, Bool, true, false, cond, eqb, refl}
use mathlib.Core.Bool.{false≢true}
use lib.Ieee.{Float, nan, inf, fin, Format, neg, add, sub, mul}
use lib.Ieee.Scale.{finite}
use Rattle.number.proofs.Signs.{finite_neg}

-- both are finite
abbrev pub Both : Float → Float → Type 0
Both x y = (finite x ≡ true) × (finite y ≡ true)

pub add_finite : (f : Format) (x y : Float) → finite (add f x y) ≡ true → Both x y
unfolding add
add_finite f nan y h = absurd (false≢true h)
add_finite f (inf s) nan h = absurd (false≢true h)
add_finite f (inf true) (inf true) h = absurd (false≢true h)
add_finite f (inf true) (inf false) h = absurd (false≢true h)
add_finite f (inf false) (inf true) h = absurd (false≢true h)
add_finite f (inf false) (inf false) h = absurd (false≢true h)
add_finite f (inf s) (fin t n d) h = absurd (false≢true h)
add_finite f (fin s m e) nan h = absurd (false≢true h)
add_finite f (fin s m e) (inf t) h = absurd (false≢true h)
add_finite f (fin s m e) (fin t n d) h = (refl, refl)

pub sub_finite : (f : Format) (x y : Float) → finite (sub f x y) ≡ true → Both x y
unfolding sub
sub_finite f x y h =
    let b = add_finite f x (neg y) h in
    (b.0, (rw (finite_neg y) at b).1)

-- an infinity times a number is a NaN or an infinity
neither : (b s : Bool) → finite (cond b nan (inf s)) ≡ true → ⊥
neither true s h = false≢true h
neither false s h = false≢true h

pub mul_finite : (f : Format) (x y : Float) → finite (mul f x y) ≡ true → Both x y
unfolding mul
mul_finite f nan y h = absurd (false≢true h)
mul_finite f (inf s) nan h = absurd (false≢true h)
mul_finite f (inf s) (inf t) h = absurd (false≢true h)
mul_finite f (inf s) (fin t n d) h = absurd (neither (eqb n 0) _ h)
mul_finite f (fin s m e) nan h = absurd (false≢true h)
mul_finite f (fin s m e) (inf t) h = absurd (neither (eqb m 0) _ h)
mul_finite f (fin s m e) (fin t n d) h = (refl, refl)
