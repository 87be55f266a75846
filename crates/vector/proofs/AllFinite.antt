-- x - x is a zero of a finite x and a NaN of any other, so a sum of two such is a NaN exactly when one of them is. Assumes nothing.
use Prim.Native.Nat.{ℕ, ◌-◌, ◌*◌}
use native.Mathlib.Nat.{sub_self}
use mathlib.Core.Path.{◌≡◌, refl, ap, ap₂, sym, subst, ◌∙◌}
use mathlib.Core.Bool.{Bool, true, false, not, cond, ◌&&◌, and_assoc, and_comm, false≢true}
use lib.Dec.{ltb}
use lib.Ieee.{Float, nan, inf, fin, binary32, up, down, eq, neg, round, sum, add, sub}
use lib.Ieee.Scale.{finite}
use Rattle.number.specs.Float32.{◌⊕◌, ◌⊖◌}
use Rattle.number.proofs.Same.{same_refl}
use Rattle.number.proofs.Signs.{round_zero}
use Rattle.number.proofs.Size.{less_itself, same_number}
use Rattle.number.proofs.Zeros.{Zero, zero_finite, add_zero}
use Rattle.vector.specs.declared.Vector.{Vector}
use Rattle.vector.specs.Vectors.{finite_vector}

nothing_left : (p t u : Bool) (a c : ℕ) → Zero (cond p (round binary32 t (a - a) c) (round binary32 u (a - a) c))
nothing_left true t u a c = subst Zero (sym (ap (λ (k : ℕ). round binary32 t k c) (sub_self a) ∙ round_zero binary32 t c)) refl
nothing_left false t u a c = subst Zero (sym (ap (λ (k : ℕ). round binary32 u k c) (sub_self a) ∙ round_zero binary32 u c)) refl

finite_less_itself : (x : Float) → finite x ≡ true → Zero (x ⊖ x)
unfolding sub add neg sum
finite_less_itself nan h = absurd (false≢true h)
finite_less_itself (inf s) h = absurd (false≢true h)
finite_less_itself (fin s m e) h = signs s
  where
    a : ℕ
    a = m * up e * down e

    signs : (s : Bool) → Zero (sum binary32 s a (not s) a (down e * down e))
    signs true = nothing_left (ltb a a) false (ltb a a) a (down e * down e)
    signs false = nothing_left (ltb a a) true false a (down e * down e)

other_less_itself : (x : Float) → finite x ≡ false → x ⊖ x ≡ nan
unfolding sub add neg
other_less_itself nan h = refl
other_less_itself (inf true) h = refl
other_less_itself (inf false) h = refl
other_less_itself (fin s m e) h = absurd (false≢true (sym h))

add_nan : (x : Float) → x ⊕ nan ≡ nan
unfolding add
add_nan nan = refl
add_nan (inf s) = refl
add_nan (fin s m e) = refl

abbrev test : Float → Bool
test x = eq x x

two : (x z : Float) → test ((x ⊖ x) ⊕ (z ⊖ z)) ≡ (finite x && finite z)
unfolding eq add
two x z = go (finite x) (finite z) refl refl
  where
    go : (p q : Bool) → finite x ≡ p → finite z ≡ q → test ((x ⊖ x) ⊕ (z ⊖ z)) ≡ (p && q)
    go true true f g =
        let zero = add_zero binary32 (x ⊖ x) (z ⊖ z) (finite_less_itself x f) (finite_less_itself z g) in
        same_number (same_refl ((x ⊖ x) ⊕ (z ⊖ z))) (zero_finite ((x ⊖ x) ⊕ (z ⊖ z)) zero)
    go true false f g = ap (λ (d : Float). test ((x ⊖ x) ⊕ d)) (other_less_itself z g) ∙ ap test (add_nan (x ⊖ x))
    go false q f g = ap (λ (d : Float). test (d ⊕ (z ⊖ z))) (other_less_itself x f)

-- x and z by one test, y by its own
pub all_three_finite : (v : Vector) → (test ((v.x ⊖ v.x) ⊕ (v.z ⊖ v.z)) && test (v.y ⊖ v.y)) ≡ finite_vector v
unfolding finite_vector
all_three_finite v =
    ap₂ ◌&&◌ (two v.x v.z) (less_itself binary32 v.y)
    ∙ and_assoc (finite v.x) (finite v.z) (finite v.y)
    ∙ ap (λ (b : Bool). finite v.x && b) (and_comm (finite v.z) (finite v.y))
    ∙ sym (and_assoc (finite v.x) (finite v.y) (finite v.z))
