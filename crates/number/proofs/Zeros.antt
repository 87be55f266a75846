-- Zeros, of either sign: a product with one and a sum of two are zeros. Assumes nothing.
use Rattle.std.proofs.Common.{◌≡◌, ℕ, zero, suc, ◌*◌, ◌<◌, Bool, true, false, ◌&&◌, sym, refl, ap, ◌∙◌, subst, zero-lt-suc, mul-pos, zero-mul, arith, eqb-true}
use mathlib.Core.Bool.{or-true, false≢true}
use native.Mathlib.Nat as nat
use lib.Ieee.{Float, nan, inf, fin, Format, up, down, unlike, round, neg, sum, add, sub, mul, eq, of_bits}
use lib.Ieee.Fits.{up_pos}
use lib.Ieee.Scale.{finite}
use Rattle.number.specs.Float32 as float
use Rattle.number.proofs.Signs.{round_zero}

abbrev pub Zero : Float → Type 0
Zero nan = ⊥
Zero (inf s) = ⊥
Zero (fin s m e) = m ≡ 0

pub zero_finite : (x : Float) → Zero x → finite x ≡ true
zero_finite (fin s m e) z = refl
zero_finite nan z = elim z [ ]
zero_finite (inf _) z = elim z [ ]

-- ---- a zero is what equals zero

none : (m u : ℕ) → m * u * 1 ≡ 0 → 0 < u → m ≡ 0
none zero u h p = refl
none (suc m) u h p = let q = mul-pos (zero-lt-suc m) p in absurd (omega arith)

first : (a b : Bool) → (a && b) ≡ true → a ≡ true
first true b h = refl
first false b h = h

pub of_eq : (x : Float) → eq x float.zero ≡ true → Zero x
unfolding eq of_bits
of_eq nan h = absurd (false≢true h)
of_eq (inf s) h = absurd (false≢true h)
of_eq (fin s m e) h = none m (up e) (eqb-true _ _ (first _ _ h) ∙ zero-mul (down e)) (up_pos e)

pub to_eq : (x : Float) → Zero x → eq x float.zero ≡ true
unfolding eq of_bits
to_eq (fin s m e) z = rw z (simp (zero-mul, or-true))
to_eq nan z = elim z [ ]
to_eq (inf _) z = elim z [ ]

-- ---- what is made of zeros

rounded : (f : Format) (s : Bool) (a c : ℕ) → a ≡ 0 → Zero (round f s a c)
rounded f s a c z = subst Zero (sym (ap (λ (k : ℕ). round f s k c) z ∙ round_zero f s c)) refl

pub neg_zero : (x : Float) → Zero x → Zero (neg x)
unfolding neg
neg_zero (fin s m e) z = z
neg_zero nan z = elim z [ ]
neg_zero (inf _) z = elim z [ ]

pub of_neg_zero : (x : Float) → Zero (neg x) → Zero x
unfolding neg
of_neg_zero (fin s m e) z = z
of_neg_zero nan z = elim z [ ]
of_neg_zero (inf _) z = elim z [ ]

pub mul_zero : (f : Format) (x y : Float) → Zero x → finite y ≡ true → Zero (mul f x y)
unfolding mul
mul_zero f (fin s m e) nan z h = absurd (false≢true h)
mul_zero f (fin s m e) (inf t) z h = absurd (false≢true h)
mul_zero f (fin s m e) (fin t n d) z h = rounded f (unlike s t) (m * up e * (n * up d)) (down e * down d) (rw z (simp zero-mul))
mul_zero f nan y z h = elim z [ ]
mul_zero f (inf _) y z h = elim z [ ]

pub mul_zero_right : (f : Format) (x y : Float) → finite x ≡ true → Zero y → Zero (mul f x y)
unfolding mul
mul_zero_right f nan y h z = absurd (false≢true h)
mul_zero_right f (inf s) y h z = absurd (false≢true h)
mul_zero_right f (fin s m e) (fin t n d) h z = rounded f (unlike s t) (m * up e * (n * up d)) (down e * down d) (rw z (simp (zero-mul, nat.mul-zero)))
mul_zero_right f (fin s m e) nan h z = elim z [ ]
mul_zero_right f (fin s m e) (inf _) h z = elim z [ ]

sum_zero : (f : Format) (s t : Bool) (a b c : ℕ) → a ≡ 0 → b ≡ 0 → Zero (sum f s a t b c)
unfolding sum
sum_zero f true true a b c p q = rounded f true _ c (rw (p, q) refl)
sum_zero f false false a b c p q = rounded f false _ c (rw (p, q) refl)
sum_zero f true false a b c p q = rw (p, q) (rounded f false 0 c refl)
sum_zero f false true a b c p q = rw (p, q) (rounded f false 0 c refl)

pub add_zero : (f : Format) (x y : Float) → Zero x → Zero y → Zero (add f x y)
unfolding add
add_zero f (fin s m e) (fin t n d) z w = sum_zero f s t (m * up e * down d) (n * up d * down e) (down e * down d) (rw z (simp zero-mul)) (rw w (simp zero-mul))
add_zero f nan y z w = elim z [ ]
add_zero f (inf _) y z w = elim z [ ]
add_zero f (fin s m e) nan z w = elim w [ ]
add_zero f (fin s m e) (inf _) z w = elim w [ ]

pub sub_zero : (f : Format) (x y : Float) → Zero x → Zero y → Zero (sub f x y)
unfolding sub
sub_zero f x y z w = add_zero f x (neg y) z (neg_zero y w)
