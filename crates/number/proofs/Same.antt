-- Laws of `Same`: every operation and every test takes floats that are the same number to results that are. Assumes nothing.
use Rattle.std.proofs.Common.{◌≡◌, ℕ, zero, suc, ◌*◌, Bool, true, false, ◌&&◌, ◌||◌, eqb, ltb, sym, refl, ap, ◌∙◌, ap₂, add-zero, mul-zero, zero-add, zero-mul}
use mathlib.Core.Bool.{beq, or-true}
use native.Mathlib.Nat.{sub-zero}
use lib.Dec.{leb-zero, leb-suc-suc, leb-suc-zero}
use lib.Ieee.{Float, nan, inf, fin, Format, up, down, unlike, round, neg, sum, add, sub, mul, below, level, lt, le, eq}
use lib.Ieee.Scale.{finite}
use Rattle.number.specs.Same.{plain, Same, fabsf_of}
use Rattle.number.proofs.Signs.{Like, zero_same, add_neg_like, sub_neg_like}

neg_plain : (x : Float) → Like (neg x) (neg (plain x))
unfolding neg plain
neg_plain nan = refl
neg_plain (inf s) = refl
neg_plain (fin s zero e) = refl
neg_plain (fin s (suc m) e) = refl

above_zero : (n : ℕ) → ltb 0 (suc n) ≡ true
above_zero n = leb-suc-suc 0 n ∙ leb-zero n

-- zero plus ±b / c
pub sum_left : (f : Format) (s t : Bool) (a b c : ℕ) → a ≡ 0 → Like (sum f s a t b c) (round f t b c)
unfolding sum
sum_left f true true a b c z = rw z (rw zero-add)
sum_left f false false a b c z = rw z (rw zero-add)
sum_left f true false a zero c z = rw z refl
sum_left f true false a (suc b) c z = rw z (rw (above_zero b, sub-zero))
sum_left f false true a zero c z = rw z (zero_same f false true 0 c refl)
sum_left f false true a (suc b) c z = rw z (rw (above_zero b, sub-zero))

-- ±a / c plus zero
sum_right : (f : Format) (s t : Bool) (a b c : ℕ) → b ≡ 0 → Like (sum f s a t b c) (round f s a c)
unfolding sum
sum_right f true true a b c z = rw z (rw add-zero)
sum_right f false false a b c z = rw z (rw add-zero)
sum_right f true false zero b c z = rw z (zero_same f false true 0 c refl)
sum_right f true false (suc a) b c z = rw z (rw (leb-suc-zero (suc a), above_zero a, sub-zero))
sum_right f false true a b c z = rw z (rw (leb-suc-zero a, sub-zero))

zeros : (a b : ℕ) → 0 * a * b ≡ 0
zeros a b = simp zero-mul

add_plain : (f : Format) (x y : Float) → Like (add f x y) (add f (plain x) (plain y))
unfolding add plain
add_plain f nan y = refl
add_plain f (inf s) nan = refl
add_plain f (inf s) (inf t) = refl
add_plain f (inf s) (fin t zero d) = refl
add_plain f (inf s) (fin t (suc n) d) = refl
add_plain f (fin s zero e) nan = refl
add_plain f (fin s (suc m) e) nan = refl
add_plain f (fin s zero e) (inf t) = refl
add_plain f (fin s (suc m) e) (inf t) = refl
add_plain f (fin s zero e) (fin t zero d) =
    sum_left f s t (0 * up e * down d) (0 * up d * down e) (down e * down d) (zeros (up e) (down d))
    ∙ zero_same f t false (0 * up d * down e) (down e * down d) (zeros (up d) (down e))
    ∙ sym (sum_left f false false (0 * up e * down d) (0 * up d * down e) (down e * down d) (zeros (up e) (down d)))
add_plain f (fin s zero e) (fin t (suc n) d) =
    sum_left f s t (0 * up e * down d) (suc n * up d * down e) (down e * down d) (zeros (up e) (down d))
    ∙ sym (sum_left f false t (0 * up e * down d) (suc n * up d * down e) (down e * down d) (zeros (up e) (down d)))
add_plain f (fin s (suc m) e) (fin t zero d) =
    sum_right f s t (suc m * up e * down d) (0 * up d * down e) (down e * down d) (zeros (up d) (down e))
    ∙ sym (sum_right f s false (suc m * up e * down d) (0 * up d * down e) (down e * down d) (zeros (up d) (down e)))
add_plain f (fin s (suc m) e) (fin t (suc n) d) = refl

mul_zeros : (a b : ℕ) → a * (0 * b) ≡ 0
mul_zeros a b = simp (zero-mul, mul-zero)

mul_plain : (f : Format) (x y : Float) → Like (mul f x y) (mul f (plain x) (plain y))
unfolding mul plain
mul_plain f nan y = refl
mul_plain f (inf s) nan = refl
mul_plain f (inf s) (inf t) = refl
mul_plain f (inf s) (fin t zero d) = refl
mul_plain f (inf s) (fin t (suc n) d) = refl
mul_plain f (fin s zero e) nan = refl
mul_plain f (fin s (suc m) e) nan = refl
mul_plain f (fin s zero e) (inf t) = refl
mul_plain f (fin s (suc m) e) (inf t) = refl
mul_plain f (fin s zero e) (fin t zero d) =
    zero_same f (unlike s t) false (0 * up e * (0 * up d)) (down e * down d) (mul_zeros (0 * up e) (up d))
mul_plain f (fin s zero e) (fin t (suc n) d) =
    zero_same f (unlike s t) (unlike false t) (0 * up e * (suc n * up d)) (down e * down d) (zeros (up e) (suc n * up d))
mul_plain f (fin s (suc m) e) (fin t zero d) =
    zero_same f (unlike s t) (unlike s false) (suc m * up e * (0 * up d)) (down e * down d) (mul_zeros (suc m * up e) (up d))
mul_plain f (fin s (suc m) e) (fin t (suc n) d) = refl

below_left : (s t : Bool) (a b : ℕ) → a ≡ 0 → below s a t b ≡ below false a t b
below_left false t a b z = refl
below_left true false a b z = rw z (rw zero-add)
below_left true true a b z = rw z (leb-suc-zero b)

below_right : (s t : Bool) (a b : ℕ) → b ≡ 0 → below s a t b ≡ below s a false b
below_right s false a b z = refl
below_right false true a b z = rw z (sym (leb-suc-zero a))
below_right true true a b z = rw z (rw add-zero)

lt_plain : (x y : Float) → lt x y ≡ lt (plain x) (plain y)
unfolding lt plain
lt_plain nan y = refl
lt_plain (inf s) nan = refl
lt_plain (inf s) (inf t) = refl
lt_plain (inf s) (fin t zero d) = refl
lt_plain (inf s) (fin t (suc n) d) = refl
lt_plain (fin s zero e) nan = refl
lt_plain (fin s (suc m) e) nan = refl
lt_plain (fin s zero e) (inf t) = refl
lt_plain (fin s (suc m) e) (inf t) = refl
lt_plain (fin s zero e) (fin t zero d) =
    below_left s t (0 * up e * down d) (0 * up d * down e) (zeros (up e) (down d))
    ∙ below_right false t (0 * up e * down d) (0 * up d * down e) (zeros (up d) (down e))
lt_plain (fin s zero e) (fin t (suc n) d) = below_left s t (0 * up e * down d) (suc n * up d * down e) (zeros (up e) (down d))
lt_plain (fin s (suc m) e) (fin t zero d) = below_right s t (suc m * up e * down d) (0 * up d * down e) (zeros (up d) (down e))
lt_plain (fin s (suc m) e) (fin t (suc n) d) = refl

level_left : (s t r : Bool) (a b : ℕ) → a ≡ 0 → level s a t b ≡ level false a r b
level_left s t r a b z = rw z (rw (or-true (beq s t), or-true (beq false r)))

absorb : (p q : Bool) → (p && (q || p)) ≡ p
absorb true true = refl
absorb true false = refl
absorb false q = refl

level_right : (s t : Bool) (a b : ℕ) → b ≡ 0 → level s a t b ≡ level s a false b
level_right s t a b z = rw z (absorb (eqb a 0) (beq s t) ∙ sym (absorb (eqb a 0) (beq s false)))

eq_plain : (x y : Float) → eq x y ≡ eq (plain x) (plain y)
unfolding eq plain
eq_plain nan y = refl
eq_plain (inf s) nan = refl
eq_plain (inf s) (inf t) = refl
eq_plain (inf s) (fin t zero d) = refl
eq_plain (inf s) (fin t (suc n) d) = refl
eq_plain (fin s zero e) nan = refl
eq_plain (fin s (suc m) e) nan = refl
eq_plain (fin s zero e) (inf t) = refl
eq_plain (fin s (suc m) e) (inf t) = refl
eq_plain (fin s zero e) (fin t zero d) = level_left s t false (0 * up e * down d) (0 * up d * down e) (zeros (up e) (down d))
eq_plain (fin s zero e) (fin t (suc n) d) = level_left s t t (0 * up e * down d) (suc n * up d * down e) (zeros (up e) (down d))
eq_plain (fin s (suc m) e) (fin t zero d) = level_right s t (suc m * up e * down d) (0 * up d * down e) (zeros (up d) (down e))
eq_plain (fin s (suc m) e) (fin t (suc n) d) = refl

pub finite_plain : (x : Float) → finite x ≡ finite (plain x)
unfolding plain
finite_plain nan = refl
finite_plain (inf s) = refl
finite_plain (fin s zero e) = refl
finite_plain (fin s (suc m) e) = refl

fabsf_plain : (x : Float) → fabsf_of x ≡ fabsf_of (plain x)
unfolding fabsf_of plain
fabsf_plain nan = refl
fabsf_plain (inf s) = refl
fabsf_plain (fin s zero e) = refl
fabsf_plain (fin s (suc m) e) = refl

-- ---- what holds of `Same`: cite these

pub same_refl : (x : Float) → Same x x
same_refl x = record { number = refl }

pub same_of : {x y : Float} → x ≡ y → Same x y
same_of p = record { number = ap plain p }

pub same_sym : {x y : Float} → Same x y → Same y x
same_sym p = record { number = sym p.number }

pub same_trans : {x y z : Float} → Same x y → Same y z → Same x z
same_trans p q = record { number = p.number ∙ q.number }

-- a sum or a difference of two floats with their signs changed is the one of the two with its sign changed, but for the sign of a zero
pub add_neg : (f : Format) (x y : Float) → Same (add f (neg x) (neg y)) (neg (add f x y))
add_neg f x y = record { number = add_neg_like f x y }

pub sub_neg : (f : Format) (x y : Float) → Same (sub f (neg x) (neg y)) (neg (sub f x y))
sub_neg f x y = record { number = sub_neg_like f x y }

pub same_neg : {x y : Float} → Same x y → Same (neg x) (neg y)
same_neg {x} {y} p = record { number = neg_plain x ∙ ap (λ (z : Float). plain (neg z)) p.number ∙ sym (neg_plain y) }

pub same_add : (f : Format) {x x' y y' : Float} → Same x x' → Same y y' → Same (add f x y) (add f x' y')
same_add f {x} {x'} {y} {y'} p q =
    record { number = add_plain f x y ∙ ap₂ (λ (u v : Float). plain (add f u v)) p.number q.number ∙ sym (add_plain f x' y') }

pub same_sub : (f : Format) {x x' y y' : Float} → Same x x' → Same y y' → Same (sub f x y) (sub f x' y')
unfolding sub
same_sub f p q = same_add f p (same_neg q)

pub same_mul : (f : Format) {x x' y y' : Float} → Same x x' → Same y y' → Same (mul f x y) (mul f x' y')
same_mul f {x} {x'} {y} {y'} p q =
    record { number = mul_plain f x y ∙ ap₂ (λ (u v : Float). plain (mul f u v)) p.number q.number ∙ sym (mul_plain f x' y') }

pub same_lt : {x x' y y' : Float} → Same x x' → Same y y' → lt x y ≡ lt x' y'
same_lt {x} {x'} {y} {y'} p q = lt_plain x y ∙ ap₂ lt p.number q.number ∙ sym (lt_plain x' y')

pub same_eq : {x x' y y' : Float} → Same x x' → Same y y' → eq x y ≡ eq x' y'
same_eq {x} {x'} {y} {y'} p q = eq_plain x y ∙ ap₂ eq p.number q.number ∙ sym (eq_plain x' y')

pub same_le : {x x' y y' : Float} → Same x x' → Same y y' → le x y ≡ le x' y'
unfolding le
same_le p q = ap₂ ◌||◌ (same_lt p q) (same_eq p q)

pub same_finite : {x y : Float} → Same x y → finite x ≡ finite y
same_finite {x} {y} p = finite_plain x ∙ ap finite p.number ∙ sym (finite_plain y)

-- the size has no sign to lose, so it is equal as data
pub same_fabsf : {x y : Float} → Same x y → fabsf_of x ≡ fabsf_of y
same_fabsf {x} {y} p = fabsf_plain x ∙ ap fabsf_of p.number ∙ sym (fabsf_plain y)
