-- Laws of the float operations under a change of sign, which holds of sums but for the sign of a zero (`Like`). Assumes nothing.
use Rattle.std.proofs.Common.{◌≡◌, ℕ, zero, suc, ◌+◌, ◌-◌, ◌*◌, ◌^◌, ◌≤◌, Bool, true, false, cond, not, T, eqb, ltb, pos, refl, ap, ◌∙◌, zero-mul}
use Rattle.std.proofs.Common.{sub-eq-zero_of_le, nltb→le}
use Prim.Native.Nat.compare
use Prim.Native.Nat.{compare}
use native.Mathlib.Nat.{zero-div, zero-mod}
use lib.Ieee.{Float, nan, inf, fin, Format, binary32, binary64, prec, low, emax, up, down, unlike, nearest, odd, units, round, neg, sum, add, sub, mul}
use lib.Ieee.Fits.{round_is}
use lib.Ieee.Scale.{finite}
use Rattle.number.specs.Same.{plain, fabsf_of}

-- equal but for the sign of a zero
abbrev pub Like : Float → Float → Type 0
Like x y = plain x ≡ plain y

pub neg_neg : (x : Float) → neg (neg x) ≡ x
unfolding neg
neg_neg nan = refl
neg_neg (inf true) = refl
neg_neg (inf false) = refl
neg_neg (fin true m e) = refl
neg_neg (fin false m e) = refl

odd_neg : (d : ℕ) (s : Bool) (q k l : ℕ) → odd d (not s) q k l ≡ neg (odd d s q k l)
unfolding odd neg
odd_neg d s zero k l = refl
odd_neg d s (suc q) k l = refl

units_neg : (f : Format) (s : Bool) (q k : ℕ) → units f (not s) q k ≡ neg (units f s q k)
unfolding units neg
units_neg f s q k = go (ltb (q * 2 ^ k) (2 ^ (low f + suc (emax f))))
  where
    go : (b : Bool) → cond b (odd (suc (prec f)) (not s) q k (low f)) (inf (not s)) ≡ neg (cond b (odd (suc (prec f)) s q k (low f)) (inf s))
    go true = odd_neg (suc (prec f)) s q k (low f)
    go false = refl

pub round_neg : (f : Format) (s : Bool) (a b : ℕ) → round f (not s) a b ≡ neg (round f s a b)
unfolding round
round_neg f s a b = units_neg f s _ _

nearest_zero : (u : ℕ) → nearest 0 (compare 0 u) ≡ 0
nearest_zero zero = ap (nearest 0) compare.zero-zero
nearest_zero (suc u) = ap (nearest 0) (compare.zero-suc u)

units_zero : (f : Format) (s : Bool) (k : ℕ) → units f s 0 k ≡ fin s 0 (pos 0)
unfolding units odd
units_zero binary32 s k = rw zero-mul
units_zero binary64 s k = rw zero-mul

-- a fraction that is zero rounds to zero
pub round_zero : (f : Format) (s : Bool) (c : ℕ) → round f s 0 c ≡ fin s 0 (pos 0)
round_zero f s c = round_is f s 0 c ∙ (simp (zero-mul, zero-div, zero-mod, nearest_zero) (units_zero f s _))

-- a fraction that is zero rounds to a zero, whatever its sign
pub zero_same : (f : Format) (s t : Bool) (a c : ℕ) → a ≡ 0 → Like (round f s a c) (round f t a c)
unfolding plain
zero_same f s t a c z = rw z (rw (round_zero f s c, round_zero f t c))

zero_same_neg : (f : Format) (a c : ℕ) → a ≡ 0 → Like (round f false a c) (neg (round f false a c))
zero_same_neg f a c z = zero_same f false true a c z ∙ ap plain (round_neg f false a c)

sum_neg : (f : Format) (s : Bool) (a : ℕ) (t : Bool) (b c : ℕ) → Like (sum f (not s) a (not t) b c) (neg (sum f s a t b c))
unfolding sum
sum_neg f true a true b c = ap plain (round_neg f true (a + b) c)
sum_neg f false a false b c = ap plain (round_neg f false (a + b) c)
sum_neg f true a false b c = go (ltb a b) (ltb b a) (nltb→le a b) (nltb→le b a)
  where
    go : (p q : Bool) → (T (not p) → b ≤ a) → (T (not q) → a ≤ b)
        → Like (cond p (round f true (b - a) c) (round f false (a - b) c)) (neg (cond p (round f false (b - a) c) (round f q (a - b) c)))
    go true q h k = ap plain (round_neg f false (b - a) c)
    go false true h k = ap plain (round_neg f true (a - b) c)
    go false false h k = zero_same_neg f (a - b) c (sub-eq-zero_of_le (k tt))
sum_neg f false a true b c = go (ltb a b) (ltb b a) (nltb→le a b) (nltb→le b a)
  where
    go : (p q : Bool) → (T (not p) → b ≤ a) → (T (not q) → a ≤ b)
        → Like (cond p (round f false (b - a) c) (round f q (a - b) c)) (neg (cond p (round f true (b - a) c) (round f false (a - b) c)))
    go true q h k = ap plain (round_neg f true (b - a) c)
    go false true h k = ap plain (round_neg f false (a - b) c)
    go false false h k = zero_same_neg f (a - b) c (sub-eq-zero_of_le (k tt))

-- the sum of two floats with their signs changed is the sum with its sign changed, but for the sign of a zero
pub add_neg_like : (f : Format) (x y : Float) → Like (add f (neg x) (neg y)) (neg (add f x y))
unfolding add neg
add_neg_like f nan y = refl
add_neg_like f (inf s) nan = refl
add_neg_like f (inf true) (inf true) = refl
add_neg_like f (inf true) (inf false) = refl
add_neg_like f (inf false) (inf true) = refl
add_neg_like f (inf false) (inf false) = refl
add_neg_like f (inf s) (fin t n d) = refl
add_neg_like f (fin s m e) nan = refl
add_neg_like f (fin s m e) (inf t) = refl
add_neg_like f (fin s m e) (fin t n d) = sum_neg f s (m * up e * down d) t (n * up d * down e) (down e * down d)

pub sub_neg_like : (f : Format) (x y : Float) → Like (sub f (neg x) (neg y)) (neg (sub f x y))
unfolding sub
sub_neg_like f x y = add_neg_like f x (neg y)

unlike_not : (s t : Bool) → unlike (not s) t ≡ not (unlike s t)
unlike_not true true = refl
unlike_not true false = refl
unlike_not false true = refl
unlike_not false false = refl

nan_or_inf : (b s t : Bool) → cond b nan (inf (unlike (not s) t)) ≡ neg (cond b nan (inf (unlike s t)))
unfolding neg
nan_or_inf true s t = refl
nan_or_inf false s t = ap inf (unlike_not s t)

pub mul_neg : (f : Format) (x y : Float) → mul f (neg x) y ≡ neg (mul f x y)
unfolding mul neg
mul_neg f nan y = refl
mul_neg f (inf s) nan = refl
mul_neg f (inf s) (inf t) = ap inf (unlike_not s t)
mul_neg f (inf s) (fin t n d) = nan_or_inf (eqb n 0) s t
mul_neg f (fin s m e) nan = refl
mul_neg f (fin s m e) (inf t) = nan_or_inf (eqb m 0) s t
mul_neg f (fin s m e) (fin t n d) =
    ap (λ (b : Bool). round f b (m * up e * (n * up d)) (down e * down d)) (unlike_not s t)
    ∙ round_neg f (unlike s t) (m * up e * (n * up d)) (down e * down d)

pub finite_neg : (x : Float) → finite (neg x) ≡ finite x
unfolding neg
finite_neg nan = refl
finite_neg (inf s) = refl
finite_neg (fin s m e) = refl

pub fabsf_neg : (x : Float) → fabsf_of (neg x) ≡ fabsf_of x
unfolding fabsf_of neg
fabsf_neg nan = refl
fabsf_neg (inf s) = refl
fabsf_neg (fin s m e) = refl
