-- The quotient of two whole numbers of 32 bits is finite, where the divisor is not 0. Assumes nothing.
use Rattle.std.proofs.Common.{◌≡◌, ℕ, suc, ◌*◌, ◌^◌, ◌<◌, ◌≤◌, Bool, true, false, cond, T, eqb, ℤ, pos, negsuc, nat_abs, refl, ap, ◌∙◌, subst, le_trans}
use Rattle.std.proofs.Common.{le_of_eq, lt_of_lt_of_le, zero-lt-suc, mul_assoc, mul_comm, mul-le-mul, mul-pos, zero-mul, mul_left_comm, arith, eqb-true}
use lib.Signed.{mag}
use lib.Ieee.{Float, nan, inf, fin, binary32, up, down, unlike, round, neg, div, le, of_int}
use lib.Ieee.Bits.{is_true}
use lib.Ieee.Fits.{down_pos}
use lib.Ieee.Order.{round_mono}
use lib.Ieee.Scale.{finite}
use Rattle.number.proofs.Signed.{over}
use Rattle.number.proofs.AtMost.{plus, round_plus, either, Within, AtMost, most_finite, Held, rounded_most}

-- ---- sizes

-- of a size at least 1, be it infinite
abbrev FromOne : Float → Type 0
FromOne nan = ⊥
FromOne (inf s) = Unit
FromOne (fin s m e) = down e ≤ m * up e

from_one_neg : (x : Float) → FromOne x → FromOne (neg x)
unfolding neg
from_one_neg nan h = h
from_one_neg (inf s) h = h
from_one_neg (fin s m e) h = h

above_one : (x : Float) → T (plus x) → T (le (fin false 1 (pos 0)) x) → FromOne x
unfolding le
above_one nan p t = absurd p
above_one (inf s) p t = tt
above_one (fin true m e) p t = absurd p
above_one (fin false m e) p t = omega (arith, over (1 * down e) (m * up e * 1) (is_true _ t))

-- ---- a fraction of at most 2 ^ 31, rounded

power : Held (2 ^ 31)
unfolding round
power = (refl, refl)

one : round binary32 false 1 1 ≡ fin false 1 (pos 0)
unfolding round
one = refl

rounded : (s : Bool) (a c : ℕ) → 0 < c → a ≤ 2 ^ 31 * c → AtMost (2 ^ 31) (round binary32 s a c)
rounded = rounded_most power

not_below_one : (s : Bool) (n : ℕ) → 1 ≤ n → FromOne (round binary32 s n 1)
not_below_one s n h =
    either FromOne from_one_neg s n 1
    (above_one _ (round_plus binary32 n 1)
    (subst (λ (y : Float). T (le y (round binary32 false n 1))) one (round_mono binary32 1 1 n 1 (zero-lt-suc 0) (zero-lt-suc 0) (omega arith))))

-- ---- a quotient

-- m / e ≤ b and 1 ≤ n / d, so (m / e) / (n / d) ≤ b
fraction : (m e n d b : ℕ) → m ≤ b * e → d ≤ n → m * d ≤ b * (n * e)
fraction m e n d b h g = le_trans (mul-le-mul h g) (le_of_eq (simp (mul_assoc, mul_comm, mul_left_comm)))

no_zero : (n : ℕ) (d : ℤ) → n ≡ 0 → down d ≤ n * up d → ⊥
no_zero n d e h = let z : n * up d ≡ 0 = ap (λ (k : ℕ). k * up d) e ∙ zero-mul (up d) in omega (arith, down_pos d)

quotient : (x y : Float) → Within (2 ^ 31) x → FromOne y → finite (div binary32 x y) ≡ true
unfolding div
quotient nan y h g = absurd h
quotient (inf s) y h g = absurd h
quotient (fin s m e) nan h g = absurd g
quotient (fin s m e) (inf t) h g = refl
quotient (fin s m e) (fin t n d) h g = go (eqb n 0) refl
  where
    go : (b : Bool) → eqb n 0 ≡ b
        → finite (cond b (cond (eqb m 0) nan (inf (unlike s t))) (round binary32 (unlike s t) (m * up e * down d) (n * up d * down e))) ≡ true
    go true z = absurd (no_zero n d (eqb-true n 0 z) g)
    go false z =
        let a = m * up e * down d in
        let c = n * up d * down e in
        most_finite
        (rounded (unlike s t) a c (mul-pos (lt_of_lt_of_le (down_pos d) g) (down_pos e)) (fraction (m * up e) (down e) (n * up d) (down d) (2 ^ 31) h g))

-- ---- of two whole numbers

whole_most : (z : ℤ) → mag z < 2 ^ 31 → AtMost (2 ^ 31) (of_int binary32 z)
unfolding of_int
whole_most (pos n) h = rounded false n 1 (zero-lt-suc 0) (omega arith)
whole_most (negsuc n) h = rounded true (suc n) 1 (zero-lt-suc 0) (omega arith)

whole_from_one : (z : ℤ) → 1 ≤ nat_abs z → FromOne (of_int binary32 z)
unfolding of_int
whole_from_one (pos n) h = not_below_one false n h
whole_from_one (negsuc n) h = not_below_one true (suc n) h

pub quotient_finite : (a b : ℤ) → mag a < 2 ^ 31 → 1 ≤ nat_abs b → finite (div binary32 (of_int binary32 a) (of_int binary32 b)) ≡ true
quotient_finite a b h z = quotient (of_int binary32 a) (of_int binary32 b) (whole_most a h).within (whole_from_one b z)
