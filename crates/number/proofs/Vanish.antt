-- What a product or a sum that is zero says of its operands: a product by more than a half is zero only of zero; a sum, of two zeros or of two signs.
-- Assumes nothing.
use Rattle.std.proofs.Common.{◌≡◌, ℕ, zero, suc, ◌+◌, ◌*◌, ◌^◌, ◌<◌, ◌≤◌, Bool, true, false, not, T, sym, refl, ◌∙◌, subst, ap₂, zero-lt-suc}
use Rattle.std.proofs.Common.{lt_of_mul-lt-mul_right, mul-lt-mul_of_pos_right, mul-pos, zero-mul, arith, pow_pos, ltb-true}
use mathlib.Core.Bool.{false≢true}
use lib.Ieee.{Float, nan, inf, fin, binary32, fits, up, down, unlike, neg, add, mul, lt, of_bits}
use lib.Ieee.Fits.{up_pos, down_pos}
use lib.Ieee.Scale.{finite}
use Rattle.number.specs.Float32.{half}
use Rattle.number.specs.Same.{fabsf_of}
use Rattle.number.proofs.Zeros.{Zero, zero_finite}
use Rattle.number.proofs.Neutral.{plus_none, none_plus, same_zero}
use Rattle.number.proofs.Finite.{add_finite, mul_finite}
use Rattle.number.proofs.Rounding.{RoundedWhole}
use Rattle.number.proofs.Units.{Units, in_units, mul_units, mul_bounded, times_away, plus, add_units, add_bounded, plus_near}

-- ---- a number's sign and size, in units of the smallest

abbrev pub negative : Float → Bool
negative nan = false
negative (inf s) = s
negative (fin s m e) = s

pub neg_negative : (x : Float) → finite x ≡ true → negative (neg x) ≡ not (negative x)
unfolding neg
neg_negative nan f = absurd (false≢true f)
neg_negative (inf s) f = refl
neg_negative (fin s m e) f = refl

sign_is : (x : Float) {s : Bool} {a : ℕ} → Units x s a → negative x ≡ s
sign_is nan u = absurd u.value
sign_is (inf t) u = absurd u.value
sign_is (fin t m e) u = u.value.0

factor : (m p : ℕ) → 0 < p → m * p ≡ 0 → m ≡ 0
factor zero p P e = refl
factor (suc m) p P e = let h = mul-pos (zero-lt-suc m) P in absurd (omega arith)

zero_units : (x : Float) {s : Bool} {a : ℕ} → Units x s a → Zero x → a ≡ 0
zero_units (fin t m e) {s} {a} u z = factor a (down e) (down_pos e) (sym u.value.1 ∙ rw z (simp zero-mul))
zero_units nan {s = s} {a = a} u z = elim z [ ]
zero_units (inf _) {s = s} {a = a} u z = elim z [ ]

units_zero : (x : Float) {s : Bool} {a : ℕ} → Units x s a → a ≡ 0 → Zero x
units_zero nan u z = u.value
units_zero (inf t) u z = u.value
units_zero (fin t m e) u z = factor m (up e) (up_pos e) (factor (m * up e) (2 ^ 149) (pow_pos 149) (u.value.1 ∙ rw z (simp zero-mul)))

-- ---- a product

wide_units : (x : Float) {s : Bool} {a : ℕ} → Units x s a → lt half (fabsf_of x) ≡ true → 2 ^ 149 < a * 2
unfolding lt fabsf_of of_bits
wide_units nan u h = absurd u.value
wide_units (inf t) u h = absurd u.value
wide_units (fin t m e) {s} {a} u h = go (2 ^ 149) (m * up e) (down e) (pow_pos 149) u.value.1 (ltb-true _ _ h)
  where
    go : (u m d : ℕ) → 0 < u → m * u ≡ a * d → 1 * 1 * d < m * 2 → u < a * 2
    go u m d U v l = lt_of_mul-lt-mul_right d (omega (arith, mul-lt-mul_of_pos_right l U))

-- by more than a half, the smallest stays
pub wide_product : (a x : Float) → lt half (fabsf_of a) ≡ true → T (fits binary32 a) → T (fits binary32 x) → Zero (mul binary32 a x) → Zero x
wide_product a x w t k z =
    let f = zero_finite (mul binary32 a x) z in
    let (fa, fx) = mul_finite binary32 a x f in
    let (_, m, h) = in_units a t fa in
    let (_, n, l) = in_units x k fx in
    units_zero x l (go (2 ^ 149) m n (wide_units a h w) (times_away m n (zero_units (mul binary32 a x) (mul_units a x h l (mul_bounded a x h l f)) z)))
  where
    go : (u m n : ℕ) → u < m * 2 → 2 * (m * n) ≤ u → n ≡ 0
    go u m zero w l = refl
    go u m (suc n) w l = absurd (omega arith)

pub mul_negative
    : (x y : Float) → T (fits binary32 x) → T (fits binary32 y) → finite (mul binary32 x y) ≡ true
    → negative (mul binary32 x y) ≡ unlike (negative x) (negative y)
mul_negative x y t k f =
    let (fx, fy) = mul_finite binary32 x y f in
    let (_, _, h) = in_units x t fx in
    let (_, _, l) = in_units y k fy in
    sign_is (mul binary32 x y) (mul_units x y h l (mul_bounded x y h l f)) ∙ sym (ap₂ unlike (sign_is x h) (sign_is y l))

-- ---- a sum

-- with one sign nothing is taken away
none_taken : (x y : Float) → T (fits binary32 x) → T (fits binary32 y) → Zero (add binary32 x y) → negative x ≡ negative y → Zero x
none_taken x y t k z e =
    let f = zero_finite (add binary32 x y) z in
    let (fx, fy) = add_finite binary32 x y f in
    let (s, a, h) = in_units x t fx in
    let (r, b, l) = in_units y k fy in
    let l' : Units y s b = subst (λ (v : Bool). Units y v b) (sym (sign_is y l) ∙ sym e ∙ sign_is x h) l in
    units_zero x h (go a b (plus a b) (plus_near a b) (zero_units (add binary32 x y) (add_units x y h l' (add_bounded x y h l' f)) z))
  where
    go : (a b g : ℕ) → RoundedWhole (a + b) g → g ≡ 0 → a ≡ 0
    go a b g n z = omega arith

-- both are zero or neither, and where they have one sign both
pub record Cancel (x y : Float) : Type 0 where
  pub along : Zero x → Zero y
  pub back : Zero y → Zero x
  pub signs : negative x ≡ negative y → Zero x

pub cancel : (x y : Float) → T (fits binary32 x) → T (fits binary32 y) → Zero (add binary32 x y) → Cancel x y
cancel x y t k z =
    record {
      along = λ n. same_zero (none_plus binary32 y x k t n) z;
      back = λ n. same_zero (plus_none binary32 x y t k n) z;
      signs = none_taken x y t k z;
    }
