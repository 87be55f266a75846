-- What the tests of `fabsf` and of `is_finite` say of a float; and that two finite floats that are `Same` compare as equal. Assumes nothing.
use Rattle.std.proofs.Common.{◌≡◌, ℕ, zero, suc, ◌+◌, ◌-◌, ◌*◌, ◌^◌, ◌<◌, Bool, true, false, cond, not, ◌&&◌, ◌||◌, T, eqb, ltb, ℤ, pos, negsuc, sym, refl, ap}
use Rattle.std.proofs.Common.{◌∙◌, subst, true≢false, add-zero, zero-lt-suc, mul-pos, one-mul, zero-mul, mul-one, arith, eqb→eq, pow_pos, lt-ltb}
use mathlib.Core.Bool.{beq, false≢true}
use native.Mathlib.Nat.{sub_self, pow-succ'}
use lib.Dec.{eqb_refl, leb-zero, leb-suc-suc, leb-suc-zero}
use lib.Ieee.{Float, nan, inf, fin, Format, binary32, up, down, round, neg, sum, sub, lt, eq, fits}
use lib.Ieee.Bits.{is_true}
use lib.Ieee.Fits.{up_pos, and_l}
use lib.Ieee.Scale.{finite}
use Rattle.number.specs.Same.{Same, plain, fabsf_of}
use Rattle.number.proofs.Signs.{round_zero}
use Rattle.number.proofs.Same.{same_refl, same_sym, same_lt, same_eq}

abbrev pub nought : Float
nought = fin false 0 (pos 0)

-- ---- the size

not_below_zero : (a b : ℕ) → b ≡ 0 → ltb a b ≡ true → ⊥
not_below_zero a b z h = false≢true (sym (leb-suc-zero a) ∙ ap (ltb a) (sym z) ∙ h)

pub fabsf_negative : (x : Float) → lt x nought ≡ true → neg x ≡ fabsf_of x
unfolding lt neg fabsf_of
fabsf_negative nan h = refl
fabsf_negative (inf true) h = refl
fabsf_negative (inf false) h = absurd (false≢true h)
fabsf_negative (fin true m e) h = refl
fabsf_negative (fin false m e) h = absurd (not_below_zero (m * up e * 1) (0 * down e) (zero-mul (down e)) h)

two_up : (p : ℕ) → 0 < p → 2 * p ≡ 1 → ⊥
two_up p h e = omega arith

pub flat : (e : ℤ) → up e * down e ≡ 1 → e ≡ pos 0
flat (pos zero) h = refl
flat (pos (suc k)) h = absurd (two_up (2 ^ k) (pow_pos k) (sym (pow-succ' 2 k) ∙ sym (mul-one (2 ^ suc k)) ∙ h))
flat (negsuc k) h = absurd (two_up (2 ^ k) (pow_pos k) (sym (pow-succ' 2 k) ∙ sym (one-mul (2 ^ suc k)) ∙ h))

above_zero : (a b : ℕ) → 0 < a → a ≡ b → b ≡ 0 → ⊥
above_zero a b h e z = omega arith

pub fabsf_nought : (x : Float) → T (fits binary32 x) → eq x nought ≡ true → nought ≡ fabsf_of x
unfolding eq fits fabsf_of
fabsf_nought nan t h = absurd (false≢true h)
fabsf_nought (inf s) t h = absurd (false≢true h)
fabsf_nought (fin s zero e) t h = ap (λ (d : ℤ). fin false 0 d) (sym (flat e (eqb→eq (up e * down e) 1 t)))
fabsf_nought (fin s (suc m) e) t h =
    let a = suc m * up e * 1 in
    let b = 0 * down e in
    absurd (above_zero a b (mul-pos (mul-pos (zero-lt-suc m) (up_pos e)) (zero-lt-suc 0))
    (eqb→eq a b (and_l (eqb a b) (beq s false || eqb a 0) (subst T (sym h) tt))) (zero-mul (down e)))

-- of a negative number either test passes
one_passes : (a b : ℕ) → b ≡ 0 → ltb 0 (a + b) ≡ false → (eqb a b && eqb a 0) ≡ false → ⊥
one_passes zero b z h k = true≢false (rw z at k)
one_passes (suc a) b z h k =
    true≢false (sym (leb-suc-suc 0 a ∙ leb-zero a) ∙ ap (λ (n : ℕ). ltb 0 n) (sym (add-zero (suc a)) ∙ ap (λ (n : ℕ). suc a + n) (sym z)) ∙ h)

pub fabsf_other : (x : Float) → lt x nought ≡ false → eq x nought ≡ false → x ≡ fabsf_of x
unfolding lt eq fabsf_of
fabsf_other nan h k = refl
fabsf_other (inf true) h k = absurd (true≢false h)
fabsf_other (inf false) h k = refl
fabsf_other (fin true m e) h k = absurd (one_passes (m * up e * 1) (0 * down e) (zero-mul (down e)) h k)
fabsf_other (fin false m e) h k = refl

-- what is not below zero is its own size, but for the sign of a zero
not_negative : (x : Float) → lt x nought ≡ false → Same x (fabsf_of x)
unfolding lt fabsf_of plain
not_negative nan h = record { number = refl }
not_negative (inf true) h = absurd (true≢false h)
not_negative (inf false) h = record { number = refl }
not_negative (fin true zero e) h = record { number = refl }
not_negative (fin true (suc m) e) h =
    absurd (true≢false (sym (lt-ltb 0 (suc m * up e * 1 + 0 * down e) (above _ _ (mul-pos (mul-pos (zero-lt-suc m) (up_pos e)) (zero-lt-suc 0)))) ∙ h))
  where
    above : (a b : ℕ) → 0 < a → 0 < a + b
    above a b h = omega arith
not_negative (fin false m e) h = record { number = refl }

pub size_above : (l x : Float) → lt x nought ≡ false → lt l x ≡ lt l (fabsf_of x)
size_above l x h = same_lt (same_refl l) (not_negative x h)

-- ---- finite

itself : (s : Bool) → eq (fin s 0 (pos 0)) (fin s 0 (pos 0)) ≡ true
unfolding eq
itself true = refl
itself false = refl

zero_itself : (f : Format) (s : Bool) (a c : ℕ) → a ≡ 0 → eq (round f s a c) (round f s a c) ≡ true
zero_itself f s a c z = rw z (rw (round_zero f s c) (itself s))

-- x - x is a number, and so equal to itself, only where x is finite
pub less_itself : (f : Format) (x : Float) → eq (sub f x x) (sub f x x) ≡ finite x
unfolding eq sub
less_itself f nan = refl
less_itself f (inf true) = refl
less_itself f (inf false) = refl
less_itself f (fin s m e) = signs s
  where
    a : ℕ
    a = m * up e * down e

    c : ℕ
    c = down e * down e

    go : (p t u : Bool) → eq (cond p (round f t (a - a) c) (round f u (a - a) c)) (cond p (round f t (a - a) c) (round f u (a - a) c)) ≡ true
    go true t u = zero_itself f t (a - a) c (sub_self a)
    go false t u = zero_itself f u (a - a) c (sub_self a)

    signs : (s : Bool) → eq (sum f s a (not s) a c) (sum f s a (not s) a c) ≡ true
    signs true = go (ltb a a) false (true && ltb a a)
    signs false = go (ltb a a) true (false && ltb a a)

-- ---- as numbers

finite_itself : (x : Float) → finite x ≡ true → eq x x ≡ true
unfolding eq
finite_itself nan h = h
finite_itself (inf s) h = absurd (false≢true h)
finite_itself (fin true m e) h = ap (λ (b : Bool). b && true) (is_true (eqb (m * up e * down e) (m * up e * down e)) (eqb_refl (m * up e * down e)))
finite_itself (fin false m e) h = ap (λ (b : Bool). b && true) (is_true (eqb (m * up e * down e) (m * up e * down e)) (eqb_refl (m * up e * down e)))

-- two finite floats that are the same number compare as equal
pub same_number : {x y : Float} → Same x y → finite x ≡ true → eq x y ≡ true
same_number {x} p h = same_eq (same_refl x) (same_sym p) ∙ finite_itself x h
