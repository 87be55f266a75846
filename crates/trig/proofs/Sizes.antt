-- A float's sign and size: what the tests against zero, and of one size against another, tell. Assumes nothing.
use Rattle.std.proofs.Common.{◌≡◌, ℕ, ◌+◌, ◌*◌, ◌<◌, ◌≤◌, Bool, true, false, T, ltb, leb, ◌⊎◌, ℤ, sym, ap, ◌∙◌, inl, inr, mul-le-mul_right, zero-mul, arith}
use Rattle.std.proofs.Common.{le→leb, lt→ltb, ltb-false, ltb-true, le-ltb, lt-ltb}
use lib.Ieee.{Float, nan, inf, fin, of_bits, up, down, lt}
use lib.Ieee.Fits.{and_i}
use lib.Ieee.Positive.{num, den, den_pos, first_pos}
use lib.Ieee.Scale.{finite}
use Rattle.number.specs.Float32 as float
use Rattle.number.specs.Same.{fabsf_of}
use Rattle.trig.specs.Angle.{ordered}
use Rattle.trig.proofs.Reduce.{order}

-- ---- the sign, unless the size is 0

sign_test : (s : Bool) (m : ℕ) (e : ℤ) → (lt (fin s m e) float.zero ≡ s) ⊎ (m * up e ≡ 0)
unfolding lt of_bits
sign_test false m e = inl (le-ltb (m * up e * 1) (0 * 1 * down e) (omega arith))
sign_test true m e =
    elim (order 0 (m * up e)) [
      | inl l ↦ inl (lt-ltb 0 (m * up e * 1 + 0 * 1 * down e) (omega arith))
      | inr (inl z) ↦ inr (sym z)
      | inr (inr g) ↦ inr (omega arith)
    ]

pub sign_sure : (s : Bool) (m : ℕ) (e : ℤ) → 0 < m * up e → lt (fin s m e) float.zero ≡ s
sign_sure s m e h = elim (sign_test s m e) [ inl p ↦ p | inr z ↦ absurd (none z) ]
  where
    none : m * up e ≡ 0 → ⊥
    none z = omega arith

pub sign_over : (s : Bool) (m : ℕ) (e : ℤ) (k : ℕ) → (lt (fin s m e) float.zero ≡ s) ⊎ (m * up e * k ≡ 0)
sign_over s m e k = elim (sign_test s m e) [ inl p ↦ inl p | inr z ↦ inr (ap (λ (a : ℕ). a * k) z ∙ zero-mul k) ]

-- ---- one size against the other

pub less_size : (a b : Float) → T (finite a) → T (finite b) → lt (fabsf_of a) (fabsf_of b) ≡ true → num a * den b < num b * den a
unfolding lt fabsf_of
less_size nan b f g h = absurd f
less_size (inf s) b f g h = absurd f
less_size (fin s m e) nan f g h = absurd g
less_size (fin s m e) (inf t) f g h = absurd g
less_size (fin s m e) (fin t n d) f g h = ltb-true (m * up e * down d) (n * up d * down e) h

pub not_less_size : (a b : Float) → T (finite a) → T (finite b) → lt (fabsf_of a) (fabsf_of b) ≡ false → num b * den a ≤ num a * den b
unfolding lt fabsf_of
not_less_size nan b f g h = absurd f
not_less_size (inf s) b f g h = absurd f
not_less_size (fin s m e) nan f g h = absurd g
not_less_size (fin s m e) (inf t) f g h = absurd g
not_less_size (fin s m e) (fin t n d) f g h = ltb-false (m * up e * down d) (n * up d * down e) h

-- what `ratio` asks
pub ordered_sizes : (a b : Float) → T (finite a) → T (finite b) → 0 < num b → num a * den b ≤ num b * den a → T (ordered (fabsf_of a) (fabsf_of b))
unfolding fabsf_of
ordered_sizes nan b f g p h = absurd f
ordered_sizes (inf s) b f g p h = absurd f
ordered_sizes (fin s m e) nan f g p h = absurd g
ordered_sizes (fin s m e) (inf t) f g p h = absurd g
ordered_sizes (fin s m e) (fin t n d) f g p h =
    and_i (ltb 0 n) (leb (m * up e * down d) (n * up d * down e)) (lt→ltb 0 n (first_pos n (up d) p)) (le→leb (m * up e * down d) (n * up d * down e) h)

-- ---- a size above 0, and none

pub larger_above : (a b : Float) → num a * den b < num b * den a → 0 < num b
larger_above a b h = first_pos (num b) (den a) (omega arith)

pub size_above : (x : Float) → T (finite x) → lt float.zero (fabsf_of x) ≡ true → 0 < num x
unfolding lt of_bits fabsf_of
size_above nan f h = absurd f
size_above (inf s) f h = absurd f
size_above (fin s m e) f h = omega (arith, ltb-true (0 * 1 * down e) (m * up e * 1) h)

pub size_none : (x : Float) → T (finite x) → lt float.zero (fabsf_of x) ≡ false → num x ≡ 0
unfolding lt of_bits fabsf_of
size_none nan f h = absurd f
size_none (inf s) f h = absurd f
size_none (fin s m e) f h = omega (arith, ltb-false (0 * 1 * down e) (m * up e * 1) h)

-- what is at most none is none
pub smaller_none : (a b : Float) → num b * den a ≤ num a * den b → num a ≡ 0 → num b ≡ 0
smaller_none a b h z =
    elim (order 0 (num b)) [
      | inl l ↦ absurd (some l)
      | inr (inl e) ↦ sym e
      | inr (inr g) ↦ omega arith
    ]
  where
    nil : num b * den a ≤ 0
    nil = omega (arith, h, ap (λ (k : ℕ). k * den b) z)

    some : 0 < num b → ⊥
    some l =
        let q : 1 * den a ≤ num b * den a = mul-le-mul_right (den a) l in
        omega (arith, nil, den_pos a)
