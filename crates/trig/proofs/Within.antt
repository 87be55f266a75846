-- A float that is within 96 units of 2 ^ -30 of a size, which is within 6 of the reference, is within 2 ^ -23 of the reference. Assumes nothing.
use Rattle.std.proofs.Common.{◌≡◌, ℕ, ◌+◌, ◌*◌, ◌≤◌, Bool, true, false, T, ◌⊎◌, refl, ap, ◌∙◌, inl, inr, true≢false, le_trans, mul-le-mul_right, arith, le→leb}
use mathlib.Core.Bool.{false≢true}
use lib.Ieee.{Float, nan, inf, fin, binary32, fits, of_bits, neg, up, down, le, lt, eq}
use lib.Ieee.Fits.{down_pos}
use Rattle.trig.specs.Degrees.{Fraction, in_turn, lifted, apart, gap, within, wave_at, wave_of}
use Rattle.trig.specs.Fixed.{one}
use Rattle.trig.specs.Wave.{grid_of, size_of, minus_of, rounded_of}
use Rattle.trig.proofs.Around.{Around}
use Rattle.trig.proofs.Quarter.{wave_close, wave_sign, size_small}
use Rattle.trig.proofs.Grid.{gridded}
use Rattle.trig.proofs.Rounding.{Rounded, float_rounded}

gap_same : (s t : Bool) (a b : ℕ) → s ≡ t → gap s a t b ≡ apart a b
gap_same true true a b e = refl
gap_same true false a b e = absurd (true≢false e)
gap_same false true a b e = absurd (false≢true e)
gap_same false false a b e = refl

gap_most : (s t : Bool) (a b : ℕ) → gap s a t b ≤ a + b
gap_most true true a b = omega arith
gap_most true false a b = omega arith
gap_most false true a b = omega arith
gap_most false false a b = omega arith

-- m / d is within 96 units of n / 2 ^ 30, which is within 6 of top / bottom
module _ (m d n top bottom : ℕ) (over : m * one ≤ (n + 96) * d) (under : n * d ≤ m * one + 96 * d) (near : Around one 6 n top bottom) where
  same_sign : apart (m * bottom) (top * d) * 8388608 ≤ d * bottom
  same_sign =
      let o = mul-le-mul_right d near.over in
      let u = mul-le-mul_right d near.under in
      let p = mul-le-mul_right bottom over in
      let q = mul-le-mul_right bottom under in
      omega arith

  no_size : n ≡ 0 → (m * bottom + top * d) * 8388608 ≤ d * bottom
  no_size z =
      let a : n * bottom ≡ 0 * bottom = ap (λ (x : ℕ). x * bottom) z in
      let b : n * d ≡ 0 * d = ap (λ (x : ℕ). x * d) z in
      let u : one * top ≤ 6 * bottom = omega (arith, near.under) in
      let o : m * one ≤ 96 * d = omega arith in
      let p = mul-le-mul_right bottom o in
      let q = mul-le-mul_right d u in
      omega arith

pub result_close : (r : Float) (s : Bool) (n : ℕ) (f : Fraction) → Rounded r s n → Around one 6 n f.top f.bottom → (n ≡ 0) ⊎ (s ≡ f.minus)
    → T (within 23 r f)
unfolding within
result_close nan s n f v c g = absurd v
result_close (inf t) s n f v c g = absurd v
result_close (fin t m e) s n f v c (inr h) =
    le→leb (gap t (m * up e * f.bottom) f.minus (f.top * down e) * 8388608) (down e * f.bottom)
    (rw (gap_same t f.minus (m * up e * f.bottom) (f.top * down e) (v.0 ∙ h))
    (same_sign (m * up e) (down e) n f.top f.bottom v.1.0 v.1.1 c))
result_close (fin t m e) s n f v c (inl z) =
    le→leb (gap t (m * up e * f.bottom) f.minus (f.top * down e) * 8388608) (down e * f.bottom)
    (le_trans (mul-le-mul_right 8388608 (gap_most t f.minus (m * up e * f.bottom) (f.top * down e)))
    (no_size (m * up e) (down e) n f.top f.bottom v.1.0 v.1.1 c z))

-- what the series give
pub rounded_near : (k : ℕ) (x : Float) → T (fits binary32 x) → T (in_turn x) → T (within 23 (rounded_of k x) (wave_at k x))
unfolding wave_at le lt eq of_bits neg
rounded_near k nan f t = absurd t
rounded_near k (inf true) f t = absurd t
rounded_near k (inf false) f t = absurd t
rounded_near k (fin s m e) f t =
    let y : ℕ = lifted s (m * up e) (down e) in
    let r : ℕ = grid_of (fin s m e) in
    let g = gridded s m e f t in
    result_close (rounded_of k (fin s m e)) (minus_of k r) (size_of k r) (wave_of k y (down e)) (float_rounded (minus_of k r) (size_of k r) (size_small k r))
    (wave_close k y (down e) r (down_pos e) g) (wave_sign k y (down e) r (down_pos e) g)
