-- 02's two conditions from the sizes, with the signs in place: those of the larger of y and x and of its factor agree, and so do the others unless one
-- of them is 0. Assumes nothing.
use Rattle.std.proofs.Common.{◌≡◌, ℕ, ◌+◌, ◌*◌, ◌<◌, ◌≤◌, max, Bool, true, false, not, T, leb, ◌⊎◌, refl, inl, inr, true≢false, arith, le→leb, lt→ltb}
use mathlib.Core.Bool.{false≢true}
use lib.Ieee.{unlike, below}
use lib.Ieee.Fits.{and_i}
use Rattle.trig.specs.Degrees.{Fraction, apart, gap}
use Rattle.trig.specs.Angle.{turns_to}

-- the gap is the difference of the sizes where the signs agree or a size is 0
gap_is : (s t : Bool) (a b : ℕ) → (s ≡ t) ⊎ ((a ≡ 0) ⊎ (b ≡ 0)) → gap s a t b ≡ apart a b
gap_is true true a b h = refl
gap_is false false a b h = refl
gap_is true false a b (inl e) = absurd (true≢false e)
gap_is true false a b (inr (inl e)) = omega arith
gap_is true false a b (inr (inr e)) = omega arith
gap_is false true a b (inl e) = absurd (false≢true e)
gap_is false true a b (inr (inl e)) = omega arith
gap_is false true a b (inr (inr e)) = omega arith

-- ±a + b > 0 where the sign is plus or a is 0
sum_above : (s : Bool) (a b : ℕ) → (s ≡ false) ⊎ (a ≡ 0) → 0 < b → T (below (not s) a false b)
sum_above false a b h p = lt→ltb 0 (a + b) (omega arith)
sum_above true a b (inl e) p = absurd (true≢false e)
sum_above true a b (inr e) p = lt→ltb a b (omega arith)

-- and a ± b > 0 where the sign is plus or b is 0
above_sum : (s : Bool) (a b : ℕ) → (s ≡ false) ⊎ (b ≡ 0) → 0 < a → T (below true a s b)
above_sum false a b h p = lt→ltb 0 (a + b) (omega arith)
above_sum true a b (inl e) p = absurd (true≢false e)
above_sum true a b (inr e) p = lt→ltb b a (omega arith)

alike : (s : Bool) → unlike s s ≡ false
alike true = refl
alike false = refl

crossed : (s t : Bool) → unlike t s ≡ unlike s t
crossed true true = refl
crossed true false = refl
crossed false true = refl
crossed false false = refl

larger : (x y : ℕ) → y ≤ x → max x y ≡ x
larger x y h = omega arith

larger_right : (x y : ℕ) → x ≤ y → max x y ≡ y
larger_right x y h = omega arith

module _ (t : Bool) (y : ℕ) (s : Bool) (x : ℕ) (sine cosine : Fraction) where
  abbrev sines : ℕ
  sines = sine.top * cosine.bottom

  abbrev cosines : ℕ
  cosines = cosine.top * sine.bottom

  -- x * c + y * s is above 0
  abbrev ahead : Bool
  ahead = below (not (unlike t sine.minus)) (y * sines) (unlike s cosine.minus) (x * cosines)

  -- the size of y * c - x * s
  abbrev aside : ℕ
  aside = gap (unlike t cosine.minus) (y * cosines) (unlike s sine.minus) (x * sines)

  abbrev Nil : Type 0
  Nil = (y * cosines ≡ 0) ⊎ (x * sines ≡ 0)

  conditions : T ahead → (unlike t cosine.minus ≡ unlike s sine.minus) ⊎ Nil
      → apart (y * cosines) (x * sines) * 1048576 ≤ max x y * (sine.bottom * cosine.bottom) → T (turns_to t y s x sine cosine)
  conditions p h a =
      and_i ahead (leb (aside * 1048576) (max x y * (sine.bottom * cosine.bottom))) p
      (le→leb (aside * 1048576) (max x y * (sine.bottom * cosine.bottom))
      (rw (gap_is (unlike t cosine.minus) (unlike s sine.minus) (y * cosines) (x * sines) h) a))

  -- |y| ≤ |x|
  pub flat : cosine.minus ≡ s → (sine.minus ≡ t) ⊎ ((y * sines ≡ 0) × Nil) → y ≤ x → 0 < x * cosines
      → apart (y * cosines) (x * sines) * 1048576 ≤ x * (sine.bottom * cosine.bottom) → T (turns_to t y s x sine cosine)
  flat c h l p a =
      conditions (rw (c, alike s) (sum_above (unlike t sine.minus) (y * sines) (x * cosines) (first h) p)) (second h) (rw (larger x y l) a)
    where
      first : (sine.minus ≡ t) ⊎ ((y * sines ≡ 0) × Nil) → (unlike t sine.minus ≡ false) ⊎ (y * sines ≡ 0)
      first (inl e) = inl (rw e (alike t))
      first (inr z) = inr z.0

      second : (sine.minus ≡ t) ⊎ ((y * sines ≡ 0) × Nil) → (unlike t cosine.minus ≡ unlike s sine.minus) ⊎ Nil
      second (inl e) = inl (rw (e, c) (crossed s t))
      second (inr z) = inr z.1

  -- |x| ≤ |y|
  pub steep : sine.minus ≡ t → (cosine.minus ≡ s) ⊎ ((x * cosines ≡ 0) × Nil) → x ≤ y → 0 < y * sines
      → apart (y * cosines) (x * sines) * 1048576 ≤ y * (sine.bottom * cosine.bottom) → T (turns_to t y s x sine cosine)
  steep c h l p a =
      conditions (rw (c, alike t) (above_sum (unlike s cosine.minus) (y * sines) (x * cosines) (first h) p)) (second h) (rw (larger_right x y l) a)
    where
      first : (cosine.minus ≡ s) ⊎ ((x * cosines ≡ 0) × Nil) → (unlike s cosine.minus ≡ false) ⊎ (x * cosines ≡ 0)
      first (inl e) = inl (rw e (alike s))
      first (inr z) = inr z.0

      second : (cosine.minus ≡ s) ⊎ ((x * cosines ≡ 0) × Nil) → (unlike t cosine.minus ≡ unlike s sine.minus) ⊎ Nil
      second (inl e) = inl (rw (e, c) (crossed s t))
      second (inr z) = inr z.1
