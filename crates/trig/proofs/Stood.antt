-- The exact sine and cosine of an angle that is j quarter turns and n steps of 2 ^ -16 degrees more or less, the tie at 45 degrees and n = 0 included: how
-- near they are, and their signs. Assumes nothing.
use Rattle.std.proofs.Common.{◌≡◌, ℕ, ◌+◌, ◌*◌, ◌%◌, ◌^◌, ◌<◌, ◌≤◌, Bool, true, false, cond, not, eqb, leb, ◌⊎◌, refl, ap, inl, inr, zero-le, mul-le-mul_right}
use Rattle.std.proofs.Common.{mul-le-mul, mul-pos, zero-mul, arith, lit<, lit≤}
use native.Mathlib.Nat.{one-le-pow}
use lib.Ieee.{unlike}
use Rattle.trig.specs.Series.{sine_num, sine_den, cosine_num, cosine_den}
use Rattle.trig.specs.Degrees.{Fraction, pi_top, pi_bottom, left, sine_or_cosine, quarter, wave_of}
use Rattle.trig.specs.Fixed.{one, scaled_of, stage_of, sine_fixed_of, cosine_fixed_of}
use Rattle.trig.specs.Wave.{radians_of}
use Rattle.trig.specs.Octant.{most, sine_step, cosine_step}
use Rattle.trig.specs.Angle.{quarter_turn}
use Rattle.trig.proofs.Around.{Around}
use Rattle.trig.proofs.Reduce.{order}
use Rattle.trig.proofs.Terms.{sines, cosines}
use Rattle.trig.proofs.Nested.{top_le, sine_series, sine_bottom, cosine_series, cosine_bottom}
use Rattle.trig.proofs.Place.{Placed, placed_more, placed_less, radians_le, sine_placed, cosine_placed}

-- f is within 8 units of v / 2 ^ 30, and at most 1
pub record Good (f : Fraction) (v : ℕ) : Type 0 where
  pub near : Around one 8 v f.top f.bottom
  pub small : f.top ≤ f.bottom
  pub pos : 0 < f.bottom

wider : (e v n d : ℕ) → e ≤ 8 → Around one e v n d → Around one 8 v n d
wider e v n d h p =
    let s : e * d ≤ 8 * d = mul-le-mul_right d h in
    record { over = omega (arith, p.over); under = omega (arith, p.under) }

moved : (v w n d : ℕ) → v ≤ w + 2 → w ≤ v + 2 → Around one 6 v n d → Around one 8 w n d
moved v w n d h i p =
    let s : v * d ≤ (w + 2) * d = mul-le-mul_right d h in
    let t : w * d ≤ (v + 2) * d = mul-le-mul_right d i in
    record { over = omega (arith, p.over); under = omega (arith, p.under) }

sine_at_most : (n d : ℕ) → n ≤ d → sine_num n d ≤ sine_den d
sine_at_most n d h =
    rw (← sine_series n d (mul-le-mul h h), ← sine_bottom d) (mul-le-mul h (top_le (n * n) (d * d) sines))

cosine_at_most : (n d : ℕ) → n ≤ d → cosine_num n d ≤ cosine_den d
cosine_at_most n d h =
    rw (← cosine_series n d (mul-le-mul h h), ← cosine_bottom d) (top_le (n * n) (d * d) cosines)

powers_pos : (d k : ℕ) → 0 < d → 0 < d ^ k
powers_pos d k D = one-le-pow k d D

sine_den_pos : (d : ℕ) → 0 < d → 0 < sine_den d
unfolding sine_den
sine_den_pos d D = mul-pos (lit< tt) (powers_pos d 11 D)

cosine_den_pos : (d : ℕ) → 0 < d → 0 < cosine_den d
unfolding cosine_den
cosine_den_pos d D = mul-pos (lit< tt) (powers_pos d 10 D)

-- what is left of y / b in radians, over `bottom b`
abbrev rest : ℕ → ℕ → ℕ
rest y b = left y b * pi_top

abbrev bottom : ℕ → ℕ
bottom b = b * (180 * pi_bottom)

abbrev sine_as : Bool → ℕ → ℕ → Fraction
sine_as s y b = record { minus = s; top = sine_num (rest y b) (bottom b); bottom = sine_den (bottom b) }

abbrev cosine_as : Bool → ℕ → ℕ → Fraction
cosine_as s y b = record { minus = s; top = cosine_num (rest y b) (bottom b); bottom = cosine_den (bottom b) }

module _ (y b j n : ℕ) (minus : Bool) (B : 0 < b) (small : n ≤ most) (p : Placed y b j n minus) where
  bottom_pos : 0 < bottom b
  bottom_pos = mul-pos B (lit< tt)

  sine_good : (s : Bool) → Good (sine_as s y b) (sine_step n)
  sine_good s =
      record {
        near = wider 6 _ _ _ (lit≤ tt) (sine_placed y b j n minus B small p);
        small = sine_at_most _ _ (radians_le y b j n minus B small p);
        pos = sine_den_pos _ bottom_pos;
      }

  cosine_good : (s : Bool) → Good (cosine_as s y b) (cosine_step n)
  cosine_good s =
      record {
        near = wider 5 _ _ _ (lit≤ tt) (cosine_placed y b j n minus B small p);
        small = cosine_at_most _ _ (radians_le y b j n minus B small p);
        pos = cosine_den_pos _ bottom_pos;
      }

  good_at : (even back : Bool) → Good (sine_or_cosine even back minus (rest y b) (bottom b)) (cond even (sine_step n) (cosine_step n))
  good_at true back = sine_good (unlike minus back)
  good_at false back = cosine_good back

  -- the sine k quarter turns on
  placed_good : (k : ℕ) (even back : Bool) → eqb ((j + k) % 2) 0 ≡ even → leb 2 ((j + k) % 4) ≡ back
      → Good (wave_of k y b) (cond even (sine_step n) (cosine_step n)) × ((wave_of k y b).minus ≡ cond even (unlike minus back) back)
  unfolding quarter
  placed_good k even back e f = rw (p.at, p.sign, e, f) (good_at even back, sign_at even back)
    where
      sign_at : (even back : Bool) → (sine_or_cosine even back minus (rest y b) (bottom b)).minus ≡ cond even (unlike minus back) back
      sign_at true back = refl
      sign_at false back = refl

-- ---- j quarter turns and n steps less
-- of the sine k quarter turns on: how near, and the sign, unless it is 0
pub record Stood (f : Fraction) (even back minus : Bool) (n : ℕ) : Type 0 where
  pub good : Good f (cond even (sine_step n) (cosine_step n))
  pub sign : (f.top ≡ 0) ⊎ (f.minus ≡ cond even (unlike minus back) back)

no_sine : (d : ℕ) → sine_num 0 d ≡ 0
unfolding sine_num
no_sine d = rw (zero-mul (d ^ 10), zero-mul (d ^ 6), zero-mul (d ^ 2), zero-mul (d ^ 8), zero-mul (d ^ 4))

swapped : (f : Fraction) (v w : ℕ) → v ≤ w + 2 → w ≤ v + 2 → Around one 6 v f.top f.bottom → Good f v → Good f w
swapped f v w h i near g = record { near = moved v w f.top f.bottom h i near; small = g.small; pos = g.pos }

module _ (y b j n k : ℕ) (even back : Bool) (B : 0 < b) (small : n ≤ most) (e : eqb ((j + k) % 2) 0 ≡ even) (f : leb 2 ((j + k) % 4) ≡ back) where
  pub stood_more : y * 65536 ≡ (j * quarter_turn + n) * b → Stood (wave_of k y b) even back false n
  stood_more h =
      let g = placed_good y b j n false B small (placed_more y b j n B h small) k even back e f in
      record { good = g.0; sign = inr g.1 }

  stood_inside : y * 65536 + n * b ≡ j * quarter_turn * b → 0 < n → n < most → Stood (wave_of k y b) even back true n
  stood_inside h N l =
      let g = placed_good y b j n true B small (placed_less y b j n B h N l) k even back e f in
      record { good = g.0; sign = inr g.1 }

-- no step: the sine is 0, and the cosine's sign is its own
module _ (y b j k : ℕ) (back : Bool) (B : 0 < b) (f : leb 2 ((j + k) % 4) ≡ back) (h : y * 65536 ≡ (j * quarter_turn + 0) * b) where
  none_left : Placed y b j 0 false → left y b ≡ 0
  none_left p = omega (arith, p.size)

  stood_none : (even : Bool) → eqb ((j + k) % 2) 0 ≡ even → Stood (wave_of k y b) even back true 0
  unfolding quarter
  stood_none false e =
      let g = placed_good y b j 0 false B (lit≤ tt) (placed_more y b j 0 B h (lit≤ tt)) k false back e f in
      record { good = g.0; sign = inr g.1 }
  stood_none true e =
      let p = placed_more y b j 0 B h (lit≤ tt) in
      let g = placed_good y b j 0 false B (lit≤ tt) p k true back e f in
      record { good = g.0; sign = inl (rw (p.at, e, none_left p) (no_sine (b * (180 * pi_bottom)))) }

-- the tie: 45 degrees less than i + 1 quarter turns is 45 more than i, where the sine and the cosine change places; in fixed point they are 2 units apart
top_step : (cosine_step most ≤ sine_step most + 2) × (sine_step most ≤ cosine_step most + 2)
unfolding sine_step sine_fixed_of cosine_step cosine_fixed_of stage_of scaled_of radians_of
top_step = (lit≤ tt, lit≤ tt)

module _ (y b i k : ℕ) (B : 0 < b) (h : y * 65536 ≡ (i * quarter_turn + most) * b) where
  tie_placed : Placed y b i most false
  tie_placed = placed_more y b i most B h (lit≤ tt)

  tie_good : (even back : Bool) → Good (sine_or_cosine (not even) back false (rest y b) (bottom b)) (cond even (sine_step most) (cosine_step most))
  tie_good true back =
      swapped _ (cosine_step most) (sine_step most) top_step.0 top_step.1
      (six (cosine_step most) _ _ (cosine_placed y b i most false B (lit≤ tt) tie_placed)) (cosine_good y b i most false B (lit≤ tt) tie_placed back)
    where
      six : (v n d : ℕ) → Around one 5 v n d → Around one 6 v n d
      six v n d p = record { over = omega (arith, p.over); under = omega (arith, p.under) }
  tie_good false back =
      swapped _ (sine_step most) (cosine_step most) top_step.1 top_step.0 (sine_placed y b i most false B (lit≤ tt) tie_placed)
      (sine_good y b i most false B (lit≤ tt) tie_placed (unlike false back))

  stood_tie : (even back : Bool) → eqb ((i + k) % 2) 0 ≡ not even → leb 2 ((i + k) % 4) ≡ cond even (not back) back
      → Stood (wave_of k y b) even back true most
  unfolding quarter
  stood_tie even back e f =
      record {
        good = rw (tie_placed.at, tie_placed.sign, e, f) (tie_good even (cond even (not back) back));
        sign = inr (rw (tie_placed.at, tie_placed.sign, e, f) (sign_at even back));
      }
    where
      sign_at : (even back : Bool)
          → (sine_or_cosine (not even) (cond even (not back) back) false (rest y b) (bottom b)).minus ≡ cond even (unlike true back) back
      sign_at true true = refl
      sign_at true false = refl
      sign_at false true = refl
      sign_at false false = refl

no_more : (a b : ℕ) → a ≤ b → b < a → ⊥
no_more a b h i = omega arith

-- all three: n steps less than i + 1 quarter turns
module _ (y b i n k : ℕ) (even back : Bool) (B : 0 < b) (small : n ≤ most) (e : eqb ((i + 1 + k) % 2) 0 ≡ even) (f : leb 2 ((i + 1 + k) % 4) ≡ back)
    (e' : eqb ((i + k) % 2) 0 ≡ not even) (f' : leb 2 ((i + k) % 4) ≡ cond even (not back) back) (h : y * 65536 + n * b ≡ (i + 1) * quarter_turn * b) where
  pub stood_less : Stood (wave_of k y b) even back true n
  stood_less = go (order n 0) (order n most)
    where
      nil : n ≡ 0 → Stood (wave_of k y b) even back true n
      nil z = rw z (stood_none y b (i + 1) k back B f (omega (arith, ap (λ (x : ℕ). x * b) z)) even e)

      tie : n ≡ most → Stood (wave_of k y b) even back true n
      tie z = rw z (stood_tie y b i k B (omega (arith, ap (λ (x : ℕ). x * b) z)) even back e' f')

      go : (n < 0) ⊎ ((n ≡ 0) ⊎ (0 < n)) → (n < most) ⊎ ((n ≡ most) ⊎ (most < n)) → Stood (wave_of k y b) even back true n
      go (inr (inl z)) o = nil z
      go (inr (inr p)) (inl l) = stood_inside y b (i + 1) n k even back B small e f h p l
      go (inr (inr p)) (inr (inl z)) = tie z
      go (inr (inr p)) (inr (inr g)) = absurd (no_more n most small g)
      go (inl l) o = absurd (no_more 0 n zero-le l)
