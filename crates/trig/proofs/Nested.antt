-- The nested products that the code works out are document 02's power series, over the same whole numbers. Assumes nothing.
use Rattle.std.proofs.Common.{◌≡◌, ℕ, ◌+◌, ◌-◌, ◌*◌, ◌<◌, ◌≤◌, List, [], ◌∷◌, le_refl, arith, lit<}
use Rattle.trig.specs.Series.{sine_num, sine_den, cosine_num, cosine_den}
use Rattle.trig.proofs.Around.{product_le}
use Rattle.trig.proofs.Terms.{bot, top, sines, cosines, sine_terms, cosine_terms, fives, cosine_fives}
use Rattle.trig.proofs.Powers.{pow2, pow3, pow4, pow5, pow6, pow7, pow8, pow9, pow10, pow11}

-- the value is at most 1, so no difference is cut
pub top_le : (v w : ℕ) (cs : List ℕ) → top v w cs ≤ bot w cs
top_le v w [] = le_refl 1
top_le v w (c ∷ cs) = omega arith

whole : (a b : ℕ) → a ≤ b → b - a + a ≡ b
whole a b h = omega arith

top_whole : (v w c : ℕ) (cs : List ℕ) → v ≤ w → 0 < c → top v w (c ∷ cs) + v * top v w cs ≡ bot w (c ∷ cs)
top_whole v w c cs h C = whole (v * top v w cs) (c * w * bot w cs) (product_le v w c (top v w cs) (bot w cs) C h (top_le v w cs))

left_over : (x p m : ℕ) → x + m ≡ p → x ≡ p - m
left_over x p m h = omega arith

-- the series in t = n / d
module _ (t q : ℕ) (h : t * t ≤ q * q) where
  n : List ℕ → ℕ
  n = top (t * t) (q * q)

  at : (c : ℕ) (cs : List ℕ) → 0 < c → n (c ∷ cs) + t * t * n cs ≡ bot (q * q) (c ∷ cs)
  unfolding n
  at c cs C = top_whole (t * t) (q * q) c cs h C

  pub sine_series : t * top (t * t) (q * q) sines ≡ sine_num t q
  unfolding sine_num n
  sine_series =
      simp (pow2, pow3, pow4, pow5, pow6, pow7, pow8, pow9, pow10, pow11)
      (left_over _ _ _
      (sine_terms t (t * t) (q * q) (n sines) (n (20 ∷ 42 ∷ 72 ∷ 110 ∷ [])) (n (42 ∷ 72 ∷ 110 ∷ [])) (n (72 ∷ 110 ∷ [])) (n (110 ∷ []))
      (at 110 [] (lit< tt)) (at 72 (110 ∷ []) (lit< tt)) (at 42 (72 ∷ 110 ∷ []) (lit< tt)) (at 20 (42 ∷ 72 ∷ 110 ∷ []) (lit< tt))
      (at _ (20 ∷ 42 ∷ 72 ∷ 110 ∷ []) (lit< tt))))

  pub cosine_series : top (t * t) (q * q) cosines ≡ cosine_num t q
  unfolding cosine_num n
  cosine_series =
      simp (pow2, pow4, pow6, pow8, pow10)
      (left_over _ _ _
      (cosine_terms t (t * t) (q * q) (n (2 ∷ 12 ∷ 30 ∷ 56 ∷ 90 ∷ [])) (n (12 ∷ 30 ∷ 56 ∷ 90 ∷ [])) (n (30 ∷ 56 ∷ 90 ∷ [])) (n (56 ∷ 90 ∷ [])) (n (90 ∷ []))
      (at 90 [] (lit< tt)) (at 56 (90 ∷ []) (lit< tt)) (at 30 (56 ∷ 90 ∷ []) (lit< tt)) (at 12 (30 ∷ 56 ∷ 90 ∷ []) (lit< tt))
      (at 2 (12 ∷ 30 ∷ 56 ∷ 90 ∷ []) (lit< tt))))

pub sine_bottom : (q : ℕ) → q * bot (q * q) sines ≡ sine_den q
unfolding sine_den
sine_bottom q = simp (pow11, fives) (omega arith)

pub cosine_bottom : (q : ℕ) → bot (q * q) cosines ≡ cosine_den q
unfolding cosine_den
cosine_bottom q = simp pow10 (cosine_fives (q * q))
