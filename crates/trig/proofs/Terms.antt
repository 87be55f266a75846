-- The terms of the nested products that the code works out, and of document 02's power series. Assumes nothing.
use Rattle.std.proofs.Common.{◌≡◌, ℕ, ◌+◌, ◌-◌, ◌*◌, List, [], ◌∷◌, ap, arith}

-- n₁ to n₅ are the numerators of the stages, from the outermost in, at v = t * t and w = q * q
module _ (t v w n₁ n₂ n₃ n₄ n₅ : ℕ) where
  pub sine_terms :
      n₅ + v * 1 ≡ 110 * w * 1 →
      n₄ + v * n₅ ≡ 72 * w * (110 * w * 1) →
      n₃ + v * n₄ ≡ 42 * w * (72 * w * (110 * w * 1)) →
      n₂ + v * n₃ ≡ 20 * w * (42 * w * (72 * w * (110 * w * 1))) →
      n₁ + v * n₂ ≡ 6 * w * (20 * w * (42 * w * (72 * w * (110 * w * 1)))) →
      t * n₁ + (6652800 * (t * v) * (w * w * w * w) + 7920 * (t * v * v * v) * (w * w) + t * v * v * v * v * v)
      ≡ 39916800 * t * (w * w * w * w * w) + 332640 * (t * v * v) * (w * w * w) + 110 * (t * v * v * v * v) * w
  sine_terms e₅ e₄ e₃ e₂ e₁ =
      omega (
        arith,
        ap (λ (z : ℕ). t * z) e₁,
        ap (λ (z : ℕ). t * v * z) e₂,
        ap (λ (z : ℕ). t * v * v * z) e₃,
        ap (λ (z : ℕ). t * v * v * v * z) e₄,
        ap (λ (z : ℕ). t * v * v * v * v * z) e₅,
      )

  pub cosine_terms :
      n₅ + v * 1 ≡ 90 * w * 1 →
      n₄ + v * n₅ ≡ 56 * w * (90 * w * 1) →
      n₃ + v * n₄ ≡ 30 * w * (56 * w * (90 * w * 1)) →
      n₂ + v * n₃ ≡ 12 * w * (30 * w * (56 * w * (90 * w * 1))) →
      n₁ + v * n₂ ≡ 2 * w * (12 * w * (30 * w * (56 * w * (90 * w * 1)))) →
      n₁ + (1814400 * v * (w * w * w * w) + 5040 * (v * v * v) * (w * w) + v * v * v * v * v)
      ≡ 3628800 * (w * w * w * w * w) + 151200 * (v * v) * (w * w * w) + 90 * (v * v * v * v) * w
  cosine_terms e₅ e₄ e₃ e₂ e₁ =
      omega (
        arith,
        e₁,
        ap (λ (z : ℕ). v * z) e₂,
        ap (λ (z : ℕ). v * v * z) e₃,
        ap (λ (z : ℕ). v * v * v * z) e₄,
        ap (λ (z : ℕ). v * v * v * v * z) e₅,
      )

-- The fraction top / bot of the nested series 1 - v / (c * w) * (1 - ...), whose divisors are listed from the outermost in.
abbrev pub bot : ℕ → List ℕ → ℕ
bot w [] = 1
bot w (c ∷ cs) = c * w * bot w cs

abbrev pub top : ℕ → ℕ → List ℕ → ℕ
top v w [] = 1
top v w (c ∷ cs) = c * w * bot w cs - v * top v w cs

abbrev pub sines : List ℕ
sines = 6 ∷ 20 ∷ 42 ∷ 72 ∷ 110 ∷ []

abbrev pub cosines : List ℕ
cosines = 2 ∷ 12 ∷ 30 ∷ 56 ∷ 90 ∷ []

pub fives : (w : ℕ) → 6 * w * (20 * w * (42 * w * (72 * w * (110 * w * 1)))) ≡ 39916800 * (w * w * w * w * w)
fives w = omega arith

pub cosine_fives : (w : ℕ) → 2 * w * (12 * w * (30 * w * (56 * w * (90 * w * 1)))) ≡ 3628800 * (w * w * w * w * w)
cosine_fives w = omega arith
