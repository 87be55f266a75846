-- What is packed into a number is read back by a shift and a remainder, at every width that is a power of two. Assumes nothing.
use Prim.Native.Nat.{ℕ, zero, suc, ◌+◌, ◌*◌, ◌/◌, ◌%◌, ◌^◌, ◌<◌}
use native.Mathlib.Nat.{zero-add, add_comm, mul-zero, mul-suc, div-one, div-eq_of_lt, mod-eq_of_lt, add-mul-div_left, add-mul-mod_self_left}
use native.Mathlib.Omega.{arith}
use mathlib.Core.Path.{◌≡◌, ap, ◌∙◌}
use lib.Pow.{pow_pos, shr-shr}
use Rattle.remap.specs.Inner.{packed}

-- ---- a digit a of b bits, and those above it as the number p

module _ (b : ℕ) {a : ℕ} (p : ℕ) (h : a < 2 ^ b) where
  lowest : (a + 2 ^ b * p) / 2 ^ (b * 0) % 2 ^ b ≡ a
  lowest = rw (mul-zero b, div-one (a + 2 ^ b * p)) (add-mul-mod_self_left a (2 ^ b) p ∙ mod-eq_of_lt h)

  others : (a + 2 ^ b * p) / 2 ^ b ≡ p
  others = add-mul-div_left a p (pow_pos b) ∙ rw (div-eq_of_lt h) (zero-add p)

  above : (j : ℕ) → (a + 2 ^ b * p) / 2 ^ (b * suc j) ≡ p / 2 ^ (b * j)
  above j = rw (mul-suc b j, add_comm (b * j) b, ← shr-shr (a + 2 ^ b * p) b (b * j), others)

-- the number at the place j of k from i on
pub unpacked : (b : ℕ) (f : ℕ → ℕ) (k i j : ℕ) → ((n : ℕ) → n < i + k → f n < 2 ^ b) → j < k → packed (2 ^ b) f k i / 2 ^ (b * j) % 2 ^ b ≡ f (i + j)
unfolding packed
unpacked b f zero i j fits h = absurd (omega arith)
unpacked b f (suc k) i zero fits h = lowest b (packed (2 ^ b) f k (suc i)) (fits i (omega arith)) ∙ ap f (omega arith)
unpacked b f (suc k) i (suc j) fits h =
    ap (λ (n : ℕ). n % 2 ^ b) (above b (packed (2 ^ b) f k (suc i)) (fits i (omega arith)) j)
    ∙ unpacked b f k (suc i) j (λ n l. fits n (omega arith)) (omega arith) ∙ ap f (omega arith)
