-- How the code makes `squared_of` and half of `exponent_of`: a subnormal number by both, another by the digit above its significand. Assumes nothing.
use borrow.Author.Tests.{eq-eqb, ne_eqb, le-ltb}
use native.Mathlib.Omega.{arith}
use mathlib.Core.Path.{◌≡◌, ◌∙◌, ap, sym}
use Prim.Native.Nat.{ℕ, ◌+◌, ◌*◌, ◌/◌, ◌%◌, ◌<◌, ◌≤◌}
use Rattle.root.specs.Root.{significand_of, exponent_of, squared_of}

pub even : (b s p : ℕ) → s ≡ significand_of b → p ≡ exponent_of b → p % 2 ≡ 0 → s * 8388608 ≡ squared_of b
unfolding squared_of
even b s p e f h = simp (eq-eqb (exponent_of b % 2) 0 (ap (λ (x : ℕ). x % 2) (sym f) ∙ h)) (ap (λ (x : ℕ). x * 8388608) e)

pub uneven : (b s p : ℕ) → s ≡ significand_of b → p ≡ exponent_of b → (p % 2 ≡ 0 → ⊥) → s * 16777216 ≡ squared_of b
unfolding squared_of
uneven b s p e f h = simp (ne_eqb (exponent_of b % 2) 0 (λ g. h (ap (λ (x : ℕ). x % 2) f ∙ g))) (ap (λ (x : ℕ). x * 16777216) e)

module _ (b : ℕ) (normal : 8388608 ≤ b) where
  abbrev digits : ℕ
  digits = (b + 8388608) % 16777216

  pub normal_even : {v : ℕ} → digits < 8388608 → v ≡ digits + 8388608 → v * 8388608 ≡ squared_of b
  unfolding squared_of significand_of exponent_of
  normal_even h e = simp (le-ltb b 8388608 normal) (simp (eq-eqb ((125 + b / 8388608) % 2) 0 (omega arith)) (omega arith))

  pub normal_uneven : {v : ℕ} → 8388608 ≤ digits → v ≡ digits + digits → v * 8388608 ≡ squared_of b
  unfolding squared_of significand_of exponent_of
  normal_uneven h e = simp (le-ltb b 8388608 normal) (simp (ne_eqb ((125 + b / 8388608) % 2) 0 (λ g. omega arith)) (omega arith))

  pub normal_half : (b + 1048576000) / 16777216 * 8388608 ≡ exponent_of b / 2 * 8388608
  unfolding exponent_of
  normal_half = simp (le-ltb b 8388608 normal) (omega arith)
