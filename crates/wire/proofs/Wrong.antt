-- Wrong answers that the promises refuse, each by evaluation. Assumes nothing.
use Prim.Native.Nat.{ℕ}
use native.Mathlib.Omega.{arith}
use lib.IntN.{pos}
use mathlib.Core.Path.{◌≡◌}
use mathlib.Core.Bool.{true, false}
use mathlib.Core.List.{List, [], ◌∷◌}
use lib.ListN.{get_or}
use lib.Ieee.{nan, fin, of_bits, to_bits}
use Rattle.wire.specs.Wire.{u16_at, bits_at, put_u16, put_bits, finite_bits, float_of, bits_of}

abbrev four : List ℕ
four = 1 ∷ 2 ∷ 3 ∷ 4 ∷ []

-- the byte behind it; a byte past the end that is the last one again
pub of_u8_at : (2 ≡ get_or four 0 0 → ⊥) × (4 ≡ get_or four 4 0 → ⊥)
of_u8_at = (λ h. omega arith, λ h. omega arith)

-- highest byte first; a byte past the end that is the last one again
pub of_u16_at : (258 ≡ u16_at four 0 → ⊥) × (1028 ≡ u16_at four 3 → ⊥)
of_u16_at = (λ h. omega arith, λ h. omega arith)

pub of_bits_at : (0x01020304 ≡ bits_at four 0 → ⊥) × (0x04030201 ≡ bits_at four 1 → ⊥)
of_bits_at = (λ h. omega arith, λ h. omega arith)

-- highest byte first; nothing stored where only one byte has room
pub of_put_u16 : (four ≡ put_u16 four 0 0x0102 → ⊥) × (four ≡ put_u16 four 3 0x0102 → ⊥)
of_put_u16 = (λ h. let z : ◌≡◌ {A = ℕ} 1 2 = cc in omega arith, λ h. let z : ◌≡◌ {A = ℕ} 4 2 = cc in omega arith)

pub of_put_bits : (0 ∷ 0 ∷ 0 ∷ 1 ∷ [] ≡ put_bits four 0 1 → ⊥) × (four ≡ put_bits four 0 0 → ⊥)
of_put_bits = (λ h. let z : ◌≡◌ {A = ℕ} 0 1 = cc in omega arith, λ h. let z : ◌≡◌ {A = ℕ} 0 1 = cc in omega arith)

-- an infinity; a NaN with its sign set; a zero refused
pub of_is_finite_bits : (true ≡ finite_bits 0x7F800000 → ⊥) × (true ≡ finite_bits 0xFFC00000 → ⊥) × (false ≡ finite_bits 0x80000000 → ⊥)
unfolding finite_bits
of_is_finite_bits = (
  λ h. let z : ◌≡◌ {A = ℕ} 0 1 = cc in omega arith,
  λ h. let z : ◌≡◌ {A = ℕ} 0 1 = cc in omega arith,
  λ h. let z : ◌≡◌ {A = ℕ} 0 1 = cc in omega arith,
)

-- a zero that loses its sign; a NaN as a number
pub of_float_of : (fin false 0 (pos 0) ≡ float_of 0x80000000 → ⊥) × (fin false 0 (pos 0) ≡ float_of 0x7FC00000 → ⊥)
unfolding of_bits
of_float_of = (λ h. let z : ◌≡◌ {A = ℕ} 0 1 = cc in omega arith, λ h. let z : ◌≡◌ {A = ℕ} 0 1 = cc in omega arith)

-- 1.0 with its bytes the other way round; of the byte behind it
abbrev five : List ℕ
five = 0 ∷ 0 ∷ 0x80 ∷ 0x3F ∷ 0 ∷ []

pub of_float_at : (float_of 0x0000803F ≡ float_of (bits_at five 0) → ⊥) × (fin false 1 (pos 0) ≡ float_of (bits_at five 1) → ⊥)
unfolding of_bits
of_float_at = (λ h. let z : ◌≡◌ {A = ℕ} 0 1 = cc in omega arith, λ h. let z : ◌≡◌ {A = ℕ} 0 1 = cc in omega arith)

-- the same of patterns; another NaN's pattern
pub of_bits_of : (0 ≡ bits_of (fin true 0 (pos 0)) → ⊥) × (0xFFC00000 ≡ bits_of nan → ⊥)
unfolding to_bits
of_bits_of = (λ h. omega arith, λ h. omega arith)
