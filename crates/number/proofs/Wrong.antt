-- Wrong answers that the promises refuse, two at least for each function, each by evaluation. Assumes nothing.
use Rattle.std.proofs.Common.{◌≡◌, ℕ, true, false, pos, negsuc, ◌+ℤ◌, ◌-ℤ◌, refl, true≢false, arith}
use mathlib.Core.Bool.{false≢true}
use lib.Signed.{mag}
use lib.Ieee.{nan, inf, fin, binary32, to_bits, to_unsigned, to_signed, of_int, lt, round, units, odd}
use lib.Ieee.Scale.{finite}
use Rattle.number.specs.Same.{fabsf_of}
use Rattle.number.specs.Whole.{saturated_of, clamp_of}
use Rattle.number.proofs.Apart.{apart, bits}

-- a size that keeps the sign of a zero, or of an infinity
pub of_fabsf : (fin true 0 (pos 0) ≡ fabsf_of (fin true 0 (pos 0)) → ⊥) × (inf true ≡ fabsf_of (inf true) → ⊥)
unfolding fabsf_of
of_fabsf = (λ h. let z : ◌≡◌ {A = ℕ} 0 1 = cc in omega arith, λ h. let z : ◌≡◌ {A = ℕ} 0 1 = cc in omega arith)

-- larger at the limit itself; the sign left on
pub of_is_larger
    : (true ≡ lt (fin false 1 (pos 0)) (fabsf_of (fin true 1 (pos 0))) → ⊥) × (false ≡ lt (fin false 1 (pos 0)) (fabsf_of (fin true 1 (pos 1))) → ⊥)
unfolding lt fabsf_of
of_is_larger = (true≢false, false≢true)

-- an infinity finite; a NaN finite; a zero not
pub of_is_finite : (true ≡ finite (inf false) → ⊥) × (true ≡ finite nan → ⊥) × (false ≡ finite (fin true 0 (pos 0)) → ⊥)
of_is_finite = (true≢false, true≢false, false≢true)

-- 2^32 wrapped to 0; 1.5 rounded up
pub of_to_u32 : (0 ≡ to_unsigned 32 (fin false 1 (pos 32)) → ⊥) × (2 ≡ to_unsigned 32 (fin false 3 (negsuc 0)) → ⊥)
unfolding to_unsigned
of_to_u32 = (λ h. omega arith, λ h. omega arith)

-- 2^31 wrapped to the lowest number; -1.5 rounded away from zero; a NaN as the largest
pub of_to_i32
    : (negsuc 2147483647 ≡ to_signed 31 (fin false 1 (pos 31)) → ⊥)
    × (negsuc 1 ≡ to_signed 31 (fin true 3 (negsuc 0)) → ⊥)
    × (pos 2147483647 ≡ to_signed 31 nan → ⊥)
unfolding to_signed
of_to_i32 = (
  λ h. let z : ◌≡◌ {A = ℕ} 0 1 = cc in omega arith,
  λ h. let z : ◌≡◌ {A = ℕ} 0 1 = cc in omega arith,
  λ h. let z : ◌≡◌ {A = ℕ} 0 1 = cc in omega arith,
)

-- 2^24 + 1 rounded up, where the tie goes to the even one; the sign lost
pub of_from_i32
    : (fin false 8388609 (pos 1) ≡ of_int binary32 (pos 16777217) → ⊥) × (fin false 1 (pos 0) ≡ of_int binary32 (negsuc 0) → ⊥)
unfolding of_int round units odd to_bits
of_from_i32 = (λ h. apart bits h refl, λ h. apart bits h refl)

-- a sum that wraps; one that stops a step too soon
pub of_saturating_add
    : (negsuc 2147483647 ≡ saturated_of (pos 2147483647 +ℤ pos 1) → ⊥)
    × (pos 2147483646 ≡ saturated_of (pos 2147483646 +ℤ pos 1) → ⊥)
unfolding saturated_of
of_saturating_add = (λ h. let z : ◌≡◌ {A = ℕ} 0 1 = cc in omega arith, λ h. apart mag h refl)

-- a difference that wraps; one with its operands swapped
pub of_saturating_sub
    : (pos 2147483647 ≡ saturated_of (negsuc 2147483647 -ℤ pos 9) → ⊥)
    × (pos 8 ≡ saturated_of (pos 1 -ℤ pos 9) → ⊥)
unfolding saturated_of
of_saturating_sub = (λ h. let z : ◌≡◌ {A = ℕ} 0 1 = cc in omega arith, λ h. let z : ◌≡◌ {A = ℕ} 0 1 = cc in omega arith)

-- crossed ends: the upper one tried first; a value between the ends moved
pub of_clamp : (negsuc 0 ≡ clamp_of (negsuc 4) (pos 0) (negsuc 0) → ⊥) × (pos 9 ≡ clamp_of (pos 5) (pos 0) (pos 9) → ⊥)
unfolding clamp_of
of_clamp = (λ h. let z : ◌≡◌ {A = ℕ} 0 1 = cc in omega arith, λ h. let z : ◌≡◌ {A = ℕ} 0 1 = cc in omega arith)
