-- Answers that `Root` refuses, each by evaluation. Assumes nothing.
use mathlib.Core.Path.{◌≡◌}
use mathlib.Core.Bool.{true, false}
use Prim.Native.Nat.{ℕ}
use native.Mathlib.Omega.{arith}
use lib.Dec.{lt→ltb}
use lib.IntN.{pos}
use lib.Ieee.{Float, nan, inf, fin, binary32, of_bits, to_bits}
use Rattle.root.specs.Root.{Root}

abbrev two : Float
two = fin false 1 (pos 1)

-- of 2.0, whose root has the bits 3FB504F3: the f32 next above, the one next below, 2.0 itself, minus the root, NaN
pub of_two
    : (Root two (of_bits binary32 0x3FB5_04F4) → ⊥)
    × (Root two (of_bits binary32 0x3FB5_04F2) → ⊥)
    × (Root two two → ⊥)
    × (Root two (of_bits binary32 0xBFB5_04F3) → ⊥)
    × (Root two nan → ⊥)
unfolding of_bits to_bits
of_two = (λ h. lt→ltb _ _ h.over, λ h. lt→ltb _ _ h.under, λ h. lt→ltb _ _ h.over, λ h. h.over_zero, λ h. h.over_zero)

-- of the largest f32: the power of two above its root
pub of_largest : Root (of_bits binary32 0x7F7F_FFFF) (fin false 1 (pos 64)) → ⊥
unfolding of_bits to_bits
of_largest h = lt→ltb _ _ h.over

-- of -0.0: 0.0; of -2.0: itself; of plus infinity and NaN: 2.0
pub of_minus_zero : Root (fin true 0 (pos 0)) (fin false 0 (pos 0)) → ⊥
of_minus_zero h = let z : ◌≡◌ {A = ℕ} 0 1 = cc in omega arith

pub of_minus_two : Root (fin true 1 (pos 1)) (fin true 1 (pos 1)) → ⊥
of_minus_two h = let z : ◌≡◌ {A = ℕ} 0 1 = cc in omega arith

pub of_infinity : Root (inf false) two → ⊥
of_infinity h = let z : ◌≡◌ {A = ℕ} 0 1 = cc in omega arith

pub of_nan : Root nan two → ⊥
of_nan h = let z : ◌≡◌ {A = ℕ} 0 1 = cc in omega arith
