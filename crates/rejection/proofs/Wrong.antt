-- Wrong counts that the promises refuse, each by evaluation. Assumes nothing.
use Prim.Native.Nat.{ℕ}
use native.Mathlib.Omega.{arith}
use mathlib.Core.Path.{◌≡◌, ap}
use mathlib.Core.Bool.{Bool, true, false}
use lib.IntN.{pos, negsuc}
use lib.Signed.{mag}
use Rattle.number.specs.Whole.{saturated_of, clamp_of}
use Rattle.rejection.specs.declared.Counts.{Counts}
use Rattle.rejection.specs.declared.Updated.{Updated}
use Rattle.rejection.specs.Counts.{counted, reset_of, moved_of, updated_of, recovery_of}

abbrev after : ℕ → ℕ → Bool → Updated
after trigger threshold used = record { counts = counted (pos trigger) (pos threshold); used = used }

-- T = 3, trigger 3, over the limit: clamped before compared, so that recovery never begins; a trigger left above T. T = 20, in recovery: a good reading that
-- falls by 8; and one that ends it, yet leaves the threshold at 0
pub of_update
    : (after 3 3 false ≡ updated_of (pos 3) (counted (pos 3) (pos 3)) true → ⊥)
    × (after 4 0 true ≡ updated_of (pos 3) (counted (pos 3) (pos 3)) true → ⊥)
    × (after 12 0 true ≡ updated_of (pos 20) (counted (pos 20) (pos 0)) false → ⊥)
    × (after 0 0 true ≡ updated_of (pos 20) (counted (pos 2) (pos 0)) false → ⊥)
unfolding updated_of moved_of saturated_of clamp_of
of_update = (
  λ h. let z : ◌≡◌ {A = ℕ} 3 0 = ap (λ (s : Updated). mag s.counts.threshold) h in omega arith,
  λ h. let z : ◌≡◌ {A = ℕ} 4 3 = ap (λ (s : Updated). mag s.counts.trigger) h in omega arith,
  λ h. let z : ◌≡◌ {A = ℕ} 12 11 = ap (λ (s : Updated). mag s.counts.trigger) h in omega arith,
  λ h. let z : ◌≡◌ {A = ℕ} 0 20 = ap (λ (s : Updated). mag s.counts.threshold) h in omega arith,
)

-- from the largest number up: wrapped, and one too many
pub of_moved : (negsuc 2147483647 ≡ moved_of true (pos 2147483647) → ⊥) × (pos 2147483648 ≡ moved_of true (pos 2147483647) → ⊥)
unfolding moved_of saturated_of
of_moved = (λ h. let z : ◌≡◌ {A = ℕ} 0 1 = cc in omega arith, λ h. let z : ◌≡◌ {A = ℕ} 2147483648 2147483647 = ap mag h in omega arith)

-- a reset that starts in recovery, or with a threshold of 0
pub of_reset : (counted (pos 1) (pos 3) ≡ reset_of (pos 3) → ⊥) × (counted (pos 0) (pos 0) ≡ reset_of (pos 3) → ⊥)
of_reset = (
  λ h. let z : ◌≡◌ {A = ℕ} 1 0 = ap (λ (c : Counts). mag c.trigger) h in omega arith,
  λ h. let z : ◌≡◌ {A = ℕ} 0 3 = ap (λ (c : Counts). mag c.threshold) h in omega arith,
)

-- the flag up at the threshold itself; down above it
pub of_recovery : (true ≡ recovery_of (counted (pos 3) (pos 3)) → ⊥) × (false ≡ recovery_of (counted (pos 5) (pos 3)) → ⊥)
of_recovery = (λ h. let z : ◌≡◌ {A = ℕ} 0 1 = cc in omega arith, λ h. let z : ◌≡◌ {A = ℕ} 0 1 = cc in omega arith)
