-- A test at every number below a bound, or at every two, which antt computes. Assumes nothing.
use Prim.Native.Nat.{ℕ, zero, suc, ◌<◌}
use native.Mathlib.Nat.{not-suc-le-zero}
use native.Mathlib.Decide.{dec_lt}
use native.Mathlib.Omega.{arith}
use mathlib.Core.Path.{◌≡◌, subst}
use mathlib.Core.Bool.{Bool, true, ◌&&◌}
use lib.Dec.{T}
use lib.Ieee.Fits.{and_l, and_r}

abbrev pub all_below : ℕ → (ℕ → Bool) → Bool
all_below zero test = true
all_below (suc n) test = test n && all_below n test

pub at_each : (n : ℕ) (test : ℕ → Bool) → T (all_below n test) → (i : ℕ) → i < n → T (test i)
at_each zero test t i h = absurd (not-suc-le-zero h)
at_each (suc n) test t i h = pick (dec_lt i n) (at_each n test (and_r (test n) (all_below n test) t) i)
  where
    pick : Dec (i < n) → (i < n → T (test i)) → T (test i)
    pick (yes l) earlier = earlier l
    pick (no g) earlier = let e : n ≡ i = omega arith in subst (λ (m : ℕ). T (test m)) e (and_l (test n) (all_below n test) t)

-- at every two numbers, each below its bound
pub at_both : (n k : ℕ) (test : ℕ → ℕ → Bool) → T (all_below n (λ i. all_below k (test i))) → (i j : ℕ) → i < n → j < k → T (test i j)
at_both n k test t i j h g = at_each k (test i) (at_each n (λ m. all_below k (test m)) t i h) j g
