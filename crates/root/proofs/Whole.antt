-- `nearest_root_of n` is the one whole number s with (s - 1/2) ^ 2 < n < (s + 1/2) ^ 2, which `Near` says without fractions. Assumes nothing.
use mathlib.Core.Path.{◌≡◌, refl, subst}
use mathlib.Core.Bool.{Bool, true, false, not, cond}
use Prim.Native.Nat.{ℕ, zero, suc, ◌+◌, ◌-◌, ◌*◌, ◌/◌, ◌^◌, ◌≤◌, ◌<◌}
use native.Mathlib.Nat.{lt_of_not-le, mul-le-mul, pow-suc, le_antisymm}
use native.Mathlib.Decide.{dec_le}
use borrow.Author.Tests.{le-leb, lt-leb}
use native.Mathlib.Omega.{arith}
use lib.Dec.{T, leb, leb→le, nleb→lt}
use Rattle.root.specs.Root.{floor_root, nearest_root_of}

-- ---- the root, cut

abbrev Cut : ℕ → ℕ → Type 0
Cut n s = (s * s ≤ n) × (n < (s + 1) * (s + 1))

-- one digit more
one_digit : (n s : ℕ) → Cut (n / 4) s → Cut n (cond (leb ((2 * s + 1) * (2 * s + 1)) n) (2 * s + 1) (2 * s))
one_digit n s h = go (leb ((2 * s + 1) * (2 * s + 1)) n) (leb→le ((2 * s + 1) * (2 * s + 1)) n) (nleb→lt ((2 * s + 1) * (2 * s + 1)) n)
  where
    go : (t : Bool) → (T t → (2 * s + 1) * (2 * s + 1) ≤ n) → (T (not t) → n < (2 * s + 1) * (2 * s + 1)) → Cut n (cond t (2 * s + 1) (2 * s))
    go true a b = let l : (2 * s + 1) * (2 * s + 1) ≤ n = a tt in (l, omega arith)
    go false a b = let l : n < (2 * s + 1) * (2 * s + 1) = b tt in (omega arith, l)

quarter : (n k : ℕ) → n < 4 ^ suc k → n / 4 < 4 ^ k
quarter n k h = let e : 4 ^ suc k ≡ 4 ^ k * 4 = pow-suc 4 k in omega arith

only_zero : (n : ℕ) → n < 1 → Cut n 0
only_zero n h = (omega arith, omega arith)

floor_cuts : (k n : ℕ) → n < 4 ^ k → Cut n (floor_root k n)
unfolding floor_root
floor_cuts zero n h = only_zero n h
floor_cuts (suc k) n h = one_digit n (floor_root k (n / 4)) (floor_cuts k (n / 4) (quarter n k h))

-- ---- the root, to nearest

abbrev pub Near : ℕ → ℕ → Type 0
Near n s = (s * (s - 1) < n) × (n ≤ s * (s + 1))

-- s * (s - 1) is s * s - s
pub less_one : (s : ℕ) → s * (s - 1) + s ≡ s * s
less_one zero = refl
less_one (suc k) = subst (λ (x : ℕ). suc k * x + suc k ≡ suc k * suc k) (back k) (whole k)
  where
    whole : (k : ℕ) → suc k * k + suc k ≡ suc k * suc k
    whole k = omega arith

    back : (k : ℕ) → k ≡ suc k - 1
    back k = omega arith

root_pos : (n s : ℕ) → 1 ≤ n → n < (s + 1) * (s + 1) → 1 ≤ s
root_pos n zero p h = omega arith
root_pos n (suc s) p h = omega arith

pub nearest_near : (n : ℕ) → 1 ≤ n → n < 2 ^ 48 → Near n (nearest_root_of n)
unfolding nearest_root_of
nearest_near n p h =
    let f = floor_root 24 n in
    let c : Cut n f = floor_cuts 24 n h in
    elim (dec_le n (f * (f + 1))) [
      | yes l ↦ simp (le-leb n (f * (f + 1)) l) (omega (arith, less_one f, root_pos n f p c.1), omega arith)
      | no g ↦ simp (lt-leb n (f * (f + 1)) (omega arith)) (omega (arith, less_one (f + 1)), omega arith)
    ]

pub near_le : (n s : ℕ) → n < 2 ^ 48 → Near n s → s ≤ 2 ^ 24
near_le n s l h = not_more (λ (g : 2 ^ 24 < s). clash (mul-le-mul g (less g)) h.0 l)
  where
    less : 2 ^ 24 < s → 2 ^ 24 ≤ s - 1
    less g = omega arith

    clash : (2 ^ 24 + 1) * 2 ^ 24 ≤ s * (s - 1) → s * (s - 1) < n → n < 2 ^ 48 → ⊥
    clash a b c = omega arith

    not_more : ((2 ^ 24 < s) → ⊥) → s ≤ 2 ^ 24
    not_more f = omega arith

-- ---- a candidate that is too small, too large, or the root

pub too_small : (n s r : ℕ) → Near n s → r * (r + 1) < n → r < s
too_small n s r h l = lt_of_not-le (λ (g : s ≤ r). clash (mul-le-mul g (more g)) h.1 l)
  where
    more : s ≤ r → s + 1 ≤ r + 1
    more g = omega arith

    clash : s * (s + 1) ≤ r * (r + 1) → n ≤ s * (s + 1) → r * (r + 1) < n → ⊥
    clash a b c = omega arith

pub too_large : (n s r : ℕ) → Near n s → n ≤ r * (r - 1) → s < r
too_large n s r h l = lt_of_not-le (λ (g : r ≤ s). clash (mul-le-mul g (less g)) h.0 l)
  where
    less : r ≤ s → r - 1 ≤ s - 1
    less g = omega arith

    clash : r * (r - 1) ≤ s * (s - 1) → s * (s - 1) < n → n ≤ r * (r - 1) → ⊥
    clash a b c = omega arith

pub near_unique : (n s r : ℕ) → Near n s → Near n r → s ≡ r
near_unique n s r h k = le_antisymm (le s r h k) (le r s k h)
  where
    -- r < s would put n both at most r * (r + 1) and above s * (s - 1)
    apart : (s r : ℕ) → r < s → r + 1 ≤ s × r ≤ s - 1
    apart s r g = (omega arith, omega arith)

    clash : (s r : ℕ) → (r + 1) * r ≤ s * (s - 1) → s * (s - 1) < n → n ≤ r * (r + 1) → ⊥
    clash s r a b c = omega arith

    le : (s r : ℕ) → Near n s → Near n r → s ≤ r
    le s r h k = not_more (λ (g : r < s). clash s r (mul-le-mul (apart s r g).0 (apart s r g).1) h.0 k.1)
      where
        not_more : ((r < s) → ⊥) → s ≤ r
        not_more f = omega arith
