-- The search for the first number that passes, and the comparison of two runs of bytes. Assumes nothing.
use Prim.Native.Nat.{ℕ, zero, suc, ◌+◌, ◌-◌, ◌≤◌, ◌<◌}
use native.Mathlib.Omega.{arith}
use native.Mathlib.Numerals.{add-one}
use mathlib.Core.Path.{◌≡◌, refl, ap₂}
use mathlib.Core.Bool.{Bool, true, false, ◌&&◌, cond}
use mathlib.Core.List.{List, [], ◌∷◌}
use lib.Dec.{eqb}
use lib.ListN.{length, get_or, drop, drop_of_length-le}
use lib.Seq.{drop-cons}
use borrow.Author.Tests.{eqb-true, eq-eqb, ne_eqb}
use Rattle.remap.specs.First.{first}
use Rattle.remap.specs.Names.{same}

-- ---- the search, of which k - n numbers from n on are left

left : (k n : ℕ) → n < k → k - n ≡ suc (k - (n + 1))
left k n h = omega arith

module _ (passes : ℕ → Bool) (k n : ℕ) where
  pub first_next : n < k → passes n ≡ false → first passes (k - n) n ≡ first passes (k - (n + 1)) (n + 1)
  unfolding first
  first_next h e = simp (left k n h, add-one n, e)

  pub first_here : n < k → passes n ≡ true → first passes (k - n) n ≡ n
  unfolding first
  first_here h e = simp (left k n h, e)

  pub first_end : k ≤ n → first passes (k - n) n ≡ n
  unfolding first
  first_end h = let e : k - n ≡ 0 = omega arith in rw e

-- what is found passes
pub first_passes : (passes : ℕ → Bool) (k n : ℕ) → first passes k n < n + k → passes (first passes k n) ≡ true
unfolding first
first_passes passes zero n h = absurd (omega arith)
first_passes passes (suc k) n h = pick (passes n) refl h (first_passes passes k (suc n))
  where
    pick : (b : Bool) → passes n ≡ b → cond b n (first passes k (suc n)) < n + suc k
        → (first passes k (suc n) < suc n + k → passes (first passes k (suc n)) ≡ true)
        → passes (cond b n (first passes k (suc n))) ≡ true
    pick true e l later = e
    pick false e l later = later (omega arith)

-- ---- the comparison, of which what stands from k on is left

module _ (s t : List ℕ) (k : ℕ) where
  pub same_next : k < length s → k < length t → get_or s k 0 ≡ get_or t k 0 → same (drop k s) (drop k t) ≡ same (drop (k + 1) s) (drop (k + 1) t)
  unfolding same
  same_next h g e = rw (add-one, drop-cons s k 0 h, drop-cons t k 0 g, eq-eqb (get_or s k 0) (get_or t k 0) e)

  pub same_not : k < length s → k < length t → (get_or s k 0 ≡ get_or t k 0 → ⊥) → same (drop k s) (drop k t) ≡ false
  unfolding same
  same_not h g e = rw (drop-cons s k 0 h, drop-cons t k 0 g, ne_eqb (get_or s k 0) (get_or t k 0) e)

  pub same_end : length s ≤ k → length t ≤ k → same (drop k s) (drop k t) ≡ true
  unfolding same
  same_end h g = rw (drop_of_length-le s {i = k} h, drop_of_length-le t {i = k} g)

-- what is the same is equal
pub same_eq : (s t : List ℕ) → same s t ≡ true → s ≡ t
unfolding same
same_eq [] [] e = refl
same_eq [] (y ∷ t) e = cc
same_eq (x ∷ s) [] e = cc
same_eq (x ∷ s) (y ∷ t) e = pick (eqb x y) refl e (same_eq s t)
  where
    pick : (b : Bool) → eqb x y ≡ b → (b && same s t) ≡ true → (same s t ≡ true → s ≡ t) → x ∷ s ≡ y ∷ t
    pick true p q later = ap₂ (λ (a : ℕ) (l : List ℕ). a ∷ l) (eqb-true x y p) (later q)
    pick false p q later = cc
