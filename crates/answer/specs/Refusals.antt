-- The refusal table: a call has only the checks its arguments need, and the lowest number wins.
use Rattle.std.specs.Prelude.{ℕ, zero, suc, ◌≤◌, ◌≡◌, Bool, true, ◌&&◌, cond, List, [], ◌∷◌, ◌⊎◌, T, leb}

-- a row of the table: its number, and whether what it forbids is the case
pub record Check : Type 0 where
  pub number : ℕ
  pub fails : Bool

abbrev pub check : ℕ → Bool → Check
check n b = record { number = n; fails = b }

-- the number of the first check that fails, 0 where none does
unfoldable pub refusal_of : List Check → ℕ
refusal_of [] = 0
refusal_of (c ∷ cs) = cond c.fails c.number (refusal_of cs)

-- what was accepted, or what stands in its place where a number refuses it
abbrev pub accepted : {A : Type 0} → ℕ → A → A → A
accepted zero new old = new
accepted (suc n) new old = old

-- ---- the law of the table

-- the numbers are k at least, and do not fall
unfoldable pub ascends : ℕ → List Check → Bool
ascends k [] = true
ascends k (c ∷ cs) = leb k c.number && ascends c.number cs

-- some check with the number k fails
unfoldable pub Fails : ℕ → List Check → Type 0
Fails k [] = ⊥
Fails k (c ∷ cs) = ((c.number ≡ k) × (c.fails ≡ true)) ⊎ Fails k cs

abbrev pub None : List Check → Type 0
None cs = (j : ℕ) → Fails j cs → ⊥

-- k's check fails, and none with a lower number
abbrev pub Lowest : ℕ → List Check → Type 0
Lowest k cs = Fails k cs × ((j : ℕ) → Fails j cs → k ≤ j)

-- each number is given exactly when its check is the lowest that fails, and 0 exactly when none fails
pub record Exactly (cs : List Check) : Type 0 where
  pub given : (k : ℕ) → 1 ≤ k → refusal_of cs ≡ k → Lowest k cs
  pub when : (k : ℕ) → Lowest k cs → refusal_of cs ≡ k
  pub nothing : refusal_of cs ≡ 0 → None cs
  pub else : None cs → refusal_of cs ≡ 0

-- so it is for every list of checks in the table's order
abbrev pub ByTheTable : Type 0
ByTheTable = (cs : List Check) → T (ascends 1 cs) → Exactly cs
