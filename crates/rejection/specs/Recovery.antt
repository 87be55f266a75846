-- 02 P11, of the counts alone: a locked-out sensor always comes back. `reached/specs/Recovery` says the same of whole updates.
use Rattle.std.specs.Prelude.{ℕ, zero, suc, ◌+◌, ◌/◌, ◌<◌, ◌≤◌, min, ◌≡◌, true, false, cond, List, [], ◌∷◌, ◌++◌, replicate, ℤ, pos}
use Rattle.rejection.specs.declared.Counts.{Counts}
use Rattle.rejection.specs.Counts.{counted, reset_of, recovery_of}
use Rattle.rejection.specs.Inside.{ZeroOr}
use Rattle.rejection.specs.Readings.{Kind, good, over, all_zero, by_kind, after_all}

-- freshly reset, and then n readings over the limit
abbrev pub locked_out : ℕ → ℕ → Counts
locked_out T n = after_all (pos T) (reset_of (pos T)) (replicate n over)

-- recovery has begun, and the trigger is T
abbrev pub begun : ℕ → Counts
begun T = counted (pos T) (pos 0)

-- and then k good readings
abbrev pub recovering : ℕ → ℕ → Counts
recovering T k = after_all (pos T) (begun T) (replicate k good)

-- T / 9, rounded up
abbrev pub ninth : ℕ → ℕ
ninth T = (T + 8) / 9

pub record ComesBack (T : ℕ) : Type 0 where
  -- after n readings over the limit the trigger is the smaller of n and T
  pub trigger : (n : ℕ) → (locked_out T n).trigger ≡ pos (min n T)
  -- the first T of them are not used, and each later one is
  pub ignored : (n : ℕ) → n < T → (by_kind (pos T) (locked_out T n) over).used ≡ false
  pub used : (n : ℕ) → T ≤ n → (by_kind (pos T) (locked_out T n) over).used ≡ true
  -- in a row: a good one in every ten keeps recovery from beginning
  pub once_in_ten : 9 ≤ T → after_all (pos T) (reset_of (pos T)) (replicate 9 over ++ (good ∷ [])) ≡ reset_of (pos T)
  -- the first that is used begins recovery
  pub begins : (n : ℕ) → T < n → locked_out T n ≡ begun T
  -- the flag up and the trigger at T are these counts and no others
  pub begun_is : (c : Counts) → ZeroOr (pos T) c.threshold → recovery_of c ≡ true → c.trigger ≡ pos T → c ≡ begun T
  -- then good readings in a row do not end it before the one at T / 9, rounded up
  pub not_sooner : (k : ℕ) → k < ninth T → recovery_of (recovering T k) ≡ true
  -- and that one does: from then on the counts are as freshly reset
  pub ends : 1 ≤ T → (k : ℕ) → ninth T ≤ k → recovering T k ≡ reset_of (pos T)
  -- one over the limit is used too, whatever the trigger is, and never ends it
  pub bad_used : (c : Counts) → ZeroOr (pos T) c.threshold → recovery_of c ≡ true → (by_kind (pos T) c over).used ≡ true
  pub bad : 1 ≤ T → (c : Counts) → ZeroOr (pos T) c.threshold → recovery_of c ≡ true → recovery_of (by_kind (pos T) c over).counts ≡ true
  -- a reading that is all zero changes neither trigger nor threshold
  pub unread : (c : Counts) → (by_kind (pos T) c all_zero).counts ≡ c

-- T from 0 to 2^31 - 2
abbrev pub AlwaysBack : Type 0
AlwaysBack = (T : ℕ) → T < 2147483647 → ComesBack T

-- T = 2^31 - 1
abbrev pub largest : ℤ
largest = pos 2147483647

-- freshly reset, and then whatever is read: the flag is down, and a reading over the limit is not used
pub record NeverBegins : Type 0 where
  pub down : (xs : List Kind) → recovery_of (after_all largest (reset_of largest) xs) ≡ false
  pub ignored : (xs : List Kind) → (by_kind largest (after_all largest (reset_of largest) xs) over).used ≡ false

-- ---- by evaluation

-- from freshly reset, readings over the limit until one is used; and in recovery from a trigger of T, good ones until the flag is down:
-- how many, up to a most
abbrev pub ignored_from : ℕ → Counts → ℕ → ℕ
ignored_from T c zero = 0
ignored_from T c (suc most) = let u = by_kind (pos T) c over in cond u.used 0 (suc (ignored_from T u.counts most))

abbrev pub lasts_from : ℕ → Counts → ℕ → ℕ
lasts_from T c zero = 0
lasts_from T c (suc most) = cond (recovery_of c) (suc (lasts_from T (by_kind (pos T) c good).counts most)) 0

pub record Row (T ignored lasts : ℕ) : Type 0 where
  pub ignores : ignored_from T (reset_of (pos T)) 600 ≡ ignored
  pub recovers : lasts_from T (begun T) 600 ≡ lasts
  pub ends : recovering T lasts ≡ reset_of (pos T)

pub record Examples : Type 0 where
  pub none : Row 0 0 0
  pub one : Row 1 1 1
  pub nine : Row 9 9 1
  pub ten : Row 10 10 2
  pub five_hundred : Row 500 500 56
  -- new settings in recovery set the threshold to T: a reading over the limit is not used again
  pub interrupted : (by_kind (pos 500) (counted (pos 491) (pos 500)) over).used ≡ false
