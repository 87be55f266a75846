-- A mounting found by its number: the first below 24 that passes a test.
use Rattle.std.specs.Prelude.{ℕ, zero, suc, Bool, cond}

-- the first of k numbers from n on that passes, and the number after them where none does
unfoldable pub first : (ℕ → Bool) → ℕ → ℕ → ℕ
first passes zero n = n
first passes (suc k) n = cond (passes n) n (first passes k (suc n))

-- 24 where no mounting passes
abbrev pub first_mounting : (ℕ → Bool) → ℕ
first_mounting passes = first passes 24 0
