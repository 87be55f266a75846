-- How the code holds its answers and reads a name, of which only the inner functions speak.
use Rattle.std.specs.Prelude.{ℕ, zero, suc, ◌+◌, ◌-◌, ◌*◌, ◌/◌, ◌%◌, ◌^◌, cond, eqb}
use Rattle.remap.specs.Composition.{compose_of}

-- k numbers below a width, f at the places from i on, packed into one: the first is its lowest digit
unfoldable pub packed : ℕ → (ℕ → ℕ) → ℕ → ℕ → ℕ
packed w f zero i = 0
packed w f (suc k) i = f i + w * packed w f k (suc i)

-- the answers of one row for six mountings that come second
abbrev pub six_of : ℕ → ℕ → ℕ
six_of first six = packed 32 (compose_of first) 6 (6 * six)

-- the axis that the k-th byte of a name is of, by a mounting's number
abbrev pub place_at : ℕ → ℕ → ℕ
place_at axes k = axes / 2 ^ (10 - 5 * (k / 2)) % 8

-- 1 where it is a negative one
abbrev pub minus_at : ℕ → ℕ → ℕ
minus_at axes k = (place_at axes k + 1) / 4

-- its sign at an even place, its letter at an odd one
unfoldable pub byte_of : ℕ → ℕ → ℕ
byte_of axes k = cond (eqb (k % 2) 0) (43 + 2 * minus_at axes k) (88 + place_at axes k - 3 * minus_at axes k)
