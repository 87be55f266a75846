-- A match on a number with an arm for each of the first ones: what an arm has to show, and what the last arm, `_`, knows. Assumes nothing.
use Prim.Native.Nat.{ℕ, zero, suc, ◌≤◌, zero-le}
use mathlib.Core.Path.{◌≡◌, ap, sym}
use lib.Arith.{lt_of_le-ne}

-- the arm of the number k, of a match that gives f of its number
pub arm : (f : ℕ → ℕ) {n k : ℕ} → n ≡ k → f k ≡ f n
arm f e = ap f (sym e)

-- the number is none of 0, 1, .., k - 1: the shape of `c.match.rest`
abbrev pub Rest : ℕ → ℕ → Type 0
Rest zero n = Unit {0}
Rest (suc k) n = Rest k n × (n ≡ k → ⊥)

pub past : (k n : ℕ) → Rest k n → k ≤ n
past zero n r = zero-le
past (suc k) n r = lt_of_le-ne (past k n r.0) (λ e. r.1 (sym e))
