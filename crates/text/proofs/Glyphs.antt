-- The hexadecimal digits stand in their order, from 0 on. Assumes nothing.
use Prim.Native.Nat.{ℕ, zero, suc, ◌+◌, ◌<◌}
use native.Mathlib.Omega.{arith}
use mathlib.Core.Path.{◌≡◌, ap, ◌∙◌}
use mathlib.Core.List.{List, [], ◌∷◌}
use lib.ListN.{get_or}
use Rattle.text.specs.Text.{digit_of}

-- n of them, from i on
abbrev pub digits : ℕ → ℕ → List ℕ
digits zero i = []
digits (suc n) i = digit_of i ∷ digits n (suc i)

pub stands : (n i k : ℕ) → k < n → get_or (digits n i) k 0 ≡ digit_of (i + k)
stands zero i k h = absurd (omega arith)
stands (suc n) i zero h = ap digit_of (omega arith)
stands (suc n) i (suc k) h = stands n (suc i) k (omega arith) ∙ ap digit_of (omega arith)
