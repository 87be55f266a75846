-- Values to which a code gives other numbers are not equal: so the wrong answers of each crate's `Wrong` are refused. The floats that they use.
-- Assumes nothing.
use Rattle.std.proofs.Common.{◌≡◌, ℕ, true, false, eqb, pos, negsuc, ap}
use lib.Ieee.{Float, fin, binary32, to_bits}
use borrow.Author.Tests.{eqb-false}

pub unlike : (a b : ℕ) → eqb a b ≡ false → a ≡ b → ⊥
unlike a b e h = eqb-false a b e h

pub apart : {A : Type 0} (code : A → ℕ) {a b : A} → a ≡ b → eqb (code a) (code b) ≡ false → ⊥
apart code {a} {b} h e = eqb-false (code a) (code b) e (ap code h)

-- a float's code
abbrev pub bits : Float → ℕ
bits x = to_bits binary32 x

abbrev pub nought : Float
nought = fin false 0 (pos 0)

abbrev pub minus_nought : Float
minus_nought = fin true 0 (pos 0)

abbrev pub one : Float
one = fin false 1 (pos 0)

abbrev pub minus_one : Float
minus_one = fin true 1 (pos 0)

abbrev pub two : Float
two = fin false 1 (pos 1)

abbrev pub half : Float
half = fin false 1 (negsuc 0)
