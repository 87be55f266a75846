-- The order of whole numbers as the counts' bounds state it. Assumes nothing.
use mathlib.Core.Path.{refl}
use mathlib.Core.Bool.{true≢false}
use native.Mathlib.Omega.{arith}
use borrow.Author.Tests.{ltb-false, le-ltb}
use lib.IntN.{ℤ, pos, negsuc}
use Rattle.rejection.specs.Inside.{NotBelow}

pub not_below_itself : (z : ℤ) → NotBelow z z
not_below_itself (pos n) = le-ltb n n (omega arith)
not_below_itself (negsuc n) = le-ltb n n (omega arith)

pub not_below_through : (a b c : ℤ) → NotBelow a b → NotBelow b c → NotBelow a c
not_below_through (pos a) (pos b) (pos c) p q = le-ltb c a (omega (arith, ltb-false b a p, ltb-false c b q))
not_below_through (pos a) (pos b) (negsuc c) p q = absurd (true≢false q)
not_below_through (pos a) (negsuc b) c p q = absurd (true≢false p)
not_below_through (negsuc a) b (pos c) p q = refl
not_below_through (negsuc a) (pos b) (negsuc c) p q = absurd (true≢false q)
not_below_through (negsuc a) (negsuc b) (negsuc c) p q = le-ltb a c (omega (arith, ltb-false a b p, ltb-false b c q))
