-- `root::nearest_root` meets its contract. The invariant is the candidate's range, and the measure its distance from the root.
use mathlib.Core.Path.{◌≡◌, refl, sym, ◌∙◌}
use mathlib.Core.Bool.{Bool, true, false, ◌&&◌, false≢true}
use Prim.Native.Nat.{ℕ, ◌+◌, ◌*◌, ◌≤◌, ◌<◌, ◌^◌}
use native.Mathlib.Nat.{mul-le-mul}
use native.Mathlib.Omega.{arith}
use lib.Dec.{leb, ltb}
use borrow.Author.Tests.{leb-true, leb-false, ltb-true, ltb-false, lt-ltb, le-leb}
use Rattle.root.specs.Root.{nearest_root_of}
use Rattle.root.proofs.Whole.{Near, less_one, nearest_near, near_le, near_unique, too_small, too_large}
use Rattle.root.proofs.nearest_root.Goals as goal

square_fits : (r : ℕ) → r < 2 ^ 25 → r * r ≤ 2 ^ 25 * 2 ^ 25
square_fits r h = mul-le-mul (less h) (less h)
  where
    less : r < 2 ^ 25 → r ≤ 2 ^ 25
    less h = omega arith

-- ---- what the test of a candidate says
abbrev passes : ℕ → ℕ → Bool
passes n r = leb n (r * r + r) && ltb (r * r) (n + r)

both : (a b : Bool) → (a && b) ≡ true → (a ≡ true) × (b ≡ true)
both true b e = (refl, e)
both false b e = absurd (false≢true e)

is_near : (n r : ℕ) → passes n r ≡ true → Near n r
is_near n r e =
    let t = both (leb n (r * r + r)) (ltb (r * r) (n + r)) e in
    let above : n ≤ r * r + r = leb-true _ _ t.0 in
    let below : r * r < n + r = ltb-true _ _ t.1 in
    (omega (arith, less_one r), omega arith)

first : (a b : Bool) → (a && b) ≡ false → b ≡ true → a ≡ false
first true b e h = sym h ∙ e
first false b e h = refl

second : (a b : Bool) → (a && b) ≡ false → a ≡ true → b ≡ false
second true b e h = e
second false b e h = absurd (false≢true h)

-- a candidate that fails it is too far below or too far above, as its square is
below : (n r : ℕ) → passes n r ≡ false → r * r < n → r * r + r < n
below n r e h = leb-false n (r * r + r) (first (leb n (r * r + r)) (ltb (r * r) (n + r)) e (lt-ltb (r * r) (n + r) (omega arith)))

above : (n r : ℕ) → passes n r ≡ false → n ≤ r * r → n + r ≤ r * r
above n r e h = ltb-false (r * r) (n + r) (second (leb n (r * r + r)) (ltb (r * r) (n + r)) e (le-leb n (r * r + r) (omega arith)))

-- so the nearest root lies the way that the candidate is moved
rises : (n r : ℕ) → (1 ≤ n) × (n < 2 ^ 48) → passes n r ≡ false → r * r < n → r < nearest_root_of n
rises n r p e h = too_small _ _ _ (nearest_near n p.0 p.1) (omega (arith, below n r e h))

falls : (n r : ℕ) → (1 ≤ n) × (n < 2 ^ 48) → passes n r ≡ false → n ≤ r * r → nearest_root_of n < r
falls n r p e h = too_large _ _ _ (nearest_near n p.0 p.1) (omega (arith, above n r e h, less_one r))

pub overflow_mul-square : goal.overflow_mul-square
overflow_mul-square c = omega (arith, square_fits c.loop-r.r (omega arith))

pub overflow_add-square : goal.overflow_add-square
overflow_add-square c = omega (arith, square_fits c.loop-r.r (omega arith))

pub loop-r-smaller-then-square-n : goal.loop-r-smaller-then-square-n
loop-r-smaller-then-square-n c = omega (arith, rises _ _ c.requires c.if-n-square.false c.if-square-n.true)

pub loop-r-preserved-then-square-n : goal.loop-r-preserved-then-square-n
loop-r-preserved-then-square-n c =
    let n = c.requires in
    omega (arith, rises _ _ n c.if-n-square.false c.if-square-n.true, near_le _ _ n.1 (nearest_near _ n.0 n.1))

pub overflow_sub-r : goal.overflow_sub-r
overflow_sub-r c = omega (arith, falls _ _ c.requires c.if-n-square.false c.if-square-n.false)

pub loop-r-smaller : goal.loop-r-smaller
loop-r-smaller c = omega (arith, falls _ _ c.requires c.if-n-square.false c.if-square-n.false)

pub returns : goal.returns
returns c = near_unique _ _ _ (is_near _ _ c.if-n-square.true) (nearest_near _ c.requires.0 c.requires.1)
