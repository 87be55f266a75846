-- The root of an f32 (01, "The root"): `sqrt_of` computes it, `Root` says what a root is, and the theorems at the end join the two. Definitions and
-- statements only.
use Rattle.std.specs.Prelude.{◌≡◌, ℕ, zero, suc, ◌+◌, ◌-◌, ◌*◌, ◌/◌, ◌%◌, ◌^◌, ◌≤◌, ◌<◌, true, false, cond, T, leb, ltb, eqb, Float}
use Rattle.std.specs.Int.Count.{count_leading_zeros}
use Rattle.std.specs.Float.{nan, inf, fin, binary32}
use Rattle.std.specs.Float.Ieee.{fits, of_bits, to_bits}
use Rattle.std.specs.Float.Ieee.Positive.{num, den, positive}

-- ---- whole numbers

-- the root of an n below 4 ^ k, cut to a whole number: one binary digit a step
unfoldable pub floor_root : ℕ → ℕ → ℕ
floor_root zero n = 0
floor_root (suc k) n = let s = 2 * floor_root k (n / 4) in cond (leb ((s + 1) * (s + 1)) n) (s + 1) s

-- The whole number nearest the root of an n below 2 ^ 48: f or f + 1. (f + 1/2) ^ 2 is f * (f + 1) + 1/4.
unfoldable pub nearest_root_of : ℕ → ℕ
nearest_root_of n = let f = floor_root 24 n in cond (leb n (f * (f + 1))) f (f + 1)

-- ---- bits: a finite number above zero has the bits b from 1 to 0x7f7f_ffff, and is significandOf b * 2 ^ (exponentOf b - 275), with a significandOf
-- b of 24 digits

unfoldable pub significand_of : ℕ → ℕ
significand_of b = cond (ltb b 8388608) (b * 2 ^ (count_leading_zeros 32 b - 8)) (8388608 + b % 8388608)

unfoldable pub exponent_of : ℕ → ℕ
exponent_of b = cond (ltb b 8388608) (134 - count_leading_zeros 32 b) (125 + b / 8388608)

-- the number is squaredOf b * 4 ^ (exponentOf b / 2 - 149): the significand is moved up so that the power of two has a root
unfoldable pub squared_of : ℕ → ℕ
squared_of b = cond (eqb (exponent_of b % 2) 0) (significand_of b * 8388608) (significand_of b * 16777216)

-- the bits of the root
unfoldable pub root_bits_of : ℕ → ℕ
root_bits_of b = exponent_of b / 2 * 8388608 + nearest_root_of (squared_of b)

-- ---- the root

unfoldable pub sqrt_of : Float → Float
sqrt_of nan = nan
sqrt_of (inf true) = nan
sqrt_of (inf false) = inf false
sqrt_of (fin s zero e) = fin s zero e
sqrt_of (fin true (suc m) e) = nan
sqrt_of (fin false (suc m) e) = of_bits binary32 (root_bits_of (to_bits binary32 (fin false (suc m) e)))

-- ---- the nearest f32, over whole numbers

-- a finite size in units of 2 ^ -149, the smallest f32 above zero: each f32 is a whole number of them
abbrev pub size_of : Float → ℕ
size_of x = num x * 2 ^ 149 / den x

-- the f32 next above and next below an f32 above zero
abbrev pub above : Float → Float
above r = of_bits binary32 (to_bits binary32 r + 1)

abbrev pub below : Float → Float
below r = of_bits binary32 (to_bits binary32 r - 1)

-- m ^ 2 < x < M ^ 2, with m the midpoint of r and the f32 next below it, M that of r and the f32 next above.
-- In units m is (size_of (below r) + size_of r) / 2, and x is size_of x * 2 ^ 149 squared units.
pub record Between (x r : Float) : Type 0 where
  pub held : T (fits binary32 r)
  pub over_zero : T (positive r)
  pub over : (size_of (below r) + size_of r) * (size_of (below r) + size_of r) < 4 * (size_of x * 2 ^ 149)
  pub under : 4 * (size_of x * 2 ^ 149) < (size_of r + size_of (above r)) * (size_of r + size_of (above r))

-- r is the root of x
abbrev pub Root : Float → Float → Type 0
Root nan r = r ≡ nan
Root (inf true) r = r ≡ nan
Root (inf false) r = r ≡ inf false
Root (fin s zero e) r = r ≡ fin s zero e
Root (fin true (suc m) e) r = r ≡ nan
Root (fin false (suc m) e) r = Between (fin false (suc m) e) r

-- ---- the theorems, proved in proofs/Nearest and proofs/Neighbours

-- what `sqrt_of` computes is a root, for every f32
abbrev pub Nearest : Type 0
Nearest = (x : Float) → T (fits binary32 x) → Root x (sqrt_of x)

-- no number has two roots
abbrev pub Unique : Type 0
Unique = (x r r' : Float) → Root x r → Root x r' → r ≡ r'

-- `size_of` cuts nothing off an f32 above zero
abbrev pub Exact : Type 0
Exact = (r : Float) → T (fits binary32 r) → T (positive r) → num r * 2 ^ 149 ≡ size_of r * den r

-- no f32 lies between r and `above r`
abbrev pub NextAbove : Type 0
NextAbove = (r y : Float) → T (fits binary32 r) → T (positive r) → T (fits binary32 y) → T (positive y) → size_of r < size_of y → size_of (above r) ≤ size_of y

-- no f32 lies between `below r` and r
abbrev pub NextBelow : Type 0
NextBelow = (r y : Float) → T (fits binary32 r) → T (positive r) → T (fits binary32 y) → T (positive y) → size_of y < size_of r → size_of y ≤ size_of (below r)
