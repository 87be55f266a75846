-- 01, "Bias", the record: numbers in bytes, little-endian; and which bit patterns are finite.
-- A byte past the end reads as 0, and a store past the end changes nothing: so `get_or` and `set` are.
use Rattle.std.specs.Prelude.{ℕ, ◌+◌, ◌*◌, ◌/◌, ◌%◌, ◌≤◌, ◌≡◌, List, Bool, length, get_or, set, ltb, Float}
use Rattle.std.specs.Float.{binary32}
use Rattle.std.specs.Float.Ieee.{of_bits, to_bits}

abbrev pub u16_at : List ℕ → ℕ → ℕ
u16_at s at = get_or s at 0 + 256 * get_or s (at + 1) 0

abbrev pub bits_at : List ℕ → ℕ → ℕ
bits_at s at = get_or s at 0 + 256 * get_or s (at + 1) 0 + 65536 * get_or s (at + 2) 0 + 16777216 * get_or s (at + 3) 0

abbrev pub put_u16 : List ℕ → ℕ → ℕ → List ℕ
put_u16 s at n = set (set s at (n % 256)) (at + 1) (n / 256)

abbrev pub put_bits : List ℕ → ℕ → ℕ → List ℕ
put_bits s at n = set (set (set (set s at (n % 256)) (at + 1) (n / 256 % 256)) (at + 2) (n / 65536 % 256)) (at + 3) (n / 16777216)

-- without the sign's bit, an infinity is 0x7f80_0000 and a NaN is above it
unfoldable pub finite_bits : ℕ → Bool
finite_bits n = ltb (n % 2147483648) 2139095040

-- every NaN's pattern is the one NaN
abbrev pub float_of : ℕ → Float
float_of n = of_bits binary32 n

-- the NaN is 0x7fc0_0000, the library's pattern for it
abbrev pub bits_of : Float → ℕ
bits_of x = to_bits binary32 x

-- a number that was written, where it has room, is read back
pub record ReadBack : Type 0 where
  pub number : (s : List ℕ) (at n : ℕ) → at + 2 ≤ length s → u16_at (put_u16 s at n) at ≡ n
  pub pattern : (s : List ℕ) (at n : ℕ) → at + 4 ≤ length s → bits_at (put_bits s at n) at ≡ n
