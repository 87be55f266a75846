-- 02, P3: the exact sine and cosine of an angle in degrees, as fractions of whole numbers, and what it is to be within 2 ^ -k of one.
use Rattle.std.specs.Prelude.{ℕ, ◌+◌, ◌-◌, ◌*◌, ◌/◌, ◌%◌, ◌^◌, ◌<◌, ◌≤◌, Bool, true, false, cond, ◌&&◌, ◌==◌, from_bits, nat_le, nat_lt, Float}
use Rattle.std.specs.Bool.{beq}
use Rattle.std.specs.Float.{nan, inf, fin, binary32}
use Rattle.std.specs.Float.Ieee.{up, down, unlike, neg, le}
use Rattle.trig.specs.Series.{sine_num, sine_den, cosine_num, cosine_den}

-- top / bottom, negative where minus is true
pub record Fraction : Type 0 where
  pub minus : Bool
  pub top : ℕ
  pub bottom : ℕ

-- 360
abbrev pub turn : Float
turn = from_bits binary32 0x43b4_0000

-- x is from -360 to 360, and so no NaN
abbrev pub in_turn : Float → Bool
in_turn x = le (neg turn) x && le x turn

-- pi is piTop / piBottom: 3.14159265358979323846
abbrev pub pi_top : ℕ
pi_top = 314159265358979323846

abbrev pub pi_bottom : ℕ
pi_bottom = 100000000000000000000

-- the size of the difference of two numbers
abbrev pub apart : ℕ → ℕ → ℕ
apart a b = (a - b) + (b - a)

-- 360 degrees more than the angle a / b, negative where s is true, over the same b: no sign is left
abbrev pub lifted : Bool → ℕ → ℕ → ℕ
lifted false a b = 360 * b + a
lifted true a b = 360 * b - a

-- The k for which 90 * k is nearest to y / b, the lower one at a tie.
unfoldable pub turns : ℕ → ℕ → ℕ
turns y b = (y + 45 * b - 1) / (90 * b)

-- So it is: 90 * k - 45 < y / b ≤ 90 * k + 45. Proved in proofs/Reduce.
abbrev pub NearestMultiple : Type 0
NearestMultiple = (y b : ℕ) → 0 < b → (turns y b * (90 * b) < y + 45 * b) × (y ≤ turns y b * (90 * b) + 45 * b)

-- what is left of y / b when 90 * turns is taken off, over b: its size, and whether it is negative
unfoldable pub left : ℕ → ℕ → ℕ
left y b = apart y (turns y b * (90 * b))

unfoldable pub left_minus : ℕ → ℕ → Bool
left_minus y b = nat_lt y (turns y b * (90 * b))

-- The sine or the cosine of an angle n / d in radians, negative where s is true, with the sign turned where back is true.
abbrev pub sine_or_cosine : Bool → Bool → Bool → ℕ → ℕ → Fraction
sine_or_cosine true back s n d = record { minus = unlike s back; top = sine_num n d; bottom = sine_den d }
sine_or_cosine false back s n d = record { minus = back; top = cosine_num n d; bottom = cosine_den d }

-- The sine k quarter turns on from that angle: the sine at an even k, the cosine at an odd one, with the sign turned in the second half of a turn.
unfoldable pub quarter : ℕ → Bool → ℕ → ℕ → Fraction
quarter k s n d = sine_or_cosine (k % 2 == 0) (nat_le 2 (k % 4)) s n d

-- the sine of y / b degrees and k quarter turns; a degree is pi / 180
abbrev pub wave_of : ℕ → ℕ → ℕ → Fraction
wave_of k y b = quarter (turns y b + k) (left_minus y b) (left y b * pi_top) (b * (180 * pi_bottom))

-- the sine of x degrees and k quarter turns, for a finite x from -360 on
unfoldable pub wave_at : ℕ → Float → Fraction
wave_at k nan = record { minus = false; top = 0; bottom = 1 }
wave_at k (inf s) = record { minus = false; top = 0; bottom = 1 }
wave_at k (fin s m e) = wave_of k (lifted s (m * up e) (down e)) (down e)

-- The cosine is the sine a quarter turn on.
abbrev pub sine_at : Float → Fraction
sine_at x = wave_at 0 x

abbrev pub cosine_at : Float → Fraction
cosine_at x = wave_at 1 x

-- |±a - ±b|
abbrev pub gap : Bool → ℕ → Bool → ℕ → ℕ
gap s a t b = cond (beq s t) (apart a b) (a + b)

-- x is finite, and |x - f| ≤ 2 ^ -k, with both denominators multiplied out
unfoldable pub within : ℕ → Float → Fraction → Bool
within k nan f = false
within k (inf s) f = false
within k (fin s m e) f = nat_le (gap s (m * up e * f.bottom) f.minus (f.top * down e) * 2 ^ k) (down e * f.bottom)
