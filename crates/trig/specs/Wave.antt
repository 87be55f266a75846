-- 02, P3: the sine and the cosine of x degrees as the port works them out, and what is proved of them: they lie within 2 ^ -23 of the exact reference.
use Rattle.std.specs.Prelude.{ℕ, ◌+◌, ◌*◌, ◌/◌, ◌%◌, Bool, cond, T, pos, ◌==◌, from_bits, nat_le, Float}
use Rattle.std.specs.Float.{nan, inf, fin, binary32}
use Rattle.std.specs.Float.Ieee.{fits, of_int, up, down, unlike, neg, lt}
use Rattle.std.specs.Float.Ieee.Positive.{num, den}
use Rattle.number.specs.Float32.{◌⊕◌, ◌⊗◌, ◌⊘◌, one}
use Rattle.number.specs.Same.{fabsf_of}
use Rattle.trig.specs.Degrees.{Fraction, in_turn, lifted, turns, left, left_minus, sine_at, cosine_at, within}
use Rattle.trig.specs.Fixed.{sine_fixed_of, cosine_fixed_of, per_degree_of}

-- ---- the angle

-- how many steps of the grid of 2 ^ -26 degrees a degree has
abbrev pub degree : ℕ
degree = 67108864

-- the size of x on the grid, cut toward zero
unfoldable pub steps_of : Float → ℕ
steps_of x = num x * degree / den x

-- x and 360 degrees on the grid
unfoldable pub grid_of : Float → ℕ
grid_of nan = 0
grid_of (inf s) = 0
grid_of (fin s m e) = lifted s (m * up e * degree / down e) degree

-- how many quarter turns are nearest to y steps, the lower number at a tie
abbrev pub quarters_of : ℕ → ℕ
quarters_of y = turns y degree

-- pi / 180 in steps of 2 ^ -37, the nearest
abbrev pub pi_over180 : ℕ
pi_over180 = 2398762259

-- a step of the grid times one of these is 2 ^ -63 radians, and 2 ^ 33 of those are one step in fixed point
abbrev pub two_to33 : ℕ
two_to33 = 8589934592

-- an angle of d steps of the grid in radians, in fixed point
unfoldable pub radians_of : ℕ → ℕ
radians_of d = d * pi_over180 / two_to33

-- what is left of y steps when the nearest multiple of 90 degrees is taken off, in radians
abbrev pub rest_of : ℕ → ℕ
rest_of y = radians_of (left y degree)

-- ---- the series

-- whether q quarter turns end in the second half of a turn
abbrev pub back_of : ℕ → Bool
back_of q = nat_le 2 (q % 4)

-- the sine of y steps and k quarter turns: its size in fixed point, and whether it is negative
unfoldable pub size_of : ℕ → ℕ → ℕ
size_of k y = cond ((quarters_of y + k) % 2 == 0) (sine_fixed_of (rest_of y)) (cosine_fixed_of (rest_of y))

unfoldable pub minus_of : ℕ → ℕ → Bool
minus_of k y =
    let q = quarters_of y + k in
    cond (q % 2 == 0) (unlike (left_minus y degree) (back_of q)) (back_of q)

-- ---- the result

-- 2 ^ 24, 2 ^ 29 and 2 ^ 30
abbrev pub two_to24 : Float
two_to24 = from_bits binary32 0x4b80_0000

abbrev pub two_to29 : Float
two_to29 = from_bits binary32 0x4e00_0000

abbrev pub two_to30 : Float
two_to30 = from_bits binary32 0x4e80_0000

-- a whole number that is exact as a float
abbrev pub whole : ℕ → Float
whole n = of_int binary32 (pos n)

-- size / 2 ^ 30 with a sign: size / 64 steps of 2 ^ -24 and size % 64 of 2 ^ -30 are exact, and their sum is rounded
unfoldable pub float_of : Bool → ℕ → Float
float_of minus size =
    let r = whole (size / 64) ⊘ two_to24 ⊕ whole (size % 64) ⊘ two_to30 in
    cond minus (neg r) r

-- the sine of x degrees and k quarter turns, by the series and rounded
abbrev pub rounded_of : ℕ → Float → Float
rounded_of k x = float_of (minus_of k (grid_of x)) (size_of k (grid_of x))

-- what the sine of x has of x
unfoldable pub slope_of : Float → Float
slope_of x = whole (per_degree_of (rest_of (grid_of x))) ⊘ two_to29

-- from -360 to 360; of any other angle NaN. Below a degree it is x times its slope, so that the smallest angles keep all their digits
unfoldable pub sin_of : Float → Float
sin_of x = cond (in_turn x) (cond (lt (fabsf_of x) one) (x ⊗ slope_of x) (rounded_of 0 x)) nan

unfoldable pub cos_of : Float → Float
cos_of x = cond (in_turn x) (rounded_of 1 x) nan

-- ---- the theorem, proved in proofs/Waves

-- of every f32 in the range, f gives what is within 2 ^ -23 of the exact reference
abbrev pub Near : (Float → Float) → (Float → Fraction) → Type 0
Near f exact = (x : Float) → T (fits binary32 x) → T (in_turn x) → T (within 23 (f x) (exact x))

pub record Waves : Type 0 where
  pub sine : Near sin_of sine_at
  pub cosine : Near cos_of cosine_at
