-- Vectors that `is_right` does not take for right, each by evaluation. Assumes nothing.
use Rattle.std.proofs.Common.{◌≡◌, ℕ, ◌/◌, ◌%◌, true, List, [], ◌∷◌, ◌++◌, true≢false}
use lib.Ieee.{of_bits, le, lt, eq, neg, add, sum, mul, div, round, units, odd, of_int}
use Rattle.number.specs.Same.{fabsf_of}
use Rattle.answer.specs.Refusals.{refusal_of}
use Rattle.trig.specs.Degrees.{turns, left, left_minus}
use Rattle.trig.specs.Fixed.{scaled_of, stage_of, sine_fixed_of, cosine_fixed_of, per_degree_of}
use Rattle.trig.specs.Wave.{grid_of, radians_of, size_of, minus_of, float_of, slope_of, sin_of, cos_of}
use Rattle.trig.specs.Limit.{rejection_threshold_of}
use Rattle.trig.specs.Octant.{sine_step, cosine_step, guess_of, octant_of}
use Rattle.trig.specs.Angle.{ratio_of, degrees_of, bearing_of, angle_of}
use Rattle.degrees.specs.Vectors.{kind_of, kind_right, right_of}

abbrev word : ℕ → List ℕ
word n = n % 256 ∷ n / 256 % 256 ∷ n / 65536 % 256 ∷ n / 16777216 ∷ []

abbrev point : ℕ → ℕ → ℕ → ℕ → ℕ → ℕ → List ℕ
point kind y x number least greatest = word kind ++ word y ++ word x ++ word number ++ word least ++ word greatest

abbrev vector : ℕ → ℕ → ℕ → ℕ → ℕ → List ℕ
vector kind x number least greatest = point kind x 0 number least greatest

abbrev NotRight : List ℕ → Type 0
NotRight v = true ≡ right_of v → ⊥

-- of 30, whose sine is a half: from above a half on, up to below a half, refused with 6, its cosine's kind, and no kind
pub of_is_right
    : NotRight (vector 0 0x41f0_0000 0 0x3f00_0001 0x3f80_0000)
    × NotRight (vector 0 0x41f0_0000 0 0 0x3eff_ffff)
    × NotRight (vector 0 0x41f0_0000 6 0 0)
    × NotRight (vector 1 0x41f0_0000 0 0x3eff_ffff 0x3f00_0001)
    × NotRight (vector 4 0x41f0_0000 0 0x3eff_ffff 0x3f00_0001)
unfolding kind_of kind_right refusal_of sin_of cos_of slope_of float_of size_of minus_of grid_of radians_of sine_fixed_of cosine_fixed_of
    per_degree_of scaled_of stage_of turns left left_minus fabsf_of le lt eq neg add sum mul div round units odd of_int of_bits
of_is_right = (true≢false, true≢false, true≢false, true≢false, true≢false)

-- 361 answered, and refused with 5; and of the angle 0 a limit of 0
pub of_ends
    : NotRight (vector 0 0x43b4_8000 0 0 0x3f80_0000)
    × NotRight (vector 1 0x43b4_8000 5 0 0)
    × NotRight (vector 2 0 0 0 0x3f80_0000)
unfolding kind_of kind_right refusal_of sin_of cos_of rejection_threshold_of slope_of float_of size_of minus_of grid_of radians_of sine_fixed_of
    cosine_fixed_of per_degree_of scaled_of stage_of turns left left_minus fabsf_of le lt eq neg add sum mul div round units odd of_int of_bits
of_ends = (true≢false, true≢false, true≢false)

-- of (0, -1), whose angle is 180: from -180 to -180, round by 180 but beside it, refused, and another kind; and of (1, 0), whose angle is 90: that of (0, 1)
pub of_points
    : NotRight (point 3 0 0xbf80_0000 0 0xc334_0000 0xc334_0000)
    × NotRight (point 3 0 0xbf80_0000 0 0xc333_ffff 0x4333_ffff)
    × NotRight (point 3 0 0xbf80_0000 5 0x4333_ffff 0xc333_ffff)
    × NotRight (point 2 0 0xbf80_0000 0 0x4333_ffff 0xc333_ffff)
    × NotRight (point 3 0x3f80_0000 0 0 0 0)
unfolding kind_of kind_right refusal_of rejection_threshold_of angle_of bearing_of degrees_of octant_of guess_of ratio_of sine_step cosine_step
    radians_of sine_fixed_of cosine_fixed_of scaled_of stage_of fabsf_of le lt eq neg add sum mul div round units odd of_int of_bits
of_points = (true≢false, true≢false, true≢false, true≢false, true≢false)

-- a y that is infinite, answered and refused with 6
pub of_infinity
    : NotRight (point 3 0x7f80_0000 0 0 0xc334_0000 0x4334_0000)
    × NotRight (point 3 0x7f80_0000 0 6 0 0)
unfolding kind_of kind_right refusal_of le lt eq neg of_bits
of_infinity = (true≢false, true≢false)
