-- Examples by evaluation: what the reference takes, which multiple of 90 it takes off, and what the port gives. Assumes nothing.
use Rattle.std.proofs.Common.{◌≡◌, ℕ, Bool, not, ◌&&◌, T, eqb, refl}
use lib.Ieee.{Float, binary32, of_bits, to_bits, le, lt, eq, neg, add, sum, mul, div, round, units, odd, of_int}
use Rattle.number.specs.Same.{fabsf_of}
use Rattle.number.proofs.Apart.{bits}
use Rattle.trig.specs.Series.{sine_num, sine_den, cosine_num, cosine_den}
use Rattle.trig.specs.Degrees.{Fraction, turns, left, left_minus, quarter, wave_at, sine_at, cosine_at, within}
use Rattle.trig.specs.Fixed.{scaled_of, stage_of, sine_fixed_of, cosine_fixed_of, per_degree_of}
use Rattle.trig.specs.Wave.{steps_of, grid_of, radians_of, size_of, minus_of, float_of, slope_of, sin_of, cos_of}
use Rattle.trig.specs.Limit.{rejection_threshold_of}
use Rattle.trig.specs.Octant.{sine_step, cosine_step, guess_of, halved_of, span_of, nearer_of, octant_of}
use Rattle.trig.specs.Angle.{is_angle, ratio_of, degrees_of, bearing_of, angle_of}

-- ---- the reference

-- the float with the bits r is near the exact value at the float with the bits x
abbrev takes : (Float → Fraction) → ℕ → ℕ → Bool
takes exact x r = within 23 (of_bits binary32 r) (exact (of_bits binary32 x))

-- at 30, 45, -45, 90, 360 and -0.0
sines
    : T
    (takes sine_at 0x41f0_0000 0x3f00_0000 && takes sine_at 0x4234_0000 0x3f35_04f3 && takes sine_at 0xc234_0000 0xbf35_04f3
    && takes sine_at 0x42b4_0000 0x3f80_0000 && takes sine_at 0x43b4_0000 0 && takes sine_at 0x8000_0000 0)
unfolding within wave_at turns left left_minus quarter sine_num sine_den cosine_num cosine_den of_bits
sines = tt

-- at 60, -45, 180 and 270
cosines
    : T
    (takes cosine_at 0x4270_0000 0x3f00_0000 && takes cosine_at 0xc234_0000 0x3f35_04f3 && takes cosine_at 0x4334_0000 0xbf80_0000
    && takes cosine_at 0x4387_0000 0)
unfolding within wave_at turns left left_minus quarter sine_num sine_den cosine_num cosine_den of_bits
cosines = tt

-- 360 degrees more than the ties 45, 135 and -45, and than 45 and a half
ties : (turns 405 1 ≡ 4) × (turns 495 1 ≡ 5) × (turns 315 1 ≡ 3) × (turns 811 2 ≡ 5)
unfolding turns
ties = (refl, refl, refl, refl)

-- ---- the port

abbrev gives : (Float → Float) → ℕ → ℕ → Bool
gives f x r = eqb (bits (f (of_bits binary32 x))) r

-- of 30, 45, 135, 90, 180, 360 and -360; below a degree of a half, of the smallest f32 and of -0.0; and of 361
port_sines
    : T
    (gives sin_of 0x41f0_0000 0x3f00_0000 && gives sin_of 0x4234_0000 0x3f35_04f3 && gives sin_of 0x4307_0000 0x3f35_04f3
    && gives sin_of 0x42b4_0000 0x3f80_0000 && gives sin_of 0x4334_0000 0x8000_0000 && gives sin_of 0x43b4_0000 0 && gives sin_of 0xc3b4_0000 0
    && gives sin_of 0x3f00_0000 0x3c0e_f9be && gives sin_of 1 0 && gives sin_of 0x8000_0000 0x8000_0000 && gives sin_of 0x43b4_8000 0x7fc0_0000)
unfolding sin_of slope_of float_of size_of minus_of grid_of radians_of sine_fixed_of cosine_fixed_of per_degree_of scaled_of stage_of turns left left_minus
    fabsf_of le lt eq neg add sum mul div round units odd of_int of_bits to_bits
port_sines = tt

-- of 0, 60, 45, 90, 180 and -360
port_cosines
    : T
    (gives cos_of 0 0x3f80_0000 && gives cos_of 0x4270_0000 0x3f00_0000 && gives cos_of 0x4234_0000 0x3f35_04f3 && gives cos_of 0x42b4_0000 0x8000_0000
    && gives cos_of 0x4334_0000 0xbf80_0000 && gives cos_of 0xc3b4_0000 0x3f80_0000)
unfolding cos_of float_of size_of minus_of grid_of radians_of sine_fixed_of cosine_fixed_of scaled_of stage_of turns left left_minus
    le lt eq neg add sum div round units odd of_int of_bits to_bits
port_cosines = tt

-- of 0 and -0.0 no limit; of 10, 30 and 90
limits
    : T
    (gives rejection_threshold_of 0 0x7f7f_ffff && gives rejection_threshold_of 0x8000_0000 0x7f7f_ffff && gives rejection_threshold_of 0x4120_0000 0x3bf7_04df
    && gives rejection_threshold_of 0x41f0_0000 0x3d80_0000 && gives rejection_threshold_of 0x42b4_0000 0x3e80_0000)
unfolding rejection_threshold_of sin_of slope_of float_of size_of minus_of grid_of radians_of sine_fixed_of cosine_fixed_of per_degree_of scaled_of
    stage_of turns left
    left_minus fabsf_of le lt eq neg add sum mul div round units odd of_int of_bits to_bits
limits = tt

-- ---- the angle

-- the float with the bits r meets 02's conditions for those with the bits y and x
abbrev meets : ℕ → ℕ → ℕ → Bool
meets y x r = is_angle (of_bits binary32 y) (of_bits binary32 x) (of_bits binary32 r)

-- 45 for (1, 1), -135 for (-1, -1), 90 for (1, 0), -90 for (-1, 0), and 180 for (0, -1) and for (-0, -1)
angles
    : T
    (meets 0x3f80_0000 0x3f80_0000 0x4234_0000 && meets 0xbf80_0000 0xbf80_0000 0xc307_0000 && meets 0x3f80_0000 0 0x42b4_0000
    && meets 0xbf80_0000 0 0xc2b4_0000 && meets 0 0xbf80_0000 0x4334_0000 && meets 0x8000_0000 0xbf80_0000 0x4334_0000)
unfolding is_angle wave_at turns left left_minus quarter sine_num sine_den cosine_num cosine_den lt le eq neg of_bits
angles = tt

-- but not -180 for either; for (1, 1) neither 45.0001, nor -135, nor 0; and nothing for (0, 0), which has its own sentence
no_angles
    : T
    (not (meets 0 0xbf80_0000 0xc334_0000) && not (meets 0x8000_0000 0xbf80_0000 0xc334_0000) && not (meets 0x3f80_0000 0x3f80_0000 0x4234_001a)
    && not (meets 0x3f80_0000 0x3f80_0000 0xc307_0000) && not (meets 0x3f80_0000 0x3f80_0000 0) && not (meets 0 0 0))
unfolding is_angle wave_at turns left left_minus quarter sine_num sine_den cosine_num cosine_den lt le eq neg of_bits
no_angles = tt

abbrev points : ℕ → ℕ → ℕ → Bool
points y x r = eqb (bits (angle_of (of_bits binary32 y) (of_bits binary32 x))) r

-- of the zeros of each sign plus zero; of (0, -1) and (-0, -1) 180; of (1, 0), (-1, 0), (1, 1), (-1, -1) and (1, 2)
port_angles
    : T
    (points 0 0 0 && points 0x8000_0000 0 0 && points 0 0x8000_0000 0 && points 0x8000_0000 0x8000_0000 0 && points 0 0xbf80_0000 0x4334_0000
    && points 0x8000_0000 0xbf80_0000 0x4334_0000 && points 0x3f80_0000 0 0x42b4_0000 && points 0xbf80_0000 0 0xc2b4_0000
    && points 0x3f80_0000 0x3f80_0000 0x4234_0000 && points 0xbf80_0000 0xbf80_0000 0xc307_0000 && points 0x3f80_0000 0x4000_0000 0x41d4_8538)
unfolding angle_of bearing_of degrees_of ratio_of octant_of guess_of sine_step cosine_step steps_of radians_of sine_fixed_of cosine_fixed_of
    scaled_of stage_of fabsf_of
    le lt eq neg div round units odd of_int of_bits to_bits
port_angles = tt

-- of the smallest floats, of the largest, of one of each, where no step is left of the quotient, and of an infinity and a NaN
port_ends
    : T
    (points 1 1 0x4234_0000 && points 1 2 0x41d4_8538 && points 0x8000_0001 0x8000_0002 0xc319_6f59 && points 0x7f7f_ffff 0x7f7f_ffff 0x4234_0000
    && points 1 0xff7f_ffff 0x4334_0000 && points 0x8000_0001 0xff7f_ffff 0x4334_0000 && points 0x7f7f_ffff 1 0x42b4_0000
    && points 0x7f80_0000 0x3f80_0000 0x7fc0_0000 && points 0x3f80_0000 0x7fc0_0000 0x7fc0_0000)
unfolding angle_of bearing_of degrees_of ratio_of octant_of guess_of sine_step cosine_step steps_of radians_of sine_fixed_of cosine_fixed_of
    scaled_of stage_of fabsf_of
    le lt eq neg div round units odd of_int of_bits to_bits
port_ends = tt

-- the bisection at the tangents 0, a half and 1
bisections : T (eqb (nearer_of 0 (span_of 0 22)) 0 && eqb (nearer_of 8388608 (span_of 8388608 22)) 1740967
    && eqb (nearer_of 16777216 (span_of 16777216 22)) 2949120)
unfolding nearer_of span_of halved_of sine_step cosine_step radians_of sine_fixed_of cosine_fixed_of scaled_of stage_of
bisections = tt
