-- Wrong answers that the promises refuse, each by evaluation. Assumes nothing.
use Rattle.std.proofs.Common.{◌≡◌, ℕ, ◌+◌, true, false, T, refl, true≢false}
use mathlib.Core.Bool.{false≢true}
use lib.Ieee.{Float, nan, binary32, of_bits, to_bits, le, lt, eq, neg, add, sum, mul, div, round, units, odd, of_int}
use lib.Ieee.Positive.{num}
use lib.Ieee.Scale.{finite}
use Rattle.answer.specs.Refusals.{refusal_of}
use Rattle.number.specs.Float32.{◌⊗◌, largest, infinity}
use Rattle.number.specs.Same.{fabsf_of}
use Rattle.number.proofs.Apart.{apart, bits, unlike, nought, minus_nought, one, minus_one, half, two}
use Rattle.std.specs.declared.result.Result.{Result}
use Rattle.std.specs.declared.result.Result.TheVariants.{Ok, Err}
use Rattle.answer.specs.declared.refusal.Refusal.{Refusal}
use Rattle.answer.specs.declared.refusal.Refusal.TheVariants.{NotFinite, OutOfRange, Overflow}
use Rattle.answer.specs.Rows.{row_of}
use Rattle.trig.specs.Series.{sine_num, sine_den, cosine_num, cosine_den}
use Rattle.trig.specs.Degrees.{in_turn, turns, left, left_minus, quarter, wave_at, sine_at, cosine_at, within}
use Rattle.trig.specs.Fixed.{scaled_of, stage_of, sine_fixed_of, cosine_fixed_of, per_degree_of}
use Rattle.trig.specs.Wave.{steps_of, grid_of, radians_of, size_of, minus_of, float_of, slope_of, sin_of, cos_of}
use Rattle.trig.specs.Limit.{rejection_threshold_of}
use Rattle.trig.specs.Octant.{sine_step, cosine_step, guess_of, octant_of}
use Rattle.trig.specs.Angle.{straight, is_angle, Angled, nowhere, toward, ratio_of, degrees_of, bearing_of, angle_of}
use Rattle.trig.specs.Calls.{Gives, AnswersNear, GivesAngle, AnswersAngled}

abbrev thirty : Float
thirty = of_bits binary32 0x41f0_0000

abbrev sixty : Float
sixty = of_bits binary32 0x4270_0000

abbrev ninety : Float
ninety = of_bits binary32 0x42b4_0000

-- 361 and 400
abbrev beyond : Float
beyond = of_bits binary32 0x43b4_8000

abbrev far : Float
far = of_bits binary32 0x43c8_0000

-- 0.5001
abbrev over_half : Float
over_half = of_bits binary32 0x3f00_0690

-- the tie of 45 degrees to the upper multiple, 360 degrees more
pub of_turns : (turns 405 1 ≡ 5 → ⊥) × (turns 495 1 ≡ 6 → ⊥)
unfolding turns
of_turns = (λ h. unlike _ _ refl h, λ h. unlike _ _ refl h)

-- ---- the range

-- 30 and 360 out of it; 361, -361 and NaN in it
pub of_in_turn
    : (false ≡ in_turn thirty → ⊥)
    × (false ≡ in_turn (of_bits binary32 0x43b4_0000) → ⊥)
    × (true ≡ in_turn beyond → ⊥)
    × (true ≡ in_turn (neg beyond) → ⊥)
    × (true ≡ in_turn nan → ⊥)
unfolding le lt eq neg of_bits
of_in_turn = (false≢true, false≢true, true≢false, true≢false, true≢false)

-- ---- the sine and the cosine

abbrev Sine : Float → Float → Type 0
Sine x r = (r ≡ sin_of x) × (T (in_turn x) → T (within 23 r (sine_at x)))

abbrev Cosine : Float → Float → Type 0
Cosine x r = (r ≡ cos_of x) × (T (in_turn x) → T (within 23 r (cosine_at x)))

-- by the bound alone, of 30: 0, 0.5001, -0.5, the cosine of it, NaN; a constant half of 90; of 210 the sine of 30; and of half a degree
-- the angle times 9370365 / 2 ^ 29, a slope that is 200 too large
pub of_sin
    : (Sine thirty nought → ⊥)
    × (Sine thirty over_half → ⊥)
    × (Sine thirty (neg half) → ⊥)
    × (Sine thirty (of_bits binary32 0x3f5d_b3d7) → ⊥)
    × (Sine thirty nan → ⊥)
    × (Sine ninety half → ⊥)
    × (Sine (of_bits binary32 0x4352_0000) half → ⊥)
    × (Sine half (of_bits binary32 0x3c0e_fafd) → ⊥)
unfolding within wave_at turns left left_minus quarter sine_num sine_den cosine_num cosine_den of_bits neg le lt eq
of_sin = (λ h. h.1 tt, λ h. h.1 tt, λ h. h.1 tt, λ h. h.1 tt, λ h. h.1 tt, λ h. h.1 tt, λ h. h.1 tt, λ h. h.1 tt)

-- of 60: 0, 0.5001, -0.5, its sine, NaN; a constant half of 0; and of 240 the cosine of 60
pub of_cos
    : (Cosine sixty nought → ⊥)
    × (Cosine sixty over_half → ⊥)
    × (Cosine sixty (neg half) → ⊥)
    × (Cosine sixty (of_bits binary32 0x3f5d_b3d7) → ⊥)
    × (Cosine sixty nan → ⊥)
    × (Cosine nought half → ⊥)
    × (Cosine (of_bits binary32 0x4370_0000) half → ⊥)
unfolding within wave_at turns left left_minus quarter sine_num sine_den cosine_num cosine_den of_bits neg le lt eq
of_cos = (λ h. h.1 tt, λ h. h.1 tt, λ h. h.1 tt, λ h. h.1 tt, λ h. h.1 tt, λ h. h.1 tt, λ h. h.1 tt)

-- 361 taken for 1; of 30 the f32 beside a half, which the bound would take
pub of_both
    : (Sine beyond (of_bits binary32 0x3c8e_f859) → ⊥)
    × (Cosine beyond (of_bits binary32 0x3f7f_f605) → ⊥)
    × (Sine thirty (of_bits binary32 0x3f00_0001) → ⊥)
unfolding sin_of cos_of slope_of float_of size_of minus_of grid_of radians_of sine_fixed_of cosine_fixed_of per_degree_of scaled_of stage_of turns
    left left_minus
    fabsf_of le lt eq neg add sum mul div round units odd of_int of_bits to_bits
of_both = (λ h. apart bits h.0 refl, λ h. apart bits h.0 refl, λ h. apart bits h.0 refl)

-- ---- the calls

-- a number's code; a refusal's is beyond every pattern
abbrev code : Result Float Refusal → ℕ
code (Ok v) = bits v
code (Err e) = 0x1_0000_0000 + row_of e

abbrev Says : (Float → Float) → Float → Result Float Refusal → Type 0
Says f x r = Gives x (f x) r

-- of either: 30 refused; 400 refused with 5, with 7, and taken; NaN refused with 6, and taken
pub of_either
    : (f : Float → Float)
    → (Says f thirty (Err OutOfRange) → ⊥)
    × (Says f far (Err NotFinite) → ⊥)
    × (Says f far (Err Overflow) → ⊥)
    × (Says f far (Ok half) → ⊥)
    × (Says f nan (Err OutOfRange) → ⊥)
    × (Says f nan (Ok nan) → ⊥)
unfolding refusal_of le lt eq neg of_bits
of_either f = (
  λ h. unlike 6 0 refl h.number,
  λ h. unlike 5 6 refl h.number,
  λ h. unlike 7 6 refl h.number,
  λ h. unlike 0 6 refl h.number,
  λ h. unlike 6 5 refl h.number,
  λ h. unlike 0 5 refl h.number,
)

-- answers of 0 and of 0.5001 for a half
pub of_sin_degrees : (Says sin_of thirty (Ok nought) → ⊥) × (AnswersNear (sine_at thirty) (Ok over_half) → ⊥)
unfolding sin_of slope_of float_of size_of minus_of grid_of radians_of sine_fixed_of cosine_fixed_of per_degree_of scaled_of stage_of turns left left_minus
    fabsf_of le lt eq neg add sum mul div round units odd of_int of_bits to_bits refusal_of within wave_at quarter sine_num sine_den cosine_num cosine_den
of_sin_degrees = (λ h. apart code h.exact refl, λ h. h)

pub of_cos_degrees : (Says cos_of sixty (Ok nought) → ⊥) × (AnswersNear (cosine_at sixty) (Ok over_half) → ⊥)
unfolding cos_of float_of size_of minus_of grid_of radians_of sine_fixed_of cosine_fixed_of scaled_of stage_of turns left left_minus
    le lt eq neg add sum div round units odd of_int of_bits to_bits refusal_of within wave_at quarter sine_num sine_den cosine_num cosine_den
of_cos_degrees = (λ h. apart code h.exact refl, λ h. h)

-- ---- the limit

-- of the angles 0 and -0.0 a limit of 0; of 30 no limit; of 90, whose limit is a quarter, the squared sine, and half the sine; of 400 the limit of 90
pub of_rejection_threshold
    : (nought ≡ rejection_threshold_of nought → ⊥)
    × (nought ≡ rejection_threshold_of (neg nought) → ⊥)
    × (largest ≡ rejection_threshold_of thirty → ⊥)
    × (one ≡ rejection_threshold_of ninety → ⊥)
    × (half ≡ rejection_threshold_of ninety → ⊥)
    × (half ⊗ half ≡ rejection_threshold_of far → ⊥)
unfolding rejection_threshold_of sin_of slope_of float_of size_of minus_of grid_of radians_of sine_fixed_of cosine_fixed_of per_degree_of scaled_of
    stage_of turns left
    left_minus fabsf_of le lt eq neg add sum mul div round units odd of_int of_bits to_bits
of_rejection_threshold = (
  λ h. apart bits h refl,
  λ h. apart bits h refl,
  λ h. apart bits h refl,
  λ h. apart bits h refl,
  λ h. apart bits h refl,
  λ h. apart bits h refl,
)

-- ---- the angle

abbrev Angle : Float → Float → Float → Type 0
Angle y x r = (r ≡ angle_of y x) × (T (finite y) → T (finite x) → Angled y x r)

-- no plus zero, as x is not zero, and not what 02 asks
refuted : {y x r : Float} → (num x ≡ 0 → ⊥) → (T (is_angle y x r) → ⊥) → Angled y x r → ⊥
refuted f g (nowhere a b e) = f b
refuted f g (toward t) = g t

-- of (1, 2) what (2, 1) has, and the opposite
abbrev mirrored : Float
mirrored = of_bits binary32 0x427d_bd64

abbrev opposite : Float
opposite = of_bits binary32 0xc319_6f59

-- by the bound alone: of (1, 2) those two, a constant 0, a constant 90 and NaN; of (0, -1) and (-0, -1) -180; of (1, 1) 45.0001
pub of_angle
    : (Angle one two mirrored → ⊥)
    × (Angle one two opposite → ⊥)
    × (Angle one two nought → ⊥)
    × (Angle one two ninety → ⊥)
    × (Angle one two nan → ⊥)
    × (Angle nought minus_one (neg straight) → ⊥)
    × (Angle minus_nought minus_one (neg straight) → ⊥)
    × (Angle one one (of_bits binary32 0x4234_001a) → ⊥)
unfolding is_angle wave_at turns left left_minus quarter sine_num sine_den cosine_num cosine_den of_bits neg le lt eq
of_angle = (
  λ h. refuted (unlike _ _ refl) (λ t. t) (h.1 tt tt),
  λ h. refuted (unlike _ _ refl) (λ t. t) (h.1 tt tt),
  λ h. refuted (unlike _ _ refl) (λ t. t) (h.1 tt tt),
  λ h. refuted (unlike _ _ refl) (λ t. t) (h.1 tt tt),
  λ h. refuted (unlike _ _ refl) (λ t. t) (h.1 tt tt),
  λ h. refuted (unlike _ _ refl) (λ t. t) (h.1 tt tt),
  λ h. refuted (unlike _ _ refl) (λ t. t) (h.1 tt tt),
  λ h. refuted (unlike _ _ refl) (λ t. t) (h.1 tt tt),
)

-- of (0, 0) a minus zero, 90 and NaN; of (1, 1) the f32 beside 45, which the bound would take; of an infinity and of a NaN 0
pub of_angle_exactly
    : (Angle nought nought minus_nought → ⊥)
    × (Angle nought nought ninety → ⊥)
    × (Angle nought nought nan → ⊥)
    × (Angle one one (of_bits binary32 0x4234_0001) → ⊥)
    × (Angle infinity one nought → ⊥)
    × (Angle nan one nought → ⊥)
unfolding angle_of bearing_of degrees_of ratio_of octant_of guess_of sine_step cosine_step steps_of radians_of sine_fixed_of cosine_fixed_of
    scaled_of stage_of fabsf_of
    le lt eq neg div round units odd of_int of_bits to_bits
of_angle_exactly = (
  λ h. apart bits h.0 refl,
  λ h. apart bits h.0 refl,
  λ h. apart bits h.0 refl,
  λ h. apart bits h.0 refl,
  λ h. apart bits h.0 refl,
  λ h. apart bits h.0 refl,
)

-- (0, 0) refused; a NaN and an infinity taken; a NaN refused with 6; and of (1, 2) a constant 0
pub of_angle_degrees
    : (GivesAngle nought nought (Err NotFinite) → ⊥)
    × (GivesAngle one nan (Ok nan) → ⊥)
    × (GivesAngle infinity one (Ok ninety) → ⊥)
    × (GivesAngle nan one (Err OutOfRange) → ⊥)
    × (GivesAngle one two (Ok nought) → ⊥)
unfolding angle_of bearing_of degrees_of ratio_of octant_of guess_of sine_step cosine_step steps_of radians_of sine_fixed_of cosine_fixed_of
    scaled_of stage_of fabsf_of
    le lt eq neg div round units odd of_int of_bits to_bits refusal_of
of_angle_degrees = (
  λ h. unlike 5 0 refl h.number,
  λ h. unlike 0 5 refl h.number,
  λ h. unlike 0 5 refl h.number,
  λ h. unlike 6 5 refl h.number,
  λ h. apart code h.exact refl,
)

-- what is answered for (1, 2) mirrored, and for (0, -1) -180
pub of_answered_angle : (AnswersAngled one two (Ok mirrored) → ⊥) × (AnswersAngled nought minus_one (Ok (neg straight)) → ⊥)
unfolding is_angle wave_at turns left left_minus quarter sine_num sine_den cosine_num cosine_den of_bits neg le lt eq
of_answered_angle = (λ h. refuted (unlike _ _ refl) (λ t. t) h, λ h. refuted (unlike _ _ refl) (λ t. t) h)
