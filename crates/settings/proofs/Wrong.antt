-- Wrong values that the promises refuse, two at least for each function, each by evaluation. Assumes nothing.
use Prim.Native.Nat.{ℕ, ◌+◌}
use native.Mathlib.Omega.{arith}
use mathlib.Core.Path.{◌≡◌, refl, ap}
use mathlib.Core.Bool.{Bool, true, false, cond, true≢false, false≢true}
use lib.IntN.{ℤ, pos, negsuc}
use lib.Signed.{mag}
use lib.Ieee.{Float, nan, inf, fin, binary32, of_bits, to_bits, to_signed, eq, lt, le, ne, add, sub, mul, div, neg, sum, round, units, odd}
use Rattle.number.specs.Float32.{largest}
use Rattle.number.specs.Same.{fabsf_of}
use Rattle.number.proofs.Apart.{apart, bits, nought, minus_nought, one, minus_one, two}
use Rattle.answer.specs.Refusals.{refusal_of}
use Rattle.trig.specs.Limit.{rejection_threshold_of}
use Rattle.vector.specs.Vectors.{vector}
use Rattle.settings.specs.declared.Settings.{Settings}
use Rattle.settings.specs.declared.limit.Limit.{Limit}
use Rattle.settings.specs.declared.limit.Limit.TheVariants.{Squared, Degrees}
use Rattle.settings.specs.declared.config.Config.{Config}
use Rattle.settings.specs.declared.axes.Axes.{Axes}
use Rattle.settings.specs.Limit.{right_angle, given_of, finite_limit, sound_limit, squared_of}
use Rattle.settings.specs.Config.{overrange_factor, known_convention, finite_settings, sound_settings, limit_of, derived_of, finite_config}
use Rattle.settings.specs.Config.{settings_checks}
use Rattle.settings.specs.Axes.{axes, none, any_of, over_of}

-- a convention, a rate, a gain, two limits and a timeout, with a range of one
abbrev given : ℕ → Float → Float → Limit → Limit → Float → Settings
given n rate gain acceleration magnetic timeout =
    record {
      sample_rate = rate;
      convention = n;
      gain = gain;
      gyroscope_range = one;
      acceleration_rejection = acceleration;
      magnetic_rejection = magnetic;
      rejection_timeout = timeout;
    }

-- a convention, a rate, a gain and a timeout, the rest ones
abbrev with : ℕ → Float → Float → Float → Settings
with n rate gain timeout = given n rate gain (Squared one) (Squared one) timeout

-- two limits, the rest ones
abbrev limited : Limit → Limit → Settings
limited acceleration magnetic = given 0 one one acceleration magnetic one

-- the f32 next above 90
abbrev beyond : Float
beyond = of_bits binary32 0x42b4_0001

-- ---- limits

-- nothing for an angle; another number for a squared limit
pub of_given : (nought ≡ given_of (Degrees one) → ⊥) × (one ≡ given_of (Squared two) → ⊥)
unfolding to_bits
of_given = (λ h. apart bits h refl, λ h. apart bits h refl)

-- an infinite angle taken; a squared limit that is finite refused
pub of_limit_is_finite : (true ≡ finite_limit (Degrees (inf false)) → ⊥) × (false ≡ finite_limit (Squared one) → ⊥)
of_limit_is_finite = (true≢false, false≢true)

-- the angle next above 90 taken, and one of minus one; 90 itself refused, and a zero of either sign; a squared limit below 0 taken, and 90 and more refused
pub of_limit_is_sound
    : (true ≡ sound_limit (Degrees beyond) → ⊥)
    × (true ≡ sound_limit (Degrees minus_one) → ⊥)
    × (false ≡ sound_limit (Degrees right_angle) → ⊥)
    × (false ≡ sound_limit (Degrees minus_nought) → ⊥)
    × (true ≡ sound_limit (Squared minus_one) → ⊥)
    × (false ≡ sound_limit (Squared beyond) → ⊥)
unfolding lt le eq of_bits
of_limit_is_sound = (true≢false, true≢false, false≢true, false≢true, true≢false, false≢true)

-- an angle of 0, of either sign, for which nothing passes; a squared limit of 0 by which nothing is rejected
pub of_squared
    : (nought ≡ squared_of (Degrees nought) → ⊥) × (nought ≡ squared_of (Degrees minus_nought) → ⊥) × (largest ≡ squared_of (Squared nought) → ⊥)
unfolding rejection_threshold_of eq of_bits to_bits
of_squared = (λ h. apart bits h refl, λ h. apart bits h refl, λ h. apart bits h refl)

-- ---- settings

-- 3 known; 2 not
pub of_is_known : (true ≡ known_convention (with 3 one one one) → ⊥) × (false ≡ known_convention (with 2 one one one) → ⊥)
of_is_known = (true≢false, false≢true)

-- an infinite timeout taken, and an angle that is a NaN; finite settings refused
pub of_settings_is_finite
    : (true ≡ finite_settings (with 0 one one (inf false)) → ⊥)
    × (true ≡ finite_settings (limited (Squared one) (Degrees nan)) → ⊥)
    × (false ≡ finite_settings (with 0 one one one) → ⊥)
unfolding finite_settings
of_settings_is_finite = (true≢false, true≢false, false≢true)

-- a rate of 0 sound, and an angle beyond 90 for either sensor; a timeout of -0.0 below 0
pub of_is_sound
    : (true ≡ sound_settings (with 0 nought one one) → ⊥)
    × (true ≡ sound_settings (limited (Degrees beyond) (Squared one)) → ⊥)
    × (true ≡ sound_settings (limited (Squared one) (Degrees beyond)) → ⊥)
    × (false ≡ sound_settings (with 0 one one minus_nought) → ⊥)
unfolding lt le eq of_bits
of_is_sound = (true≢false, true≢false, true≢false, false≢true)

-- a limit kept though the gain is -0.0; the largest though gain and timeout are not zero
pub of_limit
    : (one ≡ limit_of (with 0 one minus_nought one) (Squared one) → ⊥) × (largest ≡ limit_of (with 0 one one one) (Squared one) → ⊥)
unfolding limit_of eq ne of_bits to_bits
of_limit = (λ h. apart bits h refl, λ h. apart bits h refl)

-- the rate of the startup gain's fall, whether overrange is on and above which size, and T; the rest ones
abbrev config : Float → Bool → Float → ℤ → Config
config fall on threshold timeout =
    record {
      sample_period = one;
      gain = one;
      startup_gain_rate = fall;
      overrange_enabled = on;
      overrange_threshold = threshold;
      acceleration_rejection = one;
      magnetic_rejection = one;
      rejection_timeout = timeout;
    }

-- a fall of nine in one second and not in three; a T of 1.5 rounded up; the two limits swapped; and an angle of 0 that lets nothing pass
pub of_derived
    : (config (fin false 9 (pos 0)) true overrange_factor (pos 1) ≡ derived_of (with 0 one one one) → ⊥)
    × (config (fin false 3 (pos 0)) true overrange_factor (pos 2) ≡ derived_of (with 0 one one (fin false 3 (negsuc 0))) → ⊥)
    × (derived_of (limited (Squared one) (Squared two)) ≡ derived_of (limited (Squared two) (Squared one)) → ⊥)
    × (derived_of (limited (Squared nought) (Squared one)) ≡ derived_of (limited (Degrees nought) (Squared one)) → ⊥)
unfolding derived_of limit_of rejection_threshold_of eq ne to_signed sub add mul div neg sum round units odd of_bits to_bits
of_derived = (
  λ h. apart (λ (c : Config). bits c.startup_gain_rate) h refl,
  λ h. let z : ◌≡◌ {A = ℕ} 2 1 = ap (λ (c : Config). mag c.rejection_timeout) h in omega arith,
  λ h. apart (λ (c : Config). bits c.acceleration_rejection) h refl,
  λ h. apart (λ (c : Config). bits c.acceleration_rejection) h refl,
)

-- 5 of a convention of 3; 4 of a rate of 0; a rate of -0.0 accepted; an angle beyond 90 accepted, and refused with 5, one that is infinite with 6
pub of_refusal
    : (5 ≡ refusal_of (settings_checks (with 3 nan one one)) → ⊥)
    × (4 ≡ refusal_of (settings_checks (with 2 nought one one)) → ⊥)
    × (0 ≡ refusal_of (settings_checks (with 0 minus_nought one one)) → ⊥)
    × (0 ≡ refusal_of (settings_checks (limited (Degrees beyond) (Squared one))) → ⊥)
    × (5 ≡ refusal_of (settings_checks (limited (Squared one) (Degrees beyond))) → ⊥)
    × (6 ≡ refusal_of (settings_checks (limited (Squared one) (Degrees (inf false)))) → ⊥)
unfolding refusal_of finite_settings lt le eq of_bits
of_refusal = (λ h. omega arith, λ h. omega arith, λ h. omega arith, λ h. omega arith, λ h. omega arith, λ h. omega arith)

abbrev ready : Config
ready = config one true one (pos 3)

abbrev minus_two : Float
minus_two = fin true 1 (pos 1)

-- a NaN taken; a finite one refused
pub of_config_is_finite : (true ≡ finite_config (config nan true one (pos 3)) → ⊥) × (false ≡ finite_config ready → ⊥)
unfolding finite_config
of_config_is_finite = (true≢false, false≢true)

-- ---- axes

-- none for some; one for none
pub of_any : (true ≡ any_of none → ⊥) × (false ≡ any_of (axes false false true) → ⊥)
of_any = (true≢false, false≢true)

-- a set as a number: 1 for x, 2 for y, 4 for z, added up
abbrev number : Axes → ℕ
number a = cond a.x 1 0 + cond a.y 2 0 + cond a.z 4 0

-- two axes swapped; one left out, a reading below 0; all named for one; one at exactly the product; one where overrange is off
pub of_overrange
    : (axes true false false ≡ over_of ready (vector nought two nought) → ⊥)
    × (axes true false false ≡ over_of ready (vector two nought minus_two) → ⊥)
    × (axes true true true ≡ over_of ready (vector nought nought two) → ⊥)
    × (axes false true true ≡ over_of ready (vector nought one two) → ⊥)
    × (axes false false true ≡ over_of (config one false one (pos 3)) (vector nought nought two) → ⊥)
unfolding over_of fabsf_of lt
of_overrange =
    (λ h. apart number h refl, λ h. apart number h refl, λ h. apart number h refl, λ h. apart number h refl, λ h. apart number h refl)
