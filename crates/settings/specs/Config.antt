-- 01, "Filter" and "Modules": what is derived from the settings, and which settings are refused.
use Rattle.std.specs.Prelude.{Bool, not, cond, ◌&&◌, List, [], ◌∷◌, leb, Float}
use Rattle.std.specs.Float.{binary32}
use Rattle.std.specs.Float.Ieee.{of_bits, lt, ne, to_signed}
use Rattle.std.specs.Float.Ieee.Scale.{finite}
use Rattle.number.specs.Float32.{◌⊖◌, ◌⊗◌, ◌⊘◌, zero, one, largest}
use Rattle.answer.specs.Refusals.{Check, check, Exactly}
use Rattle.settings.specs.declared.Settings.{Settings}
use Rattle.settings.specs.declared.config.Config.{Config}
use Rattle.settings.specs.declared.limit.Limit.{Limit}
use Rattle.settings.specs.Limit.{finite_limit, sound_limit, squared_of}

-- the startup gain begins at 10
abbrev pub initial_gain : Float
initial_gain = of_bits binary32 0x4120_0000

-- and would fall to the gain in 3 seconds
abbrev pub startup_period : Float
startup_period = of_bits binary32 0x4040_0000

-- 0.98
abbrev pub overrange_factor : Float
overrange_factor = of_bits binary32 0x3f7a_e148

-- the convention is at most 2
abbrev pub known_convention : Settings → Bool
known_convention s = leb s.convention 2

unfoldable pub finite_settings : Settings → Bool
finite_settings s =
    finite s.sample_rate && finite s.gain && finite s.gyroscope_range && finite_limit s.acceleration_rejection
    && finite_limit s.magnetic_rejection && finite s.rejection_timeout

-- the rate is above 0, no squared limit or timeout is below 0, and an angle is from 0 to 90
abbrev pub sound_settings : Settings → Bool
sound_settings s =
    lt zero s.sample_rate && sound_limit s.acceleration_rejection && sound_limit s.magnetic_rejection
    && not (lt s.rejection_timeout zero)

-- with gain 0.0 or timeout 0.0 both limits in use are the largest finite f32
unfoldable pub limit_of : Settings → Limit → Float
limit_of s limit = cond (ne s.gain zero && ne s.rejection_timeout zero) (squared_of limit) largest

-- the product of rate and timeout may be infinite: it is not kept
unfoldable pub derived_of : Settings → Config
derived_of s =
    let period = one ⊘ s.sample_rate in
    record {
      sample_period = period;
      gain = s.gain;
      startup_gain_rate = ((initial_gain ⊖ s.gain) ⊘ startup_period) ⊗ period;
      overrange_enabled = lt zero s.gyroscope_range;
      overrange_threshold = overrange_factor ⊗ s.gyroscope_range;
      acceleration_rejection = limit_of s s.acceleration_rejection;
      magnetic_rejection = limit_of s s.magnetic_rejection;
      rejection_timeout = to_signed 31 (s.sample_rate ⊗ s.rejection_timeout);
    }

unfoldable pub finite_config : Config → Bool
finite_config c =
    finite c.sample_period && finite c.gain && finite c.startup_gain_rate && finite c.overrange_threshold
    && finite c.acceleration_rejection && finite c.magnetic_rejection

-- by the refusal table; 7 looks at what is derived
abbrev pub settings_checks : Settings → List Check
settings_checks s =
    check 4 (not (known_convention s)) ∷ check 5 (not (finite_settings s)) ∷ check 6 (not (sound_settings s)) ∷
    check 7 (not (finite_config (derived_of s))) ∷ []

-- each number is given exactly when its row says
abbrev pub ExactlyWhen : Type 0
ExactlyWhen = (s : Settings) → Exactly (settings_checks s)
