-- 01, "Bias": what is derived from the settings, and which settings are refused.
use Rattle.std.specs.Prelude.{ℕ, Bool, ◌&&◌, Float}
use Rattle.std.specs.Float.{binary32}
use Rattle.std.specs.Float.Ieee.{lt, of_bits, to_unsigned}
use Rattle.std.specs.Float.Ieee.Scale.{finite}
use Rattle.number.specs.Float32.{◌⊗◌, ◌⊘◌, zero, one, two}
use Rattle.bias.specs.declared.BiasSettings.{BiasSettings}

-- the f32 constant pi
abbrev pub pi : Float
pi = of_bits binary32 0x4049_0fdb

unfoldable pub coefficient_of : BiasSettings → Float
coefficient_of s = two ⊗ pi ⊗ s.cutoff_frequency ⊗ (one ⊘ s.sample_rate)

-- the product may be infinite: it is not kept, and gives the largest
unfoldable pub timeout_of : BiasSettings → ℕ
timeout_of s = to_unsigned 32 (s.stationary_period ⊗ s.sample_rate)

unfoldable pub finite_settings : BiasSettings → Bool
finite_settings s =
    finite s.sample_rate && finite s.stationary_threshold && finite s.stationary_period && finite s.cutoff_frequency

abbrev pub above_zero : BiasSettings → Bool
above_zero s = lt zero s.sample_rate
