-- 01, "Bias": the estimator's state, and how a reading moves it.
use Rattle.std.specs.Prelude.{ℕ, ◌+◌, Bool, ◌&&◌, cond, ltb, leb}
use Rattle.std.specs.Float.Ieee.Scale.{finite}
use Rattle.vector.specs.declared.Vector.{Vector}
use Rattle.vector.specs.Vectors.{zero_vector, finite_vector, exceeds_of, add_of, sub_of, mul_of}
use Rattle.bias.specs.declared.BiasSettings.{BiasSettings}
use Rattle.bias.specs.declared.Bias.{Bias}
use Rattle.bias.specs.Settings.{coefficient_of, timeout_of, finite_settings}

unfoldable pub finite_bias : Bias → Bool
finite_bias b = finite_settings b.settings && finite b.filter_coefficient && finite_vector b.offset

abbrev pub fresh_of : BiasSettings → Bias
fresh_of s = record { settings = s; filter_coefficient = coefficient_of s; timeout = timeout_of s; timer = 0; offset = zero_vector }

abbrev pub with_timer : Bias → ℕ → Bias
with_timer b n =
    record { settings = b.settings; filter_coefficient = b.filter_coefficient; timeout = b.timeout; timer = n; offset = b.offset }

abbrev pub with_offset : Bias → Vector → Bias
with_offset b v =
    record { settings = b.settings; filter_coefficient = b.filter_coefficient; timeout = b.timeout; timer = b.timer; offset = v }

-- a settings change keeps timer and offset
abbrev pub with_settings : Bias → BiasSettings → Bias
with_settings b s = record { settings = s; filter_coefficient = coefficient_of s; timeout = timeout_of s; timer = b.timer; offset = b.offset }

-- a restart clears both
abbrev pub restarted : Bias → Bias
restarted b = with_offset (with_timer b 0) zero_vector

abbrev pub active_of : Bias → Bool
active_of b = leb b.timeout b.timer

abbrev pub corrected_of : Bias → Vector → Vector
corrected_of b g = sub_of g b.offset

-- some axis larger in size than the threshold: the timer becomes 0; else a timer below the timeout goes up by 1; else the offset grows
unfoldable pub advanced_of : Bias → Vector → Bias
advanced_of b c =
    cond (exceeds_of c b.settings.stationary_threshold) (with_timer b 0)
    (cond (ltb b.timer b.timeout) (with_timer b (b.timer + 1)) (with_offset b (add_of b.offset (mul_of c b.filter_coefficient))))
