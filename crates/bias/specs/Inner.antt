-- What the inner functions promise each other: what is derived from settings, and what a reading works out before it is answered.
use Rattle.std.specs.Prelude.{◌≡◌, Bool, ◌&&◌}
use Rattle.vector.specs.declared.Vector.{Vector}
use Rattle.vector.specs.Vectors.{finite_vector}
use Rattle.bias.specs.declared.BiasSettings.{BiasSettings}
use Rattle.bias.specs.declared.Bias.{Bias}
use Rattle.bias.specs.declared.Derived.{Derived}
use Rattle.bias.specs.Settings.{coefficient_of, timeout_of}
use Rattle.bias.specs.Estimator.{finite_bias, corrected_of, advanced_of}

pub record Derives (s : BiasSettings) (r : Derived) : Type 0 where
  pub coefficient : r.filter_coefficient ≡ coefficient_of s
  pub timeout : r.timeout ≡ timeout_of s

-- c is the corrected reading, and n the next state
pub record Advances (b : Bias) (g c : Vector) (n : Bias) : Type 0 where
  pub corrected : c ≡ corrected_of b g
  pub next : n ≡ advanced_of b c

-- the state, the corrected reading and the next state
abbrev pub all_finite : Bias → Vector → Bias → Bool
all_finite b c n = finite_bias b && finite_vector c && finite_bias n
