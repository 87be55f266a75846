-- 02 P2: the axes on which the gyroscope is over its range, any of seven sets or none.
use Rattle.std.specs.Prelude.{◌≡◌, Bool, false, ◌&&◌, ◌||◌, Float}
use Rattle.std.specs.Float.Ieee.{lt}
use Rattle.number.specs.Float32.{◌⊗◌, zero}
use Rattle.vector.specs.declared.Vector.{Vector}
use Rattle.vector.specs.Vectors.{larger, exceeds_of}
use Rattle.settings.specs.declared.Settings.{Settings}
use Rattle.settings.specs.declared.config.Config.{Config}
use Rattle.settings.specs.declared.axes.Axes.{Axes}
use Rattle.settings.specs.Config.{overrange_factor, derived_of}

abbrev pub axes : Bool → Bool → Bool → Axes
axes x y z = record { x = x; y = y; z = z }

abbrev pub none : Axes
none = axes false false false

-- the yes or no of a set: it is not none
abbrev pub any_of : Axes → Bool
any_of a = a.x || a.y || a.z

-- an axis is over where overrange is on and its rate is larger in size than the threshold
abbrev pub is_over : Config → Float → Bool
is_over c rate = c.overrange_enabled && larger c.overrange_threshold rate

unfoldable pub over_of : Config → Vector → Axes
over_of c g = axes (is_over c g.x) (is_over c g.y) (is_over c g.z)

pub record Over : Type 0 where
  -- by the settings: the range is above 0, and the rate is larger in size than 0.98 × range
  pub by_range
      : (s : Settings) (rate : Float)
      → is_over (derived_of s) rate ≡ (lt zero s.gyroscope_range && larger (overrange_factor ⊗ s.gyroscope_range) rate)
  -- not none: overrange is on and some axis is larger, which is the Rust's yes or no
  pub not_none : (c : Config) (g : Vector) → any_of (over_of c g) ≡ (c.overrange_enabled && exceeds_of g c.overrange_threshold)
