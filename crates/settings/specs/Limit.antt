-- 02 P3: the limit of a sensor, squared or as an angle in degrees, and the squared limit that it stands for.
use Rattle.std.specs.Prelude.{Bool, not, ◌&&◌, Float}
use Rattle.std.specs.Float.{binary32}
use Rattle.std.specs.Float.Ieee.{of_bits, lt, le}
use Rattle.std.specs.Float.Ieee.Scale.{finite}
use Rattle.number.specs.Float32.{zero}
use Rattle.trig.specs.Limit.{rejection_threshold_of}
use Rattle.settings.specs.declared.limit.Limit.{Limit}
use Rattle.settings.specs.declared.limit.Limit.TheVariants.{Squared, Degrees}

-- 90 degrees
abbrev pub right_angle : Float
right_angle = of_bits binary32 0x42b4_0000

-- the number that was given
abbrev pub given_of : Limit → Float
given_of (Squared x) = x
given_of (Degrees x) = x

abbrev pub finite_limit : Limit → Bool
finite_limit l = finite (given_of l)

-- a squared limit is not below 0, an angle is from 0 to 90
abbrev pub sound_limit : Limit → Bool
sound_limit (Squared x) = not (lt x zero)
sound_limit (Degrees x) = le zero x && le x right_angle

-- the squared limit: an angle's is the Rust's of its sine, the largest finite f32 for the angle 0
abbrev pub squared_of : Limit → Float
squared_of (Squared x) = x
squared_of (Degrees x) = rejection_threshold_of x
