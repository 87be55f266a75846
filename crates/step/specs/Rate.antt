-- 01, "Filter": the gain in use, the rate of turning, and the turn, in the Rust's operation order.
use Rattle.std.specs.Prelude.{Bool, true, false, cond, Float}
use Rattle.std.specs.Float.{binary32}
use Rattle.std.specs.Float.Ieee.{of_bits, lt}
use Rattle.number.specs.Float32.{◌⊖◌, ◌⊗◌}
use Rattle.vector.specs.declared.Vector.{Vector}
use Rattle.math.specs.declared.quaternion.Quaternion.{Quaternion}
use Rattle.vector.specs.Vectors.{add_of, mul_of}
use Rattle.math.specs.Quaternions as quaternion
use Rattle.math.specs.Quaternions.{vector_product_of}
use Rattle.settings.specs.declared.config.Config.{Config}
use Rattle.settings.specs.declared.axes.Axes.{Axes}
use Rattle.settings.specs.Axes.{none}
use Rattle.step.specs.declared.rate.Startup.{Startup}
use Rattle.step.specs.Direction.{half}

-- pi / 180 as the Rust has it
abbrev pub deg_to_rad : Float
deg_to_rad = of_bits binary32 0x3c8e_fa35

abbrev pub startup : Bool → Float → Axes → Float → Startup
startup on startupGain recovery gain =
    record { startup = on; startup_gain = startupGain; overrange_recovery = recovery; gain = gain }

-- it falls before use; startup ends when it is no longer above the gain, and with it what went over is forgotten
unfoldable pub startup_gain_of : Config → Bool → Float → Axes → Startup
startup_gain_of c on startupGain recovery =
    let fallen = startupGain ⊖ c.startup_gain_rate in
    cond on
    (cond (lt c.gain fallen) (startup true fallen recovery fallen) (startup false fallen none c.gain))
    (startup false startupGain recovery c.gain)

-- the gyroscope in half radians, and the feedback times the gain
unfoldable pub rate_of : Vector → Vector → Float → Vector
rate_of gyroscope feedback gain = add_of (mul_of gyroscope (deg_to_rad ⊗ half)) (mul_of feedback gain)

-- turned, and not yet normalized
abbrev pub turned_by : Quaternion → Vector → Quaternion
turned_by q displacement = quaternion.add_of q (vector_product_of q displacement)

unfoldable pub integrated_of : Quaternion → Vector → Quaternion
integrated_of q displacement = quaternion.normalize_of (turned_by q displacement)
