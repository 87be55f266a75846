-- What the calls that read a state read, in the Rust's operation order.
use Rattle.std.specs.Prelude.{ℕ, cond, eqb}
use Rattle.number.specs.Float32.{◌⊕◌, ◌⊖◌, ◌⊗◌, one, two}
use Rattle.vector.specs.declared.Vector.{Vector}
use Rattle.math.specs.declared.quaternion.Quaternion.{Quaternion}
use Rattle.vector.specs.Vectors.{vector, dot_of, sub_of, mul_of}
use Rattle.rejection.specs.Counts.{recovery_of}
use Rattle.ahrs.specs.declared.Ahrs.{Ahrs}
use Rattle.ahrs.specs.declared.read.Flags.{Flags}
use Rattle.ahrs.specs.declared.read.InternalStates.{InternalStates}
use Rattle.ahrs.specs.declared.read.IgnoredCounts.{IgnoredCounts}
use Rattle.step.specs.Sensor.{counts_of, ratio_of}
use Rattle.step.specs.Direction.{half, half_gravity_of}

-- gravity's direction in the sensor's frame
unfoldable pub gravity_of : Ahrs → Vector
gravity_of s = mul_of (half_gravity_of s.settings.convention s.quaternion) two

unfoldable pub linear_of : Ahrs → Vector
linear_of s = sub_of s.accelerometer (gravity_of s)

-- a vector from the sensor's frame to the Earth's: twice its product with each row of half the rotation matrix
unfoldable pub earth_frame_of : Quaternion → Vector → Vector
earth_frame_of q a =
    vector
    (two ⊗ dot_of (vector (q.w ⊗ q.w ⊖ half ⊕ q.x ⊗ q.x) (q.x ⊗ q.y ⊖ q.w ⊗ q.z) (q.x ⊗ q.z ⊕ q.w ⊗ q.y)) a)
    (two ⊗ dot_of (vector (q.x ⊗ q.y ⊕ q.w ⊗ q.z) (q.w ⊗ q.w ⊖ half ⊕ q.y ⊗ q.y) (q.y ⊗ q.z ⊖ q.w ⊗ q.x)) a)
    (two ⊗ dot_of (vector (q.x ⊗ q.z ⊖ q.w ⊗ q.y) (q.y ⊗ q.z ⊕ q.w ⊗ q.x) (q.w ⊗ q.w ⊖ half ⊕ q.z ⊗ q.z)) a)

-- gravity is 1 along z in NWU and ENU, and -1 in NED
unfoldable pub without_gravity : ℕ → Vector → Vector
without_gravity convention v =
    cond (eqb convention 2) (vector v.x v.y (v.z ⊕ one)) (vector v.x v.y (v.z ⊖ one))

unfoldable pub earth_of : Ahrs → Vector
earth_of s = without_gravity s.settings.convention (earth_frame_of s.quaternion s.accelerometer)

unfoldable pub flags_of : Ahrs → Flags
flags_of s =
    record {
      startup = s.startup;
      overrange_recovery = s.overrange_recovery;
      acceleration_recovery = recovery_of (counts_of s.acceleration);
      magnetic_recovery = recovery_of (counts_of s.magnetic);
    }

unfoldable pub states_of : Ahrs → InternalStates
states_of s =
    let timeout = s.config.rejection_timeout in
    record {
      accelerometer_ignored = s.acceleration.ignored;
      acceleration_recovery_trigger = ratio_of s.acceleration.recovery_trigger timeout;
      magnetometer_ignored = s.magnetic.ignored;
      magnetic_recovery_trigger = ratio_of s.magnetic.recovery_trigger timeout;
    }

-- 02 P5: updates in a row, up to now, in which each sensor was ignored
abbrev pub ignored_of : Ahrs → IgnoredCounts
ignored_of s = record { accelerometer = s.acceleration.ignored_count; magnetometer = s.magnetic.ignored_count }
