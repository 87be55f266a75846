-- 02, P10: what a heading makes of an orientation, in the Rust's operation order, with the port's sine, cosine and angle in place and angles kept in degrees.
use Rattle.std.specs.Prelude.{Bool, ◌&&◌, Float}
use Rattle.std.specs.Float.Ieee.{neg}
use Rattle.std.specs.Float.Ieee.Scale.{finite}
use Rattle.number.specs.Float32.{◌⊕◌, ◌⊖◌, ◌⊗◌, zero, half}
use Rattle.trig.specs.Wave.{sin_of, cos_of}
use Rattle.trig.specs.Angle.{angle_of}
use Rattle.vector.specs.declared.Vector.{Vector}
use Rattle.vector.specs.Vectors.{vector}
use Rattle.math.specs.declared.quaternion.Quaternion.{Quaternion}
use Rattle.math.specs.Quaternions.{quaternion, product_of}
use Rattle.heading.specs.declared.point.Point.{Point}

-- ---- a point whose angle is asked for

unfoldable pub finite_point : Point → Bool
finite_point p = finite p.y && finite p.x

abbrev pub angle_at : Point → Float
angle_at p = angle_of p.y p.x

-- yaw and roll are the angles of these
unfoldable pub yaw_of : Quaternion → Point
yaw_of q = record { y = q.w ⊗ q.z ⊕ q.x ⊗ q.y; x = half ⊖ q.y ⊗ q.y ⊖ q.z ⊗ q.z }

unfoldable pub roll_of : Quaternion → Point
roll_of q = record { y = q.w ⊗ q.x ⊕ q.y ⊗ q.z; x = half ⊖ q.y ⊗ q.y ⊖ q.x ⊗ q.x }

-- ---- what a heading makes of it

-- half of what the orientation has to turn by, about the vertical
abbrev pub half_turn_of : Quaternion → Float → Float
half_turn_of q heading = half ⊗ (angle_at (yaw_of q) ⊖ heading)

-- the orientation turned to the heading
unfoldable pub headed_of : Quaternion → Float → Quaternion
headed_of q heading =
    let turn = half_turn_of q heading in
    product_of (quaternion (cos_of turn) zero zero (neg (sin_of turn))) q

-- the magnetometer that would show it
unfoldable pub magnetometer_of : Quaternion → Float → Vector
magnetometer_of q heading =
    let roll = angle_at (roll_of q) in
    vector (cos_of heading) (neg (cos_of roll) ⊗ sin_of heading) (sin_of heading ⊗ sin_of roll)
