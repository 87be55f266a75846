-- 01, "Filter": directions in the sensor's frame, half as long, by the convention: 0 NWU, 1 ENU, 2 NED.
use Rattle.std.specs.Prelude.{ℕ, cond, eqb, Float}
use Rattle.std.specs.Float.{binary32}
use Rattle.std.specs.Float.Ieee.{of_bits, neg}
use Rattle.number.specs.Float32.{◌⊕◌, ◌⊖◌, ◌⊗◌}
use Rattle.vector.specs.declared.Vector.{Vector}
use Rattle.math.specs.declared.quaternion.Quaternion.{Quaternion}
use Rattle.vector.specs.Vectors.{vector}

abbrev pub half : Float
half = of_bits binary32 0x3f00_0000

unfoldable pub half_gravity_of : ℕ → Quaternion → Vector
half_gravity_of convention q =
    cond (eqb convention 2)
    (vector (q.w ⊗ q.y ⊖ q.x ⊗ q.z) (neg (q.y ⊗ q.z ⊕ q.w ⊗ q.x)) (half ⊖ q.w ⊗ q.w ⊖ q.z ⊗ q.z))
    (vector (q.x ⊗ q.z ⊖ q.w ⊗ q.y) (q.y ⊗ q.z ⊕ q.w ⊗ q.x) (q.w ⊗ q.w ⊖ half ⊕ q.z ⊗ q.z))

unfoldable pub half_west_of : ℕ → Quaternion → Vector
half_west_of convention q =
    cond (eqb convention 0)
    (vector (q.x ⊗ q.y ⊕ q.w ⊗ q.z) (q.w ⊗ q.w ⊖ half ⊕ q.y ⊗ q.y) (q.y ⊗ q.z ⊖ q.w ⊗ q.x))
    (cond (eqb convention 1)
    (vector (half ⊖ q.w ⊗ q.w ⊖ q.x ⊗ q.x) (q.w ⊗ q.z ⊖ q.x ⊗ q.y) (neg (q.x ⊗ q.z ⊕ q.w ⊗ q.y)))
    (vector (neg (q.x ⊗ q.y ⊕ q.w ⊗ q.z)) (half ⊖ q.w ⊗ q.w ⊖ q.y ⊗ q.y) (q.w ⊗ q.x ⊖ q.y ⊗ q.z)))
