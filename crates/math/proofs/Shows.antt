-- A quaternion that is worked out is finite only where what it is worked out of is. Assumes nothing.
use mathlib.Core.Path.{◌≡◌}
use mathlib.Core.Bool.{true, ◌&&◌}
use lib.Ieee.{Float, binary32, neg}
use lib.Ieee.Scale.{finite}
use Rattle.number.specs.Float32.{◌⊖◌, ◌⊗◌, ◌⊘◌, one}
use Rattle.number.proofs.Finite.{add_finite, sub_finite, mul_finite}
use Rattle.answer.proofs.Tests.{both, all_three}
use Rattle.vector.specs.declared.Vector.{Vector}
use Rattle.vector.specs.Vectors.{finite_vector}
use Rattle.vector.proofs.Shows.{whole as whole-vector}
use Rattle.math.specs.declared.quaternion.Quaternion.{Quaternion}
use Rattle.math.specs.Quaternions.{finite_quaternion, vector_product_of, norm_of, add_of, mul_of, normalize_of}

abbrev Finite : Float → Type 0
Finite x = finite x ≡ true

abbrev FiniteQuaternion : Quaternion → Type 0
FiniteQuaternion q = finite_quaternion q ≡ true

abbrev pub Components : Quaternion → Type 0
Components q = Finite q.w × Finite q.x × Finite q.y × Finite q.z

pub components : (q : Quaternion) → FiniteQuaternion q → Components q
unfolding finite_quaternion
components q h =
    let (f, l) = both (finite q.w && finite q.x && finite q.y) (finite q.z) h in
    let (w, x, y) = all_three (finite q.w) (finite q.x) (finite q.y) f in
    (w, x, y, l)

whole : (q : Quaternion) → Components q → FiniteQuaternion q
unfolding finite_quaternion
whole q (w, x, y, z) = rw (w, x, y, z)

pub add_shows : (p q : Quaternion) → FiniteQuaternion (add_of p q) → FiniteQuaternion p × FiniteQuaternion q
add_shows p q h =
    let (a, b, c, d) = components (add_of p q) h in
    let w = add_finite binary32 p.w q.w a in
    let x = add_finite binary32 p.x q.x b in
    let y = add_finite binary32 p.y q.y c in
    let z = add_finite binary32 p.z q.z d in
    (whole p (w.0, x.0, y.0, z.0), whole q (w.1, x.1, y.1, z.1))

pub normalize_shows : (q : Quaternion) → FiniteQuaternion (normalize_of q) → FiniteQuaternion q
unfolding normalize_of
normalize_shows q h =
    let k = one ⊘ norm_of q in
    let (a, b, c, d) = components (mul_of q k) h in
    whole q ((mul_finite binary32 q.w k a).0, (mul_finite binary32 q.x k b).0, (mul_finite binary32 q.y k c).0, (mul_finite binary32 q.z k d).0)

-- the first component alone has all of the vector's
pub product_shows : (q : Quaternion) (v : Vector) → FiniteQuaternion (vector_product_of q v) → finite_vector v ≡ true
product_shows q v h =
    let (a, b, c, d) = components (vector_product_of q v) h in
    let all = sub_finite binary32 (neg q.x ⊗ v.x ⊖ q.y ⊗ v.y) (q.z ⊗ v.z) a in
    let two = sub_finite binary32 (neg q.x ⊗ v.x) (q.y ⊗ v.y) all.0 in
    whole-vector v (mul_finite binary32 (neg q.x) v.x two.0).1 (mul_finite binary32 q.y v.y two.1).1
    (mul_finite binary32 q.z v.z all.1).1
