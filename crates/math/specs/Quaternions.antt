-- What each method of a quaternion gives, in the operation order of the Rust's math/quaternion.rs.
use Rattle.std.specs.Prelude.{◌≡◌, refl, Bool, ◌&&◌, List, [], ◌∷◌, get_or, Float}
use Rattle.std.specs.Float.{nan}
use Rattle.std.specs.Float.Ieee.{eq, neg}
use Rattle.std.specs.Float.Ieee.Scale.{finite}
use Rattle.number.specs.Float32.{◌⊕◌, ◌⊖◌, ◌⊗◌, ◌⊘◌, one, two}
use Rattle.root.specs.Root.{sqrt_of}
use Rattle.vector.specs.declared.Vector.{Vector}
use Rattle.math.specs.declared.matrix.Matrix.{Matrix}
use Rattle.math.specs.declared.quaternion.Quaternion.{Quaternion}
use Rattle.math.specs.Matrices.{mul_vector_of}

abbrev pub quaternion : Float → Float → Float → Float → Quaternion
quaternion w x y z = record { w = w; x = x; y = y; z = z }

unfoldable pub finite_quaternion : Quaternion → Bool
finite_quaternion q = finite q.w && finite q.x && finite q.y && finite q.z

abbrev pub eq_of : Quaternion → Quaternion → Bool
eq_of p q = eq p.w q.w && eq p.x q.x && eq p.y q.y && eq p.z q.z

abbrev pub sum_of : Quaternion → Float
sum_of q = q.w ⊕ q.x ⊕ q.y ⊕ q.z

abbrev pub hadamard_of : Quaternion → Quaternion → Quaternion
hadamard_of p q = quaternion (p.w ⊗ q.w) (p.x ⊗ q.x) (p.y ⊗ q.y) (p.z ⊗ q.z)

abbrev pub vector_product_of : Quaternion → Vector → Quaternion
vector_product_of q v =
    quaternion
    (neg q.x ⊗ v.x ⊖ q.y ⊗ v.y ⊖ q.z ⊗ v.z)
    (q.w ⊗ v.x ⊕ q.y ⊗ v.z ⊖ q.z ⊗ v.y)
    (q.w ⊗ v.y ⊖ q.x ⊗ v.z ⊕ q.z ⊗ v.x)
    (q.w ⊗ v.z ⊕ q.x ⊗ v.y ⊖ q.y ⊗ v.x)

abbrev pub conjugate_of : Quaternion → Quaternion
conjugate_of q = quaternion q.w (neg q.x) (neg q.y) (neg q.z)

unfoldable pub norm_squared_of : Quaternion → Float
norm_squared_of q = sum_of (hadamard_of q q)

unfoldable pub norm_of : Quaternion → Float
norm_of q = sqrt_of (norm_squared_of q)

-- which is what both are, said without unfolding
pub is_norm_squared : (q : Quaternion) → norm_squared_of q ≡ sum_of (hadamard_of q q)
unfolding norm_squared_of
is_norm_squared q = refl

pub is_norm : (q : Quaternion) → norm_of q ≡ sqrt_of (norm_squared_of q)
unfolding norm_of
is_norm q = refl

abbrev pub add_of : Quaternion → Quaternion → Quaternion
add_of p q = quaternion (p.w ⊕ q.w) (p.x ⊕ q.x) (p.y ⊕ q.y) (p.z ⊕ q.z)

abbrev pub mul_of : Quaternion → Float → Quaternion
mul_of q k = quaternion (q.w ⊗ k) (q.x ⊗ k) (q.y ⊗ k) (q.z ⊗ k)

-- times the reciprocal of the norm, a norm of zero too
unfoldable pub normalize_of : Quaternion → Quaternion
normalize_of q = mul_of q (one ⊘ norm_of q)

abbrev pub to_matrix_of : Quaternion → Matrix
to_matrix_of q =
    record {
      xx = two ⊗ q.w ⊗ q.w ⊖ one ⊕ two ⊗ q.x ⊗ q.x;
      xy = two ⊗ q.x ⊗ q.y ⊖ two ⊗ q.w ⊗ q.z;
      xz = two ⊗ q.x ⊗ q.z ⊕ two ⊗ q.w ⊗ q.y;
      yx = two ⊗ q.x ⊗ q.y ⊕ two ⊗ q.w ⊗ q.z;
      yy = two ⊗ q.w ⊗ q.w ⊖ one ⊕ two ⊗ q.y ⊗ q.y;
      yz = two ⊗ q.y ⊗ q.z ⊖ two ⊗ q.w ⊗ q.x;
      zx = two ⊗ q.x ⊗ q.z ⊖ two ⊗ q.w ⊗ q.y;
      zy = two ⊗ q.y ⊗ q.z ⊕ two ⊗ q.w ⊗ q.x;
      zz = two ⊗ q.w ⊗ q.w ⊖ one ⊕ two ⊗ q.z ⊗ q.z;
    }

unfoldable pub rotate_of : Quaternion → Vector → Vector
rotate_of q v = mul_vector_of (to_matrix_of q) v

-- Hamilton's product
abbrev pub product_of : Quaternion → Quaternion → Quaternion
product_of a b =
    quaternion
    (a.w ⊗ b.w ⊖ a.x ⊗ b.x ⊖ a.y ⊗ b.y ⊖ a.z ⊗ b.z)
    (a.w ⊗ b.x ⊕ a.x ⊗ b.w ⊕ a.y ⊗ b.z ⊖ a.z ⊗ b.y)
    (a.w ⊗ b.y ⊖ a.x ⊗ b.z ⊕ a.y ⊗ b.w ⊕ a.z ⊗ b.x)
    (a.w ⊗ b.z ⊕ a.x ⊗ b.y ⊖ a.y ⊗ b.x ⊕ a.z ⊗ b.w)

abbrev pub from_array_of : List Float → Quaternion
from_array_of a = quaternion (get_or a 0 nan) (get_or a 1 nan) (get_or a 2 nan) (get_or a 3 nan)

abbrev pub to_array_of : Quaternion → List Float
to_array_of q = q.w ∷ q.x ∷ q.y ∷ q.z ∷ []
