-- What each method of a vector gives, in the operation order of the Rust's math/vector.rs.
use Rattle.std.specs.Prelude.{◌≡◌, refl, Bool, cond, ◌&&◌, ◌||◌, List, [], ◌∷◌, get_or, T, Float}
use Rattle.std.specs.Float.{binary32, nan}
use Rattle.std.specs.Float.Ieee.{eq, lt, neg, fits}
use Rattle.std.specs.Float.Ieee.Scale.{finite}
use Rattle.number.specs.Float32.{◌⊕◌, ◌⊖◌, ◌⊗◌, ◌⊘◌, zero, one}
use Rattle.number.specs.Same.{fabsf_of}
use Rattle.root.specs.Root.{sqrt_of}
use Rattle.vector.specs.declared.Vector.{Vector}

abbrev pub vector : Float → Float → Float → Vector
vector x y z = record { x = x; y = y; z = z }

abbrev pub zero_vector : Vector
zero_vector = vector zero zero zero

abbrev pub ones_vector : Vector
ones_vector = vector one one one

-- a vector of f32 numbers, as every `Vector` of the code is
pub record Singles (v : Vector) : Type 0 where
  pub x : T (fits binary32 v.x)
  pub y : T (fits binary32 v.y)
  pub z : T (fits binary32 v.z)

unfoldable pub finite_vector : Vector → Bool
finite_vector v = finite v.x && finite v.y && finite v.z

abbrev pub eq_of : Vector → Vector → Bool
eq_of v w = eq v.x w.x && eq v.y w.y && eq v.z w.z

-- either sign of zero
abbrev pub is_zero_of : Vector → Bool
is_zero_of v = eq v.x zero && eq v.y zero && eq v.z zero

-- x is larger in size than the limit
abbrev pub larger : Float → Float → Bool
larger limit x = lt limit (fabsf_of x)

unfoldable pub exceeds_of : Vector → Float → Bool
exceeds_of v limit = larger limit v.x || larger limit v.y || larger limit v.z

abbrev pub sum_of : Vector → Float
sum_of v = v.x ⊕ v.y ⊕ v.z

abbrev pub hadamard_of : Vector → Vector → Vector
hadamard_of v w = vector (v.x ⊗ w.x) (v.y ⊗ w.y) (v.z ⊗ w.z)

unfoldable pub dot_of : Vector → Vector → Float
dot_of v w = sum_of (hadamard_of v w)

abbrev pub cross_of : Vector → Vector → Vector
cross_of v w = vector (v.y ⊗ w.z ⊖ v.z ⊗ w.y) (v.z ⊗ w.x ⊖ v.x ⊗ w.z) (v.x ⊗ w.y ⊖ v.y ⊗ w.x)

unfoldable pub norm_squared_of : Vector → Float
norm_squared_of v = sum_of (hadamard_of v v)

unfoldable pub norm_of : Vector → Float
norm_of v = sqrt_of (norm_squared_of v)

-- which is what both are, said without unfolding
pub is_norm_squared : (v : Vector) → norm_squared_of v ≡ sum_of (hadamard_of v v)
unfolding norm_squared_of
is_norm_squared v = refl

pub is_norm : (v : Vector) → norm_of v ≡ sqrt_of (norm_squared_of v)
unfolding norm_of
is_norm v = refl

abbrev pub add_of : Vector → Vector → Vector
add_of v w = vector (v.x ⊕ w.x) (v.y ⊕ w.y) (v.z ⊕ w.z)

abbrev pub sub_of : Vector → Vector → Vector
sub_of v w = vector (v.x ⊖ w.x) (v.y ⊖ w.y) (v.z ⊖ w.z)

abbrev pub neg_of : Vector → Vector
neg_of v = vector (neg v.x) (neg v.y) (neg v.z)

abbrev pub mul_of : Vector → Float → Vector
mul_of v k = vector (v.x ⊗ k) (v.y ⊗ k) (v.z ⊗ k)

-- the zero vector for a norm of zero; else times the reciprocal of the norm
unfoldable pub normalize_of : Vector → Vector
normalize_of v = cond (eq (norm_of v) zero) zero_vector (mul_of v (one ⊘ norm_of v))

abbrev pub from_array_of : List Float → Vector
from_array_of a = vector (get_or a 0 nan) (get_or a 1 nan) (get_or a 2 nan)

abbrev pub to_array_of : Vector → List Float
to_array_of v = v.x ∷ v.y ∷ v.z ∷ []
