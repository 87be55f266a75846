-- The 24 mountings, by number in the order of `RemapAlignment::ALL`: each is a signed permutation of the axes.
use Rattle.std.specs.Prelude.{List, [], ◌∷◌, ℕ, get_or}
use Rattle.std.specs.Float.Ieee.{neg}
use Rattle.vector.specs.declared.Vector.{Vector}
use Rattle.vector.specs.Vectors.{vector}

-- where a body axis comes from: +X, +Y, +Z, -X, -Y or -Z of the sensor
pub data Signed : Type 0 where
  Px Py Pz Nx Ny Nz : Signed

pub record Mounting : Type 0 where
  pub x : Signed
  pub y : Signed
  pub z : Signed

abbrev pub mounting : Signed → Signed → Signed → Mounting
mounting a b c = record { x = a; y = b; z = c }

-- what a signed axis reads off x, y and z, where `flip` changes a sign
abbrev pub read : {A : Type 0} → (A → A) → A → A → A → Signed → A
read flip x y z Px = x
read flip x y z Py = y
read flip x y z Pz = z
read flip x y z Nx = flip x
read flip x y z Ny = flip y
read flip x y z Nz = flip z

-- a vector turned by a mounting
abbrev pub turn : Mounting → Vector → Vector
turn m v =
    vector
    (read neg v.x v.y v.z m.x)
    (read neg v.x v.y v.z m.y)
    (read neg v.x v.y v.z m.z)

abbrev pub mountings : List Mounting
mountings =
    mounting Px Py Pz ∷
    mounting Px Nz Py ∷
    mounting Px Ny Nz ∷
    mounting Px Pz Ny ∷
    mounting Nx Py Nz ∷
    mounting Nx Pz Py ∷
    mounting Nx Ny Pz ∷
    mounting Nx Nz Ny ∷
    mounting Py Nx Pz ∷
    mounting Py Nz Nx ∷
    mounting Py Px Nz ∷
    mounting Py Pz Px ∷
    mounting Ny Px Pz ∷
    mounting Ny Nz Px ∷
    mounting Ny Nx Nz ∷
    mounting Ny Pz Nx ∷
    mounting Pz Py Nx ∷
    mounting Pz Px Py ∷
    mounting Pz Ny Px ∷
    mounting Pz Nx Ny ∷
    mounting Nz Py Px ∷
    mounting Nz Nx Py ∷
    mounting Nz Ny Nx ∷
    mounting Nz Px Ny ∷
    []

unfoldable pub mounting_of : ℕ → Mounting
mounting_of n = get_or mountings n (mounting Px Py Pz)

-- a vector turned by the mounting with this number
abbrev pub turn_of : ℕ → Vector → Vector
turn_of n v = turn (mounting_of n) v
