-- A mounting as one number, which turning and spelling read: its digits in base 32 are the places of what it reads for x, y and z.
use Rattle.std.specs.Prelude.{ℕ, ◌+◌, ◌*◌, cond, List, [], ◌∷◌, ltb, Option, Some, None}
use Rattle.vector.specs.Mounting.{Signed, Px, Py, Pz, Nx, Ny, Nz, Mounting, mounting_of}

abbrev pub place_of : Signed → ℕ
place_of Px = 0
place_of Py = 1
place_of Pz = 2
place_of Nx = 3
place_of Ny = 4
place_of Nz = 5

-- the signed axes by their places
abbrev pub signed_axes : List Signed
signed_axes = Px ∷ Py ∷ Pz ∷ Nx ∷ Ny ∷ Nz ∷ []

abbrev pub places : Mounting → ℕ
places m = place_of m.x * 1024 + place_of m.y * 32 + place_of m.z

-- of a mounting's number
abbrev pub places_of : ℕ → ℕ
places_of n = places (mounting_of n)

-- nothing of a number that is no mounting's
abbrev pub axes_of : ℕ → Option ℕ
axes_of n = cond (ltb 23 n) None (Some (places_of n))
