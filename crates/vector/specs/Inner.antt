-- A vector read by the digits of a mounting's number, of which only the inner functions speak.
use Rattle.std.specs.Prelude.{ℕ, ◌/◌, ◌%◌, ◌<◌, List, [], ◌∷◌, Float, get_or}
use Rattle.std.specs.Float.{nan}
use Rattle.std.specs.Float.Ieee.{neg}
use Rattle.vector.specs.declared.Vector.{Vector}
use Rattle.vector.specs.Vectors.{vector}

-- what stands at each place; the last one is no digit's
abbrev pub signed_of : Vector → List Float
signed_of v = v.x ∷ v.y ∷ v.z ∷ neg v.x ∷ neg v.y ∷ neg v.z ∷ neg v.z ∷ []

abbrev pub read_by : ℕ → Vector → Vector
read_by n v = vector (get_or (signed_of v) (n / 1024) nan) (get_or (signed_of v) (n / 32 % 32) nan) (get_or (signed_of v) (n % 32) nan)

-- each digit is a place
abbrev pub Within : ℕ → Type 0
Within n = (n / 1024 < 7) × (n / 32 % 32 < 7) × (n % 32 < 7)
