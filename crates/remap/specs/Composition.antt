-- 01, "Mountings": "A then B" means that A is applied and B to its result; and the mounting that undoes another.
use Rattle.std.specs.Prelude.{ℕ, ◌<◌, ◌≡◌, ◌||◌, List, [], ◌∷◌, ltb, eqb}
use Rattle.answer.specs.Refusals.{Check, check}
use Rattle.vector.specs.declared.Vector.{Vector}
use Rattle.vector.specs.Mounting.{Signed, Px, Py, Pz, Nx, Ny, Nz, Mounting, mounting, mounting_of, read, turn_of}
use Rattle.remap.specs.First.{first_mounting}
use Rattle.remap.specs.Names.{spell, named_by}

abbrev pub opposite : Signed → Signed
opposite Px = Nx
opposite Py = Ny
opposite Pz = Nz
opposite Nx = Px
opposite Ny = Py
opposite Nz = Pz

-- a applied, and b to its result: each axis of b is read off those of a
abbrev pub afterwards : Mounting → Mounting → Mounting
afterwards a b =
    mounting
    (read opposite a.x a.y a.z b.x)
    (read opposite a.x a.y a.z b.y)
    (read opposite a.x a.y a.z b.z)

-- the number of "first then second": it has that mounting's name
unfoldable pub compose_of : ℕ → ℕ → ℕ
compose_of first second = named_by (spell (afterwards (mounting_of first) (mounting_of second)))

-- the number of the mounting that, coming second, leaves everything in place
unfoldable pub inverse_of : ℕ → ℕ
inverse_of n = first_mounting (λ m. eqb (compose_of n m) 0)

abbrev pub compose_checks : ℕ → ℕ → List Check
compose_checks first second = check 4 (ltb 23 first || ltb 23 second) ∷ []

abbrev pub inverse_checks : ℕ → List Check
inverse_checks n = check 4 (ltb 23 n) ∷ []

-- ---- the statements

-- two mountings, one after the other, act on every vector as the single one: as data, so bit for bit, minus zero included
abbrev pub Composes : Type 0
Composes = (a b : ℕ) (v : Vector) → a < 24 → b < 24 → (compose_of a b < 24) × (turn_of b (turn_of a v) ≡ turn_of (compose_of a b) v)

-- each mounting is undone by its inverse, which may come after it or before it
abbrev pub Undone : Type 0
Undone = (n : ℕ) (v : Vector) → n < 24 → (inverse_of n < 24) × (turn_of (inverse_of n) (turn_of n v) ≡ v) × (turn_of n (turn_of (inverse_of n) v) ≡ v)
