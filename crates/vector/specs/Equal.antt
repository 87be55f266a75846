-- The Rust's `==`, which is derived: by the components. So a NaN equals nothing, and the zeros are equal.
use Rattle.std.specs.Prelude.{◌≡◌}
use Rattle.vector.specs.declared.Vector.{Vector}
use Rattle.vector.specs.contracts.VectorPartialEq.TheImpl as derived
use Rattle.vector.specs.Vectors.{eq_of}

abbrev pub ByComponents : Type 0
ByComponents = (v w : Vector) → derived.ghosts.eq v w ≡ eq_of v w
