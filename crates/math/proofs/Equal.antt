-- `==` is by the elements: `ByElements` holds. Assumes nothing.
use mathlib.Core.Bool.{and_assoc}
use Rattle.math.specs.Equal.{ByElements}

pub by_elements : ByElements
by_elements = record { matrix = λ m n. simp and_assoc; quaternion = λ p q. simp and_assoc }
