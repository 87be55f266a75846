-- `==` is by the components: `ByComponents` holds. Assumes nothing.
use mathlib.Core.Path.{sym}
use mathlib.Core.Bool.{and_assoc}
use lib.Ieee.{eq}
use Rattle.vector.specs.Equal.{ByComponents}

pub by_components : ByComponents
by_components v w = sym (and_assoc (eq v.x w.x) (eq v.y w.y) (eq v.z w.z))
