-- The Rust's `==` of matrices and of quaternions, which is derived: by the elements. So a NaN equals nothing, and the zeros are equal.
use Rattle.std.specs.Prelude.{◌≡◌}
use Rattle.math.specs.declared.matrix.Matrix.{Matrix}
use Rattle.math.specs.declared.quaternion.Quaternion.{Quaternion}
use Rattle.math.specs.contracts.matrix.MatrixPartialEq.TheImpl as matrix
use Rattle.math.specs.contracts.quaternion.QuaternionPartialEq.TheImpl as quaternion
use Rattle.math.specs.Matrices as matrices
use Rattle.math.specs.Quaternions as quaternions

pub record ByElements : Type 0 where
  pub matrix : (m n : Matrix) → matrix.ghosts.eq m n ≡ matrices.eq_of m n
  pub quaternion : (p q : Quaternion) → quaternion.ghosts.eq p q ≡ quaternions.eq_of p q
