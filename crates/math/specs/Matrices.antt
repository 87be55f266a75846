-- What each method of a matrix gives, in the operation order of the Rust's math/matrix.rs.
use Rattle.std.specs.Prelude.{Bool, ◌&&◌, List, [], ◌∷◌, ℕ, get_or, Float}
use Rattle.std.specs.Float.{nan}
use Rattle.std.specs.Float.Ieee.{eq}
use Rattle.number.specs.Float32.{◌⊕◌, ◌⊗◌, zero, one}
use Rattle.vector.specs.declared.Vector.{Vector}
use Rattle.math.specs.declared.matrix.Matrix.{Matrix}
use Rattle.vector.specs.Vectors.{vector}

abbrev pub identity_matrix : Matrix
identity_matrix =
    record {
      xx = one;
      xy = zero;
      xz = zero;
      yx = zero;
      yy = one;
      yz = zero;
      zx = zero;
      zy = zero;
      zz = one;
    }

abbrev pub eq_of : Matrix → Matrix → Bool
eq_of m n =
    ((eq m.xx n.xx && eq m.xy n.xy && eq m.xz n.xz)
    && (eq m.yx n.yx && eq m.yy n.yy && eq m.yz n.yz))
    && (eq m.zx n.zx && eq m.zy n.zy && eq m.zz n.zz)

abbrev pub at : List (List Float) → ℕ → ℕ → Float
at rows i j = get_or (get_or rows i []) j nan

abbrev pub from_rows_of : List (List Float) → Matrix
from_rows_of rows =
    record {
      xx = at rows 0 0;
      xy = at rows 0 1;
      xz = at rows 0 2;
      yx = at rows 1 0;
      yy = at rows 1 1;
      yz = at rows 1 2;
      zx = at rows 2 0;
      zy = at rows 2 1;
      zz = at rows 2 2;
    }

abbrev pub to_rows_of : Matrix → List (List Float)
to_rows_of m =
    (m.xx ∷ m.xy ∷ m.xz ∷ []) ∷ (m.yx ∷ m.yy ∷ m.yz ∷ []) ∷ (m.zx ∷ m.zy ∷ m.zz ∷ []) ∷ []

abbrev pub transpose_of : Matrix → Matrix
transpose_of m =
    record {
      xx = m.xx;
      xy = m.yx;
      xz = m.zx;
      yx = m.xy;
      yy = m.yy;
      yz = m.zy;
      zx = m.xz;
      zy = m.yz;
      zz = m.zz;
    }

abbrev pub mul_of : Matrix → Float → Matrix
mul_of m s =
    record {
      xx = m.xx ⊗ s;
      xy = m.xy ⊗ s;
      xz = m.xz ⊗ s;
      yx = m.yx ⊗ s;
      yy = m.yy ⊗ s;
      yz = m.yz ⊗ s;
      zx = m.zx ⊗ s;
      zy = m.zy ⊗ s;
      zz = m.zz ⊗ s;
    }

abbrev pub mul_vector_of : Matrix → Vector → Vector
mul_vector_of m v =
    vector
    (m.xx ⊗ v.x ⊕ m.xy ⊗ v.y ⊕ m.xz ⊗ v.z)
    (m.yx ⊗ v.x ⊕ m.yy ⊗ v.y ⊕ m.yz ⊗ v.z)
    (m.zx ⊗ v.x ⊕ m.zy ⊗ v.y ⊕ m.zz ⊗ v.z)
