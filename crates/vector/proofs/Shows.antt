-- A vector that is worked out is finite only where all that it is worked out of is: so a test of the result is one of the operands too. Assumes nothing.
use mathlib.Core.Path.{◌≡◌, refl}
use mathlib.Core.Bool.{Bool, true, false, cond, false≢true}
use lib.Ieee.{Float, nan, inf, fin, binary32, eq, of_bits}
use lib.Ieee.Scale.{finite}
use Rattle.number.specs.Float32 as float
use Rattle.number.specs.Float32.{◌⊕◌, ◌⊗◌, ◌⊘◌}
use Rattle.number.proofs.Finite.{add_finite, sub_finite, mul_finite}
use Rattle.answer.proofs.Tests.{all_three}
use Rattle.root.specs.Root.{sqrt_of}
use Rattle.vector.specs.declared.Vector.{Vector}
use Rattle.vector.specs.Vectors.{zero_vector, finite_vector, is_zero_of, cross_of, norm_squared_of, norm_of, normalize_of, add_of, sub_of, mul_of}

abbrev Finite : Float → Type 0
Finite x = finite x ≡ true

abbrev FiniteVector : Vector → Type 0
FiniteVector v = finite_vector v ≡ true

-- ---- a vector by its components

abbrev Components : Vector → Type 0
Components v = Finite v.x × Finite v.y × Finite v.z

components : (v : Vector) → FiniteVector v → Components v
unfolding finite_vector
components v h = all_three (finite v.x) (finite v.y) (finite v.z) h

pub whole : (v : Vector) → Finite v.x → Finite v.y → Finite v.z → FiniteVector v
unfolding finite_vector
whole v p q r = rw (p, q, r)

-- ---- operations

module _ (v w : Vector) where
  pub add_shows : FiniteVector (add_of v w) → FiniteVector v × FiniteVector w
  add_shows h =
      let (p, q, r) = components (add_of v w) h in
      let x = add_finite binary32 v.x w.x p in
      let y = add_finite binary32 v.y w.y q in
      let z = add_finite binary32 v.z w.z r in
      (whole v x.0 y.0 z.0, whole w x.1 y.1 z.1)

  pub sub_shows : FiniteVector (sub_of v w) → FiniteVector v × FiniteVector w
  sub_shows h =
      let (p, q, r) = components (sub_of v w) h in
      let x = sub_finite binary32 v.x w.x p in
      let y = sub_finite binary32 v.y w.y q in
      let z = sub_finite binary32 v.z w.z r in
      (whole v x.0 y.0 z.0, whole w x.1 y.1 z.1)

  pub cross_shows : FiniteVector (cross_of v w) → FiniteVector v × FiniteVector w
  cross_shows h =
      let (p, q, r) = components (cross_of v w) h in
      let x = sub_finite binary32 (v.y ⊗ w.z) (v.z ⊗ w.y) p in
      let y = sub_finite binary32 (v.z ⊗ w.x) (v.x ⊗ w.z) q in
      let yz = mul_finite binary32 v.y w.z x.0 in
      let zy = mul_finite binary32 v.z w.y x.1 in
      let zx = mul_finite binary32 v.z w.x y.0 in
      let xz = mul_finite binary32 v.x w.z y.1 in
      (whole v xz.0 yz.0 zy.0, whole w zx.1 zy.1 yz.1)

pub mul_shows : (v : Vector) (k : Float) → FiniteVector (mul_of v k) → FiniteVector v × Finite k
mul_shows v k h =
    let (p, q, r) = components (mul_of v k) h in
    let x = mul_finite binary32 v.x k p in
    (whole v x.0 (mul_finite binary32 v.y k q).0 (mul_finite binary32 v.z k r).0, x.1)

-- ---- a zero, and the norm

zero_finite : (x : Float) → eq x float.zero ≡ true → Finite x
unfolding eq of_bits
zero_finite nan h = absurd (false≢true h)
zero_finite (inf s) h = absurd (false≢true h)
zero_finite (fin s m e) h = refl

pub zero_shows : (v : Vector) → is_zero_of v ≡ true → FiniteVector v
zero_shows v h =
    let (p, q, r) = all_three (eq v.x float.zero) (eq v.y float.zero) (eq v.z float.zero) h in
    whole v (zero_finite v.x p) (zero_finite v.y q) (zero_finite v.z r)

-- a root that is zero is that of a zero
root_finite : (x : Float) → eq (sqrt_of x) float.zero ≡ true → Finite x
unfolding eq of_bits sqrt_of
root_finite nan h = absurd (false≢true h)
root_finite (inf true) h = absurd (false≢true h)
root_finite (inf false) h = absurd (false≢true h)
root_finite (fin s m e) h = refl

norm_shows : (v : Vector) → eq (norm_of v) float.zero ≡ true → FiniteVector v
unfolding norm_of norm_squared_of
norm_shows v h =
    let all = add_finite binary32 (v.x ⊗ v.x ⊕ v.y ⊗ v.y) (v.z ⊗ v.z) (root_finite (norm_squared_of v) h) in
    let two = add_finite binary32 (v.x ⊗ v.x) (v.y ⊗ v.y) all.0 in
    whole v (mul_finite binary32 v.x v.x two.0).0 (mul_finite binary32 v.y v.y two.1).0 (mul_finite binary32 v.z v.z all.1).0

pub normalize_shows : (v : Vector) → FiniteVector (normalize_of v) → FiniteVector v
unfolding normalize_of
normalize_shows v h = go (eq (norm_of v) float.zero) refl h
  where
    go : (b : Bool) → eq (norm_of v) float.zero ≡ b → FiniteVector (cond b zero_vector (mul_of v (float.one ⊘ norm_of v))) → FiniteVector v
    go true e k = norm_shows v e
    go false e k = (mul_shows v (float.one ⊘ norm_of v) k).0
