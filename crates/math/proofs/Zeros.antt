-- A quaternion of zeros is turned into none but itself, and normalizing it gives nothing finite. Assumes nothing.
use mathlib.Core.Path.{◌≡◌}
use mathlib.Core.Bool.{true, false≢true}
use Prim.Native.Nat.{zero, suc}
use native.Mathlib.Nat.{suc-ne-zero}
use lib.Ieee.{Float, fin, binary32, neg, div, eq, of_bits}
use lib.Ieee.Scale.{finite}
use Rattle.number.specs.Float32 as float
use Rattle.number.specs.Float32.{◌⊖◌, ◌⊗◌, ◌⊕◌, ◌⊘◌, one}
use Rattle.number.proofs.Zeros.{Zero, zero_finite, of_eq, to_eq, neg_zero, mul_zero, add_zero, sub_zero}
use Rattle.number.proofs.Finite.{mul_finite}
use Rattle.answer.proofs.Tests.{all_three, all_four}
use Rattle.root.specs.Root.{sqrt_of}
use Rattle.vector.specs.declared.Vector.{Vector}
use Rattle.vector.specs.Vectors.{finite_vector}
use Rattle.math.specs.declared.quaternion.Quaternion.{Quaternion}
use Rattle.math.specs.Quaternions.{quaternion, finite_quaternion, eq_of, vector_product_of, norm_squared_of, norm_of, add_of, normalize_of}
use Rattle.math.proofs.Shows.{components}

abbrev pub Zeros : Quaternion → Type 0
Zeros q = Zero q.w × Zero q.x × Zero q.y × Zero q.z

abbrev pub zeros : Quaternion
zeros = quaternion float.zero float.zero float.zero float.zero

pub zeros_of_eq : (q : Quaternion) → eq_of q zeros ≡ true → Zeros q
zeros_of_eq q h =
    let (w, x, y, z) = all_four (eq q.w float.zero) (eq q.x float.zero) (eq q.y float.zero) (eq q.z float.zero) h in
    (of_eq q.w w, of_eq q.x x, of_eq q.y y, of_eq q.z z)

pub eq_of_zeros : (q : Quaternion) → Zeros q → eq_of q zeros ≡ true
eq_of_zeros q (w, x, y, z) = rw (to_eq q.w w, to_eq q.x x, to_eq q.y y, to_eq q.z z)

-- ---- the squared norm, and its root

module _ (q : Quaternion) (h : Zeros q) where
  pub square_zero : Zero (norm_squared_of q)
  unfolding norm_squared_of
  square_zero =
      let square : (x : Float) → Zero x → Zero (x ⊗ x) = λ x z. mul_zero binary32 x x z (zero_finite x z) in
      let (w, x, y, z) = h in
      let one = add_zero binary32 (q.w ⊗ q.w) (q.x ⊗ q.x) (square q.w w) (square q.x x) in
      let two = add_zero binary32 (q.w ⊗ q.w ⊕ q.x ⊗ q.x) (q.y ⊗ q.y) one (square q.y y) in
      add_zero binary32 (q.w ⊗ q.w ⊕ q.x ⊗ q.x ⊕ q.y ⊗ q.y) (q.z ⊗ q.z) two (square q.z z)

-- the reciprocal of a zero's root is infinite
no_reciprocal : (x : Float) → Zero x → finite (one ⊘ sqrt_of x) ≡ true → ⊥
unfolding sqrt_of div of_bits
no_reciprocal (fin s zero e) z h = false≢true h
no_reciprocal (fin s (suc m) e) z h = suc-ne-zero m z
no_reciprocal lib.Ieee.nan z h = elim z [ ]
no_reciprocal (lib.Ieee.inf _) z h = elim z [ ]

pub no_norm : (q : Quaternion) → Zero (norm_squared_of q) → finite_quaternion (normalize_of q) ≡ true → ⊥
unfolding normalize_of norm_of
no_norm q z h =
    let (w, _, _, _) = components (normalize_of q) h in
    no_reciprocal (norm_squared_of q) z (mul_finite binary32 q.w (one ⊘ norm_of q) w).1

-- ---- a turn

module _ (q : Quaternion) (v : Vector) (h : Zeros q) (f : finite_vector v ≡ true) where
  by : (x y : Float) → Zero x → finite y ≡ true → Zero (x ⊗ y)
  by x y = mul_zero binary32 x y

  pub product_zeros : Zeros (vector_product_of q v)
  unfolding finite_vector
  product_zeros =
      let (w, x, y, z) = h in
      let (vx, vy, vz) = all_three (finite v.x) (finite v.y) (finite v.z) f in (
        sub_zero binary32 (neg q.x ⊗ v.x ⊖ q.y ⊗ v.y) (q.z ⊗ v.z)
            (sub_zero binary32 (neg q.x ⊗ v.x) (q.y ⊗ v.y) (by (neg q.x) v.x (neg_zero q.x x) vx) (by q.y v.y y vy))
            (by q.z v.z z vz),
        sub_zero binary32 (q.w ⊗ v.x ⊕ q.y ⊗ v.z) (q.z ⊗ v.y)
            (add_zero binary32 (q.w ⊗ v.x) (q.y ⊗ v.z) (by q.w v.x w vx) (by q.y v.z y vz)) (by q.z v.y z vy),
        add_zero binary32 (q.w ⊗ v.y ⊖ q.x ⊗ v.z) (q.z ⊗ v.x)
            (sub_zero binary32 (q.w ⊗ v.y) (q.x ⊗ v.z) (by q.w v.y w vy) (by q.x v.z x vz)) (by q.z v.x z vx),
        sub_zero binary32 (q.w ⊗ v.z ⊕ q.x ⊗ v.y) (q.y ⊗ v.x)
            (add_zero binary32 (q.w ⊗ v.z) (q.x ⊗ v.y) (by q.w v.z w vz) (by q.x v.y x vy)) (by q.y v.x y vx),
      )

-- zeros that are turned and normalized are not finite
pub no_turn : (q : Quaternion) (v : Vector) → Zeros q → finite_vector v ≡ true → finite_quaternion (normalize_of (add_of q (vector_product_of q v))) ≡ true → ⊥
no_turn q v h f = no_norm turned (square_zero turned zeros_again)
  where
    product : Quaternion
    product = vector_product_of q v

    turned : Quaternion
    turned = add_of q product

    zeros_again : Zeros turned
    zeros_again =
        let (w, x, y, z) = h in
        let (pw, px, py, pz) = product_zeros q v h f in (
          add_zero binary32 q.w product.w w pw,
          add_zero binary32 q.x product.x x px,
          add_zero binary32 q.y product.y y py,
          add_zero binary32 q.z product.z z pz,
        )
