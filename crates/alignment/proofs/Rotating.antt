-- 0·x + 1·y + 0·z is y, zero's sign ignored: one law for the three rows. So the turn by the matrix is the turn, and never a case of 7. Assumes
-- nothing.
use mathlib.Core.Path.{◌≡◌, refl, ap, ◌∙◌}
use mathlib.Core.Bool.{Bool, true, false, not}
use mathlib.Core.List.{[], ◌∷◌}
use lib.Dec.{T, ltb}
use lib.IntN.{pos, negsuc}
use lib.Ieee.{Float, binary32, fits, neg, of_bits}
use lib.Ieee.Fits.{neg-fits}
use lib.Ieee.Scale.{finite}
use Rattle.number.specs.Float32.{◌⊕◌, ◌⊗◌, zero}
use Rattle.number.specs.Same.{Same}
use Rattle.number.proofs.Same.{same_of, same_trans, same_add}
use Rattle.number.proofs.Neutral.{zero_times, one_times, minus_one_times, zero_plus, plus_zero}
use Rattle.answer.specs.Refusals.{check, refusal_of}
use Rattle.answer.proofs.Tests.{all_three}
use Rattle.vector.specs.declared.Vector.{Vector}
use Rattle.vector.specs.Vectors.{Singles, finite_vector}
use Rattle.vector.specs.Mounting.{Signed, Px, Py, Pz, Nx, Ny, Nz, mounting_of, read}
use Rattle.vector.specs.Determinant.{row_of}
use Rattle.vector.proofs.Turning.{each_permutes, finite_turned}
use Rattle.alignment.specs.Matrix.{float_of, to_matrix_of, rotate_of}
use Rattle.alignment.specs.Laws.{TurnsAlike, NoSeven}
use Rattle.alignment.proofs.Entries.{nought, unit, minus_unit}

-- ---- a term by its entry

no_part : (x : Float) → finite x ≡ true → Same (float_of (pos 0) ⊗ x) zero
unfolding of_bits
no_part x h = same_trans (same_of (ap (λ (k : Float). k ⊗ x) nought)) (zero_times binary32 x h)

whole_part : (x : Float) → T (fits binary32 x) → Same (float_of (pos 1) ⊗ x) x
unfolding of_bits
whole_part x t = same_of (ap (λ (k : Float). k ⊗ x) unit ∙ one_times binary32 x t)

opposite_part : (x : Float) → T (fits binary32 x) → Same (float_of (negsuc 0) ⊗ x) (neg x)
unfolding of_bits
opposite_part x t = same_of (ap (λ (k : Float). k ⊗ x) minus_unit ∙ minus_one_times binary32 x t)

-- ---- a sum of three of which two are zeros

module _ {x : Float} (t : T (fits binary32 x)) {a b c : Float} where
  first : Same a x → Same b zero → Same c zero → Same (a ⊕ b ⊕ c) x
  unfolding of_bits
  first p q r =
      same_trans (same_add binary32 (same_trans (same_add binary32 p q) (plus_zero binary32 x t)) r) (plus_zero binary32 x t)

  second : Same a zero → Same b x → Same c zero → Same (a ⊕ b ⊕ c) x
  unfolding of_bits
  second p q r =
      same_trans (same_add binary32 (same_trans (same_add binary32 p q) (zero_plus binary32 x t)) r) (plus_zero binary32 x t)

  third : Same a zero → Same b zero → Same c x → Same (a ⊕ b ⊕ c) x
  unfolding of_bits fits
  third p q r =
      same_trans (same_add binary32 (same_trans (same_add binary32 p q) (zero_plus binary32 zero tt)) r) (zero_plus binary32 x t)

-- ---- one row

module _ (v : Vector) (t : Singles v) (h : finite_vector v ≡ true) where
  each : (finite v.x ≡ true) × (finite v.y ≡ true) × (finite v.z ≡ true)
  unfolding finite_vector
  each = all_three (finite v.x) (finite v.y) (finite v.z) h

  no_x : Same (float_of (pos 0) ⊗ v.x) zero
  no_x = no_part v.x each.0

  no_y : Same (float_of (pos 0) ⊗ v.y) zero
  no_y = no_part v.y each.1

  no_z : Same (float_of (pos 0) ⊗ v.z) zero
  no_z = no_part v.z each.2

  row : (s : Signed)
      → Same (float_of (row_of s).x ⊗ v.x ⊕ float_of (row_of s).y ⊗ v.y ⊕ float_of (row_of s).z ⊗ v.z) (read neg v.x v.y v.z s)
  row Px = first t.x (whole_part v.x t.x) no_y no_z
  row Py = second t.y no_x (whole_part v.y t.y) no_z
  row Pz = third t.z no_x no_y (whole_part v.z t.z)
  row Nx = first (neg-fits binary32 v.x t.x) (opposite_part v.x t.x) no_y no_z
  row Ny = second (neg-fits binary32 v.y t.y) no_x (opposite_part v.y t.y) no_z
  row Nz = third (neg-fits binary32 v.z t.z) no_x no_y (opposite_part v.z t.z)

-- ---- the turn

pub turns_alike : TurnsAlike
unfolding rotate_of to_matrix_of
turns_alike n v t h =
    let m = mounting_of n in
    record { x = row v t h m.x; y = row v t h m.y; z = row v t h m.z }

pub no_seven : NoSeven
unfolding refusal_of
no_seven n v t = go (ltb 23 n) (finite_vector v) (λ h. finite_turned (mounting_of n) (each_permutes n) (turns_alike n v t h) ∙ h)
  where
    go : (a b : Bool) → (b ≡ true → finite_vector (rotate_of n v) ≡ true)
        → refusal_of (check 4 a ∷ check 5 (not b) ∷ check 7 (not (finite_vector (rotate_of n v))) ∷ []) ≡ refusal_of (check 4 a ∷ check 5 (not b) ∷ [])
    go true b f = refl
    go false false f = refl
    go false true f = rw (f refl) refl
