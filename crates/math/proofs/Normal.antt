-- A quaternion that is normalized to a finite one: it is of zeros exactly where its squared norm is infinite, and otherwise its squared norm is from
-- 0.25 to 4. Assumes nothing.
use mathlib.Core.Path.{◌≡◌, refl, sym, ap, subst, ◌∙◌}
use mathlib.Core.Bool.{Bool, true, false, ◌||◌, false≢true}
use mathlib.Core.Logic.{◌⊎◌, inl, inr}
use Prim.Native.Nat.{ℕ, zero, suc, ◌*◌, ◌<◌}
use native.Mathlib.Nat.{zero-mul}
use native.Mathlib.Omega.{arith}
use borrow.Author.Tests.{eqb-true}
use lib.Dec.{eqb}
use lib.Ieee.{Float, nan, inf, fin, binary32, up, down, div, below, level, eq, le, of_bits}
use lib.Ieee.Fits.{down_pos}
use lib.Ieee.Scale.{finite}
use Rattle.number.specs.Float32.{◌⊗◌, ◌⊘◌, one, quarter, infinity}
use Rattle.number.proofs.Signed.{over}
use Rattle.number.proofs.Zeros.{Zero, mul_zero_right}
use Rattle.number.proofs.Finite.{mul_finite}
use Rattle.answer.proofs.Tests.{both}
use Rattle.root.specs.Root.{sqrt_of}
use Rattle.math.specs.declared.quaternion.Quaternion.{Quaternion}
use Rattle.math.specs.Quaternions.{finite_quaternion, eq_of, norm_squared_of, norm_of, normalize_of}
use Rattle.math.proofs.Shows.{components}
use Rattle.math.proofs.Zeros.{Zeros, zeros, zeros_of_eq, eq_of_zeros, square_zero}
use Rattle.math.proofs.Length.{within, Fits, length_kept}

-- ---- zeros are not within

no_quarter : (x : Float) → Zero x → le quarter x ≡ true → ⊥
unfolding le of_bits
no_quarter (fin s m e) z = above s (down e) (m * up e * 4) (down_pos e) (rw z (simp zero-mul))
  where
    above : (s : Bool) (d k : ℕ) → 0 < d → k ≡ 0 → (below false (1 * 1 * d) s k || level false (1 * 1 * d) s k) ≡ true → ⊥
    above true d k p z h = let n = eqb-true (1 * 1 * d) k (both (eqb (1 * 1 * d) k) _ h).0 in omega arith
    above false d k p z h = let n = over (1 * 1 * d) k h in omega arith
no_quarter nan z = elim z [ ]
no_quarter (inf _) z = elim z [ ]

pub within_no_zeros : (q : Quaternion) → within q ≡ true → eq_of q zeros ≡ false
within_no_zeros q h = go (eq_of q zeros) refl
  where
    go : (b : Bool) → eq_of q zeros ≡ b → b ≡ false
    go true e = absurd (no_quarter (norm_squared_of q) (square_zero q (zeros_of_eq q e)) (both (le quarter (norm_squared_of q)) _ h).0)
    go false e = refl

-- ---- the squared norms whose root has a finite reciprocal

has_reciprocal : (x : Float) → finite (one ⊘ sqrt_of x) ≡ true → (x ≡ inf false) ⊎ ((finite x ≡ true) × (eq x infinity ≡ false))
unfolding sqrt_of div eq of_bits
has_reciprocal nan h = absurd (false≢true h)
has_reciprocal (inf true) h = absurd (false≢true h)
has_reciprocal (inf false) h = inl refl
has_reciprocal (fin s zero e) h = absurd (false≢true h)
has_reciprocal (fin true (suc m) e) h = absurd (false≢true h)
has_reciprocal (fin false (suc m) e) h = inr (refl, refl)

-- that of an infinite root is zero
vanishes : Zero (one ⊘ sqrt_of (inf false))
unfolding sqrt_of div of_bits
vanishes = refl

infinite : eq (inf false) infinity ≡ true
unfolding eq of_bits
infinite = refl

-- ---- a quaternion and its normalized one

pub record Normal (p : Quaternion) : Type 0 where
  pub zero_exactly : eq_of (normalize_of p) zeros ≡ eq (norm_squared_of p) infinity
  pub length : eq (norm_squared_of p) infinity ≡ false → within (normalize_of p) ≡ true

module _ (p : Quaternion) (f : Fits p) (h : finite_quaternion (normalize_of p) ≡ true) where
  abbrev reciprocal : Float
  reciprocal = one ⊘ norm_of p

  -- a finite product has finite factors
  factors : (x : Float) → finite (x ⊗ reciprocal) ≡ true → (finite x ≡ true) × (finite reciprocal ≡ true)
  factors x = mul_finite binary32 x reciprocal

  all_vanish : Zero reciprocal → Zeros (normalize_of p)
  unfolding normalize_of
  all_vanish z =
      let (w, x, y, z') = components (normalize_of p) h in (
        mul_zero_right binary32 p.w reciprocal (factors p.w w).0 z,
        mul_zero_right binary32 p.x reciprocal (factors p.x x).0 z,
        mul_zero_right binary32 p.y reciprocal (factors p.y y).0 z,
        mul_zero_right binary32 p.z reciprocal (factors p.z z').0 z,
      )

  is_finite : finite reciprocal ≡ true
  unfolding normalize_of
  is_finite = (factors p.w (components (normalize_of p) h).0).1

  pub normal : Normal p
  unfolding norm_of
  normal = elim (has_reciprocal (norm_squared_of p) is_finite) [
    | inl e ↦
        let large : eq (norm_squared_of p) infinity ≡ true = ap (λ (x : Float). eq x infinity) e ∙ infinite in
        record {
          zero_exactly = eq_of_zeros (normalize_of p) (all_vanish (subst (λ (x : Float). Zero (one ⊘ sqrt_of x)) (sym e) vanishes)) ∙ sym large;
          length = λ l. absurd (false≢true (sym l ∙ large));
        }
    | inr (number, small) ↦
        let inside = length_kept p f h number in
        record { zero_exactly = within_no_zeros (normalize_of p) inside ∙ sym small; length = λ l. inside }
  ]
