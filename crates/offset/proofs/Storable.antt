-- What a record may hold: told by its bits, finite, and the same without the sign of a zero. Assumes nothing.
use Prim.Native.Nat.{ℕ, ◌<◌}
use native.Mathlib.Decide.{ℕ_discrete}
use mathlib.Core.Path.{◌≡◌, refl, ap, ap₂, sym, subst, ◌∙◌}
use mathlib.Core.Bool.{Bool, true, false, not, ◌&&◌, and-true}
use lib.Dec.{T, eqb}
use lib.IntN.{pos}
use lib.Ieee.{Float, binary32, fin, is_nan, of_bits, to_bits}
use lib.Ieee.Bits.{of_bits-fits, to_bits-of_bits}
use lib.Ieee.Scale.{finite}
use borrow.Author.Tests.{ne_eqb}
use Rattle.answer.proofs.Tests.{both, all_three, three, untrue}
use Rattle.number.specs.Same.{plain, is_minus_zero}
use Rattle.number.proofs.Same.{finite_plain}
use Rattle.number.proofs.Plain.{is_minus_zero_lem, plain_no_minus, plain_stays}
use Rattle.vector.specs.declared.Vector.{Vector}
use Rattle.vector.specs.Vectors.{finite_vector}
use Rattle.wire.specs.Wire.{finite_bits, float_of}
use Rattle.wire.proofs.Laws.{finite_of_bits}
use Rattle.offset.specs.Record.{storable, storable_vector}
use Rattle.offset.specs.OneRecord.{plain_vector}

-- ---- by its bits

the_pattern : is_minus_zero (float_of 2147483648) ≡ eqb 2147483648 2147483648
unfolding is_minus_zero of_bits
the_pattern = refl

module _ (n : ℕ) (small : n < 4294967296) where
  pattern_of : of_bits binary32 n ≡ fin true 0 (pos 0) → n ≡ 2147483648
  unfolding is_nan to_bits
  pattern_of e =
      sym (to_bits-of_bits binary32 n small (subst (λ (x : Float). T (not (is_nan x))) (sym e) tt)) ∙ ap (to_bits binary32) e

  minus_zero_bits : is_minus_zero (float_of n) ≡ eqb n 2147483648
  minus_zero_bits = go (ℕ_discrete n 2147483648)
    where
      no_minus : (n ≡ 2147483648 → ⊥) → (b : Bool) → is_minus_zero (float_of n) ≡ b → b ≡ false
      no_minus g true h = absurd (g (pattern_of (is_minus_zero_lem binary32 (float_of n) (of_bits-fits binary32 n) h)))
      no_minus g false h = refl

      go : Dec (n ≡ 2147483648) → is_minus_zero (float_of n) ≡ eqb n 2147483648
      go (yes e) = subst (λ (k : ℕ). is_minus_zero (float_of k) ≡ eqb k 2147483648) (sym e) the_pattern
      go (no g) = no_minus g (is_minus_zero (float_of n)) refl ∙ sym (ne_eqb n 2147483648 g)

  pub storable_bits : storable (float_of n) ≡ (finite_bits n && not (eqb n 2147483648))
  unfolding storable
  storable_bits = ap₂ (λ (a b : Bool). a && not b) (finite_of_bits n) minus_zero_bits

-- ---- as it stands

pub storable_finite : (x : Float) → storable x ≡ true → finite x ≡ true
unfolding storable
storable_finite x h = (both (finite x) (not (is_minus_zero x)) h).0

pub storable_stays : (x : Float) → storable x ≡ true → plain x ≡ x
unfolding storable
storable_stays x h = plain_stays x (untrue (is_minus_zero x) (both (finite x) (not (is_minus_zero x)) h).1)

storable_plain : (x : Float) → storable (plain x) ≡ finite x
unfolding storable
storable_plain x = rw (plain_no_minus x, sym (finite_plain x)) (and-true (finite x))

module _ (v : Vector) where
  pub storable_plains : storable_vector (plain_vector v) ≡ finite_vector v
  unfolding storable_vector finite_vector
  storable_plains = three (storable_plain v.x) (storable_plain v.y) (storable_plain v.z)

  module _ (h : storable_vector v ≡ true) where
    axes : (storable v.x ≡ true) × (storable v.y ≡ true) × (storable v.z ≡ true)
    unfolding storable_vector
    axes = all_three (storable v.x) (storable v.y) (storable v.z) h

    pub storable_finites : finite_vector v ≡ true
    unfolding finite_vector
    storable_finites = three (storable_finite v.x axes.0) (storable_finite v.y axes.1) (storable_finite v.z axes.2)
