-- The theorem of the sine and the cosine; and what their returns have to show. Assumes nothing.
use Rattle.std.proofs.Common.{◌≡◌, Bool, true, false, cond, T, sym, refl, ◌∙◌, subst}
use lib.Ieee.{Float, nan, binary32, fits, mul, lt}
use lib.Ieee.Bits.{is_true}
use Rattle.number.specs.Float32 as float
use Rattle.number.specs.Same.{fabsf_of}
use Rattle.trig.specs.Degrees.{Fraction, in_turn, sine_at, within}
use Rattle.trig.specs.Wave.{rounded_of, slope_of, sin_of, cos_of, Near, Waves}
use Rattle.trig.proofs.Within.{rounded_near}
use Rattle.trig.proofs.Small.{small_near}

pub waves : Waves
unfolding sin_of cos_of
waves =
    record {
      sine = λ x f t. rw (is_true (in_turn x) t) (by_size x f t (lt (fabsf_of x) float.one) refl);
      cosine = λ x f t. rw (is_true (in_turn x) t) (rounded_near 1 x f t);
    }
  where
    by_size : (x : Float) → T (fits binary32 x) → T (in_turn x) → (small : Bool) → lt (fabsf_of x) float.one ≡ small
        → T (within 23 (cond small (mul binary32 x (slope_of x)) (rounded_of 0 x)) (sine_at x))
    by_size x f t true h = small_near x f t h
    by_size x f t false h = rounded_near 0 x f t

-- what is `f x` is near the exact one
pub near : (f : Float → Float) (exact : Float → Fraction) → Near f exact → (x : Float) {r : Float} → fits binary32 x ≡ true → r ≡ f x
    → (r ≡ f x) × (T (in_turn x) → T (within 23 r (exact x)))
near f exact n x h e = (e, λ t. subst (λ (z : Float). T (within 23 z (exact x))) (sym e) (n x (subst T (sym h) tt) t))

-- ---- the tests of an angle

-- what the test of the range says
pub in_range : (x : Float) {r : Bool} → r ≡ in_turn x → r ≡ true → in_turn x ≡ true
in_range x e h = sym e ∙ h

pub out_of_range : (x : Float) {r : Bool} → r ≡ in_turn x → r ≡ false → in_turn x ≡ false
out_of_range x e h = sym e ∙ h

pub is_so : {b : Bool} → b ≡ true → T b
is_so e = subst T (sym e) tt

-- ---- which case it is

module _ (x : Float) where
  pub no_sine : in_turn x ≡ false → nan ≡ sin_of x
  unfolding sin_of
  no_sine e = rw e

  pub no_cosine : in_turn x ≡ false → nan ≡ cos_of x
  unfolding cos_of
  no_cosine e = rw e

  pub small_sine : in_turn x ≡ true → {a : Float} → a ≡ fabsf_of x → lt a float.one ≡ true → {d : Float} → d ≡ slope_of x → mul binary32 x d ≡ sin_of x
  unfolding sin_of
  small_sine e p h q = let i = rw p at h in rw (e, i, q)

  pub large_sine : in_turn x ≡ true → {a : Float} → a ≡ fabsf_of x → lt a float.one ≡ false → {r : Float} → r ≡ rounded_of 0 x → r ≡ sin_of x
  unfolding sin_of
  large_sine e p h q = let i = rw p at h in q ∙ rw (e, i)

  pub the_cosine : in_turn x ≡ true → {r : Float} → r ≡ rounded_of 1 x → r ≡ cos_of x
  unfolding cos_of
  the_cosine e q = q ∙ rw e
