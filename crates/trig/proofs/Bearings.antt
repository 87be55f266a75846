-- Which of its cases the angle takes, from the tests that led to it; and what its returns have to show. Assumes nothing.
use Rattle.std.proofs.Common.{◌≡◌, ℕ, Bool, true, false, ◌&&◌, T, sym, ◌∙◌, subst}
use lib.Ieee.{Float, nan, lt}
use lib.Ieee.Scale.{finite}
use Rattle.answer.proofs.Tests.{both}
use Rattle.number.specs.Float32 as float
use Rattle.number.specs.Same.{fabsf_of}
use Rattle.trig.specs.Octant.{octant_of}
use Rattle.trig.specs.Angle.{ordered, ratio_of, flat_steps_of, steep_steps_of, degrees_of, bearing_of, angle_of, Angled}
use Rattle.trig.proofs.Waves.{is_so}
use Rattle.trig.proofs.Angles as angle

-- a and b are the sizes of y and x
module _ (y x : Float) {a b : Float} (ey : a ≡ fabsf_of y) (ex : b ≡ fabsf_of x) where
  pub steep_asks : T (finite y) → T (finite x) → lt b a ≡ true → T (ordered b a)
  steep_asks fy fx h = rw (ex, ey) (angle.steep_asks y x fy fx (rw (ex, ey) at h))

  pub flat_asks : T (finite y) → T (finite x) → lt b a ≡ false → lt float.zero b ≡ true → T (ordered a b)
  flat_asks fy fx h i = rw (ex, ey) (angle.flat_asks y x fy fx (rw (ex, ey) at h) (rw ex at i))

  pub steep_is : lt b a ≡ true → {p k steps : ℕ} {r : Float} → p ≡ ratio_of b a → k ≡ octant_of p
      → steps ≡ steep_steps_of (lt y float.zero) (lt x float.zero) k → r ≡ degrees_of steps → r ≡ bearing_of y x
  unfolding bearing_of
  steep_is h p k s d =
      let i : lt (fabsf_of x) (fabsf_of y) ≡ true = rw (ex, ey) at h in
      rw (d, s, k, p, ex, ey, i)

  pub flat_is : lt b a ≡ false → lt float.zero b ≡ true → {p k steps : ℕ} {r : Float} → p ≡ ratio_of a b → k ≡ octant_of p
      → steps ≡ flat_steps_of (lt y float.zero) (lt x float.zero) k → r ≡ degrees_of steps → r ≡ bearing_of y x
  unfolding bearing_of
  flat_is h g p k s d =
      let i : lt (fabsf_of x) (fabsf_of y) ≡ false = rw (ex, ey) at h in
      let j : lt float.zero (fabsf_of x) ≡ true = rw ex at g in
      rw (d, s, k, p, ex, ey, i, j)

  pub none_is : lt b a ≡ false → lt float.zero b ≡ false → float.zero ≡ bearing_of y x
  unfolding bearing_of
  none_is h g =
      let i : lt (fabsf_of x) (fabsf_of y) ≡ false = rw (ex, ey) at h in
      let j : lt float.zero (fabsf_of x) ≡ false = rw ex at g in
      rw (i, j)

-- f and g are the tests of y and of x
module _ (y x : Float) {f g : Bool} (e : f ≡ finite y) (i : g ≡ finite x) where
  pub each_finite : (f && g) ≡ true → T (finite y) × T (finite x)
  each_finite h = let p = both (finite y) (finite x) (rw (e, i) at h) in (is_so p.0, is_so p.1)

  -- what is `angle_of y x` is an angle of them
  shows : {r : Float} → r ≡ angle_of y x → (r ≡ angle_of y x) × (T (finite y) → T (finite x) → Angled y x r)
  shows d = (d, λ s t. subst (λ (z : Float). Angled y x z) (sym d) (angle.angles y x s t))

  pub finite_is : (f && g) ≡ true → {r : Float} → r ≡ bearing_of y x → (r ≡ angle_of y x) × (T (finite y) → T (finite x) → Angled y x r)
  unfolding angle_of
  finite_is h d = let b : (finite y && finite x) ≡ true = rw (e, i) at h in shows (d ∙ rw b)

  pub other_is : (f && g) ≡ false → (nan ≡ angle_of y x) × (T (finite y) → T (finite x) → Angled y x nan)
  unfolding angle_of
  other_is h = let b : (finite y && finite x) ≡ false = rw (e, i) at h in shows (rw b)
