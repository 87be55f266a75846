-- The sine and the cosine are at most 2 in size in their range, finite exactly there, and f32 everywhere. Assumes nothing.
use Rattle.std.proofs.Common.{◌≡◌, ℕ, ◌+◌, ◌≤◌, Bool, true, false, cond, T, refl, inl, inr, mul-le-mul_right, arith}
use lib.Ieee.{Float, nan, inf, fin, binary32, fits, down, mul, lt}
use lib.Ieee.Bits.{is_true}
use lib.Ieee.Fits.{cond-fits, nan-fits, neg-fits, add-fits, mul-fits}
use lib.Ieee.Scale.{finite}
use Rattle.number.specs.Float32 as float
use Rattle.number.specs.Same.{fabsf_of}
use Rattle.number.proofs.AtMost.{AtMost, most_finite}
use Rattle.trig.specs.Degrees.{in_turn}
use Rattle.trig.specs.Fixed.{one}
use Rattle.trig.specs.Wave.{grid_of, size_of, minus_of, float_of, slope_of, rounded_of, sin_of, cos_of}
use Rattle.trig.proofs.Quarter.{size_small}
use Rattle.trig.proofs.Rounding.{Rounded, float_rounded}
use Rattle.trig.proofs.Waves.{is_so}
use Rattle.trig.proofs.Limited.{Within, sine_within}

-- ---- at most 1, but for a rounding

near_one : (x : Float) → Within (one + 96) x → AtMost 2 x
near_one nan (inl b) = absurd b
near_one nan (inr b) = absurd b
near_one (inf s) (inl b) = absurd b
near_one (inf s) (inr b) = absurd b
near_one (fin s m e) (inl b) = record { within = omega (arith, b.1) }
near_one (fin s m e) (inr b) = record { within = omega (arith, b.1) }

pub sin_most : (x : Float) → T (in_turn x) → AtMost 2 (sin_of x)
sin_most x t = near_one (sin_of x) (sine_within x t)

near_size : (x : Float) (s : Bool) (n : ℕ) → n ≤ one → Rounded x s n → AtMost 2 x
near_size nan s n h r = absurd r
near_size (inf t) s n h r = absurd r
near_size (fin t m e) s n h r = record { within = omega (arith, r.1.0, mul-le-mul_right (down e) h) }

pub cos_most : (x : Float) → T (in_turn x) → AtMost 2 (cos_of x)
unfolding cos_of
cos_most x t =
    let y : ℕ = grid_of x in
    rw (is_true (in_turn x) t)
    (near_size (rounded_of 1 x) (minus_of 1 y) (size_of 1 y) (size_small 1 y) (float_rounded (minus_of 1 y) (size_of 1 y) (size_small 1 y)))

-- ---- finite

pub sin_finite : (x : Float) → finite (sin_of x) ≡ in_turn x
unfolding sin_of
sin_finite x = go (in_turn x) refl
  where
    go : (b : Bool) → in_turn x ≡ b → finite (sin_of x) ≡ b
    go true e = most_finite (sin_most x (is_so e))
    go false e = rw e

pub cos_finite : (x : Float) → finite (cos_of x) ≡ in_turn x
unfolding cos_of
cos_finite x = go (in_turn x) refl
  where
    go : (b : Bool) → in_turn x ≡ b → finite (cos_of x) ≡ b
    go true e = most_finite (cos_most x (is_so e))
    go false e = rw e

float_fits : (minus : Bool) (size : ℕ) → T (fits binary32 (float_of minus size))
unfolding float_of
float_fits minus size = cond-fits binary32 minus _ _ (neg-fits binary32 _ (add-fits binary32 _ _)) (add-fits binary32 _ _)

pub sin_fits : (x : Float) → T (fits binary32 (sin_of x))
unfolding sin_of
sin_fits x =
    cond-fits binary32 (in_turn x) (cond (lt (fabsf_of x) float.one) (mul binary32 x (slope_of x)) (rounded_of 0 x)) nan
    (cond-fits binary32 (lt (fabsf_of x) float.one) (mul binary32 x (slope_of x)) (rounded_of 0 x) (mul-fits binary32 x (slope_of x)) (float_fits _ _))
    (nan-fits binary32)

pub cos_fits : (x : Float) → T (fits binary32 (cos_of x))
unfolding cos_of
cos_fits x = cond-fits binary32 (in_turn x) (rounded_of 1 x) nan (float_fits _ _) (nan-fits binary32)
