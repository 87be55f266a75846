-- The angle does not see the sign of a zero: its tests and sizes do not. Assumes nothing.
use Rattle.std.proofs.Common.{◌≡◌, zero, suc, ◌+◌, ◌*◌, true, false, sym, refl, ◌∙◌, ap₂, arith, le-ltb}
use lib.Ieee.{Float, nan, inf, fin, of_bits, up, down, lt}
use lib.Ieee.Scale.{finite}
use Rattle.number.specs.Float32 as float
use Rattle.number.specs.Same.{plain, fabsf_of}
use Rattle.trig.specs.Angle.{bearing_of, angle_of, ZeroSignIgnored}

plain_finite : (x : Float) → finite (plain x) ≡ finite x
unfolding plain
plain_finite nan = refl
plain_finite (inf s) = refl
plain_finite (fin s zero e) = refl
plain_finite (fin s (suc m) e) = refl

plain_size : (x : Float) → fabsf_of (plain x) ≡ fabsf_of x
unfolding plain fabsf_of
plain_size nan = refl
plain_size (inf s) = refl
plain_size (fin s zero e) = refl
plain_size (fin s (suc m) e) = refl

plain_below : (x : Float) → lt (plain x) float.zero ≡ lt x float.zero
unfolding plain lt of_bits
plain_below nan = refl
plain_below (inf s) = refl
plain_below (fin true zero e) =
    le-ltb (0 * up e * 1) (0 * 1 * down e) (omega arith) ∙ sym (le-ltb 0 (0 * up e * 1 + 0 * 1 * down e) (omega arith))
plain_below (fin false zero e) = refl
plain_below (fin s (suc m) e) = refl

plain_angle : (y x : Float) → angle_of (plain y) (plain x) ≡ angle_of y x
unfolding angle_of bearing_of
plain_angle y x = rw (plain_finite y, plain_finite x, plain_size y, plain_size x, plain_below y, plain_below x)

pub zero_sign_ignored : ZeroSignIgnored
zero_sign_ignored y z x w e f = sym (plain_angle y x) ∙ ap₂ angle_of e.number f.number ∙ plain_angle z w
