-- The trigger ratio is finite, whatever i32 the trigger is and whatever T is; and a whole number tested against 0 by its bits. Assumes nothing.
use Prim.Native.Nat.{zero, suc}
use native.Mathlib.Omega.{arith}
use mathlib.Core.Path.{◌≡◌, refl, sym, ap, ◌∙◌}
use mathlib.Core.Bool.{true, false}
use mir.Syntax.{w32}
use mir.Val.{SFits, to_z, of_z}
use lib.IntN.{ℤ, pos, negsuc}
use lib.Ieee.{Float, of_bits}
use lib.Ieee.Scale.{finite}
use Rattle.number.proofs.Quotient.{quotient_finite}
use Rattle.step.specs.declared.Rejection.{Rejection}
use Rattle.step.specs.Sensor.{is_nought, ratio_of, Ratio}

ratio_finite : (trigger timeout : ℤ) → SFits w32 trigger → finite (ratio_of trigger timeout) ≡ true
unfolding ratio_of of_bits
ratio_finite a (pos zero) f = refl
ratio_finite a (pos (suc n)) f = quotient_finite a (pos (suc n)) f.sfits (omega arith)
ratio_finite a (negsuc n) f = quotient_finite a (negsuc n) f.sfits (omega arith)

pub ratio
    : (r : Rejection) (timeout : ℤ) {x : Float}
    → SFits w32 r.recovery_trigger → x ≡ ratio_of r.recovery_trigger timeout → Ratio r timeout x
ratio r timeout f e = record { exact = e; is_finite = ap finite e ∙ ratio_finite r.recovery_trigger timeout f }

-- ---- T tested against 0 by its bits

pub is_nought_lem : (t : ℤ) → to_z w32 (of_z w32 t) ≡ t → of_z w32 t ≡ 0 → is_nought t ≡ true
is_nought_lem t e h = ap is_nought (sym e ∙ ap (to_z w32) h)

pub no_nought : (t : ℤ) → (of_z w32 t ≡ 0 → ⊥) → is_nought t ≡ false
no_nought (pos zero) f = absurd (f refl)
no_nought (pos (suc n)) f = refl
no_nought (negsuc n) f = refl
