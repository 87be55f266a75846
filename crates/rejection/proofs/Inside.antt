-- Counts after a reset or an update lie between their ends: `StaysInside` holds. Assumes nothing.
use mathlib.Core.Path.{◌≡◌, refl}
use mathlib.Core.Bool.{Bool, true, false, cond}
use mathlib.Core.Logic.{inl, inr}
use lib.IntN.{ℤ, pos}
use lib.Signed.{lt_z}
use Rattle.number.specs.Whole.{clamp_of}
use Rattle.rejection.specs.declared.Counts.{Counts}
use Rattle.rejection.specs.Counts.{moved_of, updated_of}
use Rattle.rejection.specs.Inside.{NotBelow, ZeroOr, Inside, StaysInside}
use Rattle.rejection.proofs.Order.{not_below_itself}

module _ (value timeout : ℤ) (h : NotBelow (pos 0) timeout) where
  clamped_least : NotBelow (pos 0) (clamp_of value (pos 0) timeout)
  unfolding clamp_of
  clamped_least = go (lt_z value (pos 0)) (lt_z timeout value) refl
    where
      go : (p q : Bool) → lt_z value (pos 0) ≡ p → NotBelow (pos 0) (cond p (pos 0) (cond q timeout value))
      go true q e = not_below_itself (pos 0)
      go false true e = h
      go false false e = e

  clamped_most : NotBelow (clamp_of value (pos 0) timeout) timeout
  unfolding clamp_of
  clamped_most = go (lt_z value (pos 0)) (lt_z timeout value) refl
    where
      go : (p q : Bool) → lt_z timeout value ≡ q → NotBelow (cond p (pos 0) (cond q timeout value)) timeout
      go true q e = h
      go false true e = not_below_itself timeout
      go false false e = e

either : (timeout : ℤ) (p : Bool) → ZeroOr timeout (cond p (pos 0) timeout)
either timeout true = inl refl
either timeout false = inr refl

updated : (timeout : ℤ) → NotBelow (pos 0) timeout → (c : Counts) (over : Bool) → Inside timeout (updated_of timeout c over).counts
unfolding updated_of
updated timeout h c over =
    let moved = moved_of over c.trigger in
    record {
      least = clamped_least moved timeout h;
      most = clamped_most moved timeout h;
      threshold = either timeout (lt_z c.threshold moved);
    }

pub stays_inside : StaysInside
stays_inside =
    record {
      reset = λ timeout h. record { least = not_below_itself (pos 0); most = h; threshold = inr refl };
      update = updated;
    }
