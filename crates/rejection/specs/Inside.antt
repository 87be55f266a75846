-- What a reset and every update leave for a T of 0 or more: a trigger from 0 to T, and the threshold 0 or T.
use Rattle.std.specs.Prelude.{◌≡◌, Bool, false, ◌⊎◌, ℤ, pos}
use Rattle.std.specs.Int.Signed.{lt_z}
use Rattle.rejection.specs.declared.Counts.{Counts}
use Rattle.rejection.specs.Counts.{reset_of, updated_of}

abbrev pub NotBelow : ℤ → ℤ → Type 0
NotBelow a b = lt_z b a ≡ false

-- the threshold is 0 or T
abbrev pub ZeroOr : ℤ → ℤ → Type 0
ZeroOr timeout threshold = (threshold ≡ pos 0) ⊎ (threshold ≡ timeout)

pub record Inside (timeout : ℤ) (c : Counts) : Type 0 where
  pub least : NotBelow (pos 0) c.trigger
  pub most : NotBelow c.trigger timeout
  pub threshold : ZeroOr timeout c.threshold

-- whatever the counts were before
pub record StaysInside : Type 0 where
  pub reset : (timeout : ℤ) → NotBelow (pos 0) timeout → Inside timeout (reset_of timeout)
  pub update : (timeout : ℤ) → NotBelow (pos 0) timeout → (c : Counts) (over : Bool) → Inside timeout (updated_of timeout c over).counts
