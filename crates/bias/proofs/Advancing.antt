-- The next state: it moves, waits or learns. Assumes nothing.
use Prim.Native.Nat.{◌+◌, ◌<◌, ◌≤◌}
use mathlib.Core.Path.{◌≡◌, sym, ap, ◌∙◌}
use mathlib.Core.Bool.{Bool, true, false}
use borrow.Author.Tests.{lt-ltb, le-ltb}
use Rattle.vector.specs.declared.Vector.{Vector}
use Rattle.vector.specs.Vectors.{exceeds_of, add_of, mul_of}
use Rattle.bias.specs.declared.Bias.{Bias}
use Rattle.bias.specs.Estimator.{with_timer, with_offset, advanced_of}

module _ (b : Bias) (c : Vector) {r : Bool} (e : r ≡ exceeds_of c b.settings.stationary_threshold) where
  pub moving : r ≡ true → with_timer b 0 ≡ advanced_of b c
  unfolding advanced_of
  moving h = rw (sym e ∙ h)

  pub waiting : r ≡ false → b.timer < b.timeout → with_timer b (b.timer + 1) ≡ advanced_of b c
  unfolding advanced_of
  waiting h l = rw (sym e ∙ h, lt-ltb b.timer b.timeout l)

  pub learning : {v w : Vector} → v ≡ mul_of c b.filter_coefficient → w ≡ add_of b.offset v
      → r ≡ false → b.timeout ≤ b.timer → with_offset b w ≡ advanced_of b c
  unfolding advanced_of
  learning p q h l = rw (sym e ∙ h, le-ltb b.timer b.timeout l) (ap (with_offset b) (q ∙ ap (add_of b.offset) p))
