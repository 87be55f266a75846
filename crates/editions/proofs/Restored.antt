-- What an accepted restore needs of its calls, and that the first edition's restore of the lowered record is it. Assumes nothing.
use Prim.Native.Nat.{ℕ, ◌≤◌}
use native.Mathlib.Omega.{arith}
use mathlib.Core.Path.{◌≡◌, ap₂, sym, ◌∙◌}
use mathlib.Core.Bool.{Bool, true, false, cond}
use mathlib.Core.List.{List, []}
use lib.Dec.{eqb}
use lib.ListN.{length}
use Rattle.answer.specs.Refusals.{refusal_of, accepted}
use Rattle.bias.specs.declared.Bias.{Bias}
use Rattle.answer.specs.declared.change.Change.{Change}
use Rattle.bias.specs.Estimator.{finite_bias}
use Rattle.offset.specs.Restore as offset
use Rattle.offset.proofs.Accepting.{good_passes}
use Rattle.editions.specs.declared.Edition.{Edition}
use Rattle.editions.specs.Edition.{first, second, edition_of, edition_checks}
use Rattle.editions.specs.Move.{down_of}
use Rattle.editions.specs.Restore.{restore_checks, Restores}
use Rattle.editions.proofs.Part.{fronted, alone, moved_good, same_restored}
use Rattle.editions.proofs.Accepting.{Sound, sound}

-- a record has 18 bytes at least
at_least : (t : Bool) → 18 ≤ (cond t second first).layout.size
at_least true = omega arith
at_least false = omega arith

-- e is the edition, and f whether the state is finite
module _ (b : Bias) (s : List ℕ) (m : ℕ) {e : Edition} {f : Bool}
    (ee : e ≡ edition_of (length s)) (ef : f ≡ finite_bias b) (en : 0 ≡ refusal_of (edition_checks e s m f)) where
  passed : refusal_of (restore_checks b s m) ≡ 0
  passed = sym (en ∙ ap₂ (λ (d : Edition) (g : Bool). refusal_of (edition_checks d s m g)) ee ef)

  checked : Sound (edition_of (length s)) s m (finite_bias b)
  checked = sound (edition_of (length s)) s m (finite_bias b) passed

  pub long : 18 ≤ length s
  long = omega (arith, checked.part.size, at_least (eqb (length s) 34))

  module _ {low : List ℕ} (el : low ≡ down_of s) where
    front : low ≡ fronted 1 s []
    front = el ∙ alone 1 s long

    -- the first edition's reader refuses it no second time
    unrefused : refusal_of (offset.restore_checks b low m) ≡ 0
    unrefused = good_passes _ _ low m (finite_bias b) (moved_good 1 s [] front checked.part m checked.part.other checked.part.state)

    pub restored : (r : Change Bias) → offset.Restores b low m r → Restores b s m r
    restored r p =
        let u = unrefused ∙ sym passed in
        record {
          number = p.number ∙ u;
          holds = p.holds ∙ ap₂ (λ (x : Bias) (k : ℕ). accepted k x b) (same_restored 1 s [] front b m) u;
        }
