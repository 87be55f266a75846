-- What an accepted restore needs of its calls, and that setting the turned offset is it. Assumes nothing.
use Prim.Native.Nat.{ℕ, ◌<◌}
use mathlib.Core.Path.{◌≡◌, ap, sym, subst, ◌∙◌}
use mathlib.Core.Bool.{Bool, true}
use mathlib.Core.List.{List, []}
use Rattle.answer.specs.Refusals.{refusal_of, accepted}
use Rattle.answer.proofs.Answering.{passes, all_pass}
use Rattle.vector.specs.declared.Vector.{Vector}
use Rattle.vector.specs.Vectors.{finite_vector}
use Rattle.bias.specs.declared.Bias.{Bias}
use Rattle.answer.specs.declared.change.Change.{Change}
use Rattle.bias.specs.Estimator.{finite_bias}
use Rattle.bias.specs.Calls.{offset_checks, SetsOffset}
use Rattle.offset.specs.declared.Offset.{Offset}
use Rattle.offset.specs.Record.{mounting_at, vector_at, offset_at, record_checks, record_length, record_version}
use Rattle.offset.specs.Restore.{reframed_of, restore_checks, restored_of, Restores}
use Rattle.offset.proofs.Storable.{storable_finites}
use Rattle.offset.proofs.Accepting.{Good, good}
use Rattle.offset.proofs.Turning.{finite_reframed}

-- f is whether the state is finite
module _ (b : Bias) (s : List ℕ) (m : ℕ) {f : Bool} (ef : f ≡ finite_bias b) (en : 0 ≡ refusal_of (record_checks record_length record_version s m f)) where
  passed : refusal_of (restore_checks b s m) ≡ 0
  passed = sym (en ∙ ap (λ (g : Bool). refusal_of (record_checks record_length record_version s m g)) ef)

  checked : Good record_length record_version s m (finite_bias b)
  checked = good _ _ s m (finite_bias b) passed

  finites : finite_vector (vector_at s) ≡ true
  finites = storable_finites (vector_at s) checked.floats

  -- setting a turned offset is not refused a second time
  unrefused : refusal_of (offset_checks b (reframed_of (vector_at s) (mounting_at s) m)) ≡ 0
  unrefused =
      passes 5 [] (rw (checked.state, finite_reframed (vector_at s) (mounting_at s) m, finites)) ∙ all_pass

  module _ {o : Offset} (eo : o ≡ offset_at s) where
    pub turnable : (o.mounting < 24) × (m < 24) × (finite_vector o.vector ≡ true)
    turnable = rw eo (checked.mounting, checked.other, finites)

    pub restored : {v : Vector} (r : Change Bias) → v ≡ reframed_of o.vector o.mounting m → SetsOffset b v r → Restores b s m r
    restored {v} r e p =
        let q = subst (λ (w : Vector). SetsOffset b w r) (rw eo at e) p in
        let u = unrefused ∙ sym passed in
        record { number = q.number ∙ u; holds = q.holds ∙ ap (λ (k : ℕ). accepted k (restored_of b s m) b) u }
