-- Restoring twice equals restoring once, a start that is tried again gives the same offset, and nothing else changes. Assumes nothing.
use Prim.Native.Nat.{ℕ, zero, suc}
use mathlib.Core.Path.{◌≡◌, refl, ap, ap₂, sym, subst, ◌∙◌}
use mathlib.Core.Bool.{true, ◌&&◌}
use mathlib.Core.List.{List}
use lib.Ieee.Scale.{finite}
use Rattle.answer.specs.Refusals.{Check, refusal_of, accepted}
use Rattle.answer.proofs.Tests.{both}
use Rattle.answer.proofs.Answering.{is_new, twice}
use Rattle.bias.specs.declared.Bias.{Bias}
use Rattle.answer.specs.declared.change.Change.{Change}
use Rattle.answer.specs.Rows.{number_in}
use Rattle.bias.specs.Estimator.{finite_bias}
use Rattle.vector.specs.Vectors.{finite_vector}
use Rattle.bias.specs.Settings.{finite_settings}
use Rattle.remap.proofs.Composing.{undone}
use Rattle.offset.specs.Record.{mounting_at, vector_at}
use Rattle.offset.specs.Restore.{reframed_of, restore_checks, restored_of, RestoresBy}
use Rattle.offset.specs.Restore.{RestoredOnce, Retried, Untouched, OnlyTheOffset, SameMounting}
use Rattle.offset.proofs.Storable.{storable_finites}
use Rattle.offset.proofs.Accepting.{Good, good, good_passes}
use Rattle.offset.proofs.Turning.{finite_reframed}

-- ---- twice

module _ (b : Bias) (s : List ℕ) (m : ℕ) where
  restored_finite : finite_bias b ≡ true → finite_vector (vector_at s) ≡ true → finite_bias (restored_of b s m) ≡ true
  unfolding finite_bias
  restored_finite h k =
      let fixed = (both (finite_settings b.settings && finite b.filter_coefficient) (finite_vector b.offset) h).0 in
      ap₂ ◌&&◌ fixed (finite_reframed (vector_at s) (mounting_at s) m ∙ k)

  -- so the same record is good again, whatever its length and version
  pub good_again : (n v : ℕ) → Good n v s m (finite_bias b) → Good n v s m (finite_bias (restored_of b s m))
  good_again n v g =
      record {
        size = g.size;
        mark = g.mark;
        version = g.version;
        other = g.other;
        mounting = g.mounting;
        state = restored_finite g.state (storable_finites (vector_at s) g.floats);
        floats = g.floats;
      }

-- a reader that accepts a record again
pub once_by : (checks : Bias → List ℕ → ℕ → List Check)
    → ((b : Bias) (s : List ℕ) (m : ℕ) → refusal_of (checks b s m) ≡ 0 → refusal_of (checks (restored_of b s m) s m) ≡ 0) → RestoredOnce checks
once_by checks again b s m first second p q =
    twice (λ (x : Bias). checks x s m) (λ (x : Bias). restored_of x s m) (λ x e. again x s m e) (λ x. refl) b first.state second.state _ _ p q

pub restored_once : RestoredOnce restore_checks
restored_once = once_by restore_checks (λ b s m e. good_passes _ _ s m _ (good_again b s m _ _ (good _ _ s m (finite_bias b) e)))

-- ---- again, and only the offset, by whatever checks

module _ (checks : Bias → List ℕ → ℕ → List Check) where
  pub restored_offset : (b : Bias) (s : List ℕ) (m : ℕ) (r : Change Bias) → RestoresBy checks b s m r → number_in r.result ≡ 0
      → r.state.offset ≡ reframed_of (vector_at s) (mounting_at s) m
  restored_offset b s m r p z = ap (λ (x : Bias). x.offset) (is_new _ _ p.holds (sym p.number ∙ z))

  pub retried : Retried checks
  retried b c s m first second p q y z = restored_offset c s m second q z ∙ sym (restored_offset b s m first p y)

  untouched : (b : Bias) (s : List ℕ) (m n : ℕ) → Untouched b (accepted n (restored_of b s m) b)
  untouched b s m zero = record { settings = refl; coefficient = refl; timeout = refl; timer = refl }
  untouched b s m (suc k) = record { settings = refl; coefficient = refl; timeout = refl; timer = refl }

  pub only_the_offset : OnlyTheOffset checks
  only_the_offset b s m r p = subst (λ (x : Bias). Untouched b x) (sym p.holds) (untouched b s m (refusal_of (checks b s m)))

-- ---- under the recorded mounting

pub same_mounting : SameMounting
unfolding reframed_of
same_mounting b s r p z =
    let n = mounting_at s in
    let e = sym p.number ∙ z in
    restored_offset restore_checks b s n r p z ∙ (undone n (vector_at s) (good _ _ s n (finite_bias b) e).mounting).2
