-- 02's P8: the new reader takes both editions: it checks the whole record and restores the offset alone, so twice still equals once.
use Rattle.std.specs.Prelude.{ℕ, ◌≡◌, List, ◌⊎◌, length}
use Rattle.answer.specs.Refusals.{Check, refusal_of}
use Rattle.bias.specs.declared.Bias.{Bias}
use Rattle.bias.specs.declared.BiasSettings.{BiasSettings}
use Rattle.answer.specs.declared.change.Change.{Change}
use Rattle.bias.specs.Estimator.{finite_bias}
use Rattle.wire.specs.Wire.{u16_at}
use Rattle.offset.specs.Restore as offset
use Rattle.editions.specs.Edition.{second, edition_of, edition_checks}
use Rattle.editions.specs.Move.{MovesUp, MovesDown, SingleSettings}

abbrev pub restore_checks : Bias → List ℕ → ℕ → List Check
restore_checks b s m = edition_checks (edition_of (length s)) s m (finite_bias b)

-- the offset that is set is that of the 18 bytes, as it was
abbrev pub Restores : Bias → List ℕ → ℕ → Change Bias → Type 0
Restores b s m r = offset.RestoresBy restore_checks b s m r

-- ---- the statements

-- what holds of the first edition's reader holds of this one
pub record StillHolds : Type 0 where
  -- twice equals once, from any state, any bytes, any mounting number
  pub once : offset.RestoredOnce restore_checks
  -- a start that is tried again gives the same offset
  pub retried : offset.Retried restore_checks
  -- the estimator's settings stay, and all else but the offset
  pub only_the_offset : offset.OnlyTheOffset restore_checks

-- 1 when the length is neither 18 nor 34, and what is accepted has version 1 at 18, 2 at 34
pub record ByTheLength (b : Bias) (s : List ℕ) (m : ℕ) : Type 0 where
  pub neither : (length s ≡ 18 → ⊥) → (length s ≡ 34 → ⊥) → refusal_of (restore_checks b s m) ≡ 1
  pub either : refusal_of (restore_checks b s m) ≡ 0 → ((length s ≡ 18) × (u16_at s 3 ≡ 1)) ⊎ ((length s ≡ 34) × (u16_at s 3 ≡ 2))

abbrev pub TwoEditions : Type 0
TwoEditions = (b : Bias) (s : List ℕ) (m : ℕ) → ByTheLength b s m

-- bytes that are no record of the second edition are restored, or refused, as they were by the first's reader
abbrev pub AsBefore : Type 0
AsBefore = (b : Bias) (s : List ℕ) (m : ℕ) (r old : Change Bias) → (length s ≡ second.layout.size → ⊥) → Restores b s m r → offset.Restores b s m old → r ≡ old

-- a record that was moved is restored as it was before, or refused with the same number
pub record SameOnceMoved : Type 0 where
  pub up : (s : List ℕ) (p : BiasSettings) (t after : List ℕ) (b : Bias) (m : ℕ) (r moved : Change Bias) → SingleSettings p
      → MovesUp s p t after 0 → Restores b s m r → Restores b after m moved → moved ≡ r
  pub down : (s t after : List ℕ) (b : Bias) (m : ℕ) (r moved : Change Bias)
      → MovesDown s t after 0 → Restores b s m r → Restores b after m moved → moved ≡ r
