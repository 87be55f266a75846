-- 01, "Bias": restoring under mounting B sets the estimator's offset to the recorded one turned by the inverse of the recorded mounting and then by B.
-- The record has plus zeros, so a restored zero's sign is the turning's.
use Rattle.std.specs.Prelude.{ℕ, ◌≡◌, List}
use Rattle.answer.specs.declared.change.Change.{Change}
use Rattle.answer.specs.Refusals.{Check}
use Rattle.answer.specs.Rows.{number_in}
use Rattle.answer.specs.Promises.{Changed}
use Rattle.vector.specs.declared.Vector.{Vector}
use Rattle.vector.specs.Mounting.{turn_of}
use Rattle.vector.specs.Vectors.{Singles}
use Rattle.remap.specs.Composition.{inverse_of}
use Rattle.bias.specs.declared.Bias.{Bias}
use Rattle.bias.specs.Estimator.{finite_bias, with_offset}
use Rattle.offset.specs.declared.Offset.{Offset}
use Rattle.offset.specs.Record.{mounting_at, vector_at, record_checks, record_length, record_version, Writes}
use Rattle.offset.specs.OneRecord.{plain_vector}

unfoldable pub reframed_of : Vector → ℕ → ℕ → Vector
reframed_of v from to = turn_of to (turn_of (inverse_of from) v)

-- either mounting number under 4, the floats of state and record under 5
abbrev pub restore_checks : Bias → List ℕ → ℕ → List Check
restore_checks b s m = record_checks record_length record_version s m (finite_bias b)

abbrev pub restored_of : Bias → List ℕ → ℕ → Bias
restored_of b s m = with_offset b (reframed_of (vector_at s) (mounting_at s) m)

-- what a reader leaves that has these checks, or others
abbrev pub RestoresBy : (Bias → List ℕ → ℕ → List Check) → Bias → List ℕ → ℕ → Change Bias → Type 0
RestoresBy checks b s m r = Changed (checks b s m) (restored_of b s m) b r.state (number_in r.result)

abbrev pub Restores : Bias → List ℕ → ℕ → Change Bias → Type 0
Restores b s m r = RestoresBy restore_checks b s m r

-- ---- the statements: of a reader, by its checks

-- restoring twice equals restoring once: from any state, any bytes, any mounting number
abbrev pub RestoredOnce : (Bias → List ℕ → ℕ → List Check) → Type 0
RestoredOnce checks =
    (b : Bias) (s : List ℕ) (m : ℕ) (first second : Change Bias) → RestoresBy checks b s m first → RestoresBy checks first.state s m second
    → (second.state ≡ first.state) × (number_in second.result ≡ number_in first.result)

-- a start that is tried again: whatever became of the estimator in between, the same record gives the same offset
abbrev pub Retried : (Bias → List ℕ → ℕ → List Check) → Type 0
Retried checks =
    (b c : Bias) (s : List ℕ) (m : ℕ) (first second : Change Bias) → RestoresBy checks b s m first → RestoresBy checks c s m second
    → number_in first.result ≡ 0 → number_in second.result ≡ 0 → second.state.offset ≡ first.state.offset

-- all but the offset stays, the settings too, whether the call is accepted or refused
pub record Untouched (b after : Bias) : Type 0 where
  pub settings : after.settings ≡ b.settings
  pub coefficient : after.filter_coefficient ≡ b.filter_coefficient
  pub timeout : after.timeout ≡ b.timeout
  pub timer : after.timer ≡ b.timer

abbrev pub OnlyTheOffset : (Bias → List ℕ → ℕ → List Check) → Type 0
OnlyTheOffset checks = (b : Bias) (s : List ℕ) (m : ℕ) (r : Change Bias) → RestoresBy checks b s m r → Untouched b r.state

-- ---- of this record

-- what was written is restored with plus zeros, turned: a zero is a minus zero where the turning changes a sign
abbrev pub WrittenRestored : Type 0
WrittenRestored =
    (o : Offset) (b : Bias) (s after : List ℕ) (m : ℕ) (r : Change Bias) → Singles o.vector → Writes o s after 0 → Restores b after m r
    → number_in r.result ≡ 0 → r.state.offset ≡ reframed_of (plain_vector o.vector) o.mounting m

-- saved in the frame that it is in, restored in that frame and saved again an offset gives the same bytes: it is turned no second time
abbrev pub SavedAgain : Type 0
SavedAgain =
    (v : Vector) (m : ℕ) (b : Bias) (s saved t again : List ℕ) (r : Change Bias) → Singles v → Writes (record { mounting = m; vector = v }) s saved 0
    → Restores b saved m r → number_in r.result ≡ 0 → Writes (record { mounting = m; vector = r.state.offset }) t again 0 → again ≡ saved

-- under the mounting that was recorded the offset is the recorded one, bit for bit
abbrev pub SameMounting : Type 0
SameMounting = (b : Bias) (s : List ℕ) (r : Change Bias) → Restores b s (mounting_at s) r → number_in r.result ≡ 0 → r.state.offset ≡ vector_at s
