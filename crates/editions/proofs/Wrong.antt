-- Wrong answers that the promises refuse, each by evaluation. Assumes nothing.
use Prim.Native.Nat.{ℕ}
use native.Mathlib.Omega.{arith}
use mathlib.Core.Path.{ap, refl}
use mathlib.Core.Bool.{cond}
use mathlib.Core.List.{List, [], ◌∷◌, ◌++◌}
use lib.ListN.{get_or, take, set}
use lib.Ieee.{Float, nan, inf, fin, lt, mul, div, neg, of_bits, to_bits}
use Rattle.std.specs.declared.result.Result.TheVariants.{Ok, Err}
use Rattle.answer.specs.Refusals.{refusal_of, accepted}
use Rattle.answer.specs.Rows.{refusal_at}
use Rattle.number.specs.Same.{is_minus_zero}
use Rattle.number.proofs.Apart.{unlike, one, half, minus_nought}
use Rattle.vector.specs.Vectors.{vector, finite_vector}
use Rattle.vector.specs.Mounting.{mounting_of}
use Rattle.remap.specs.First.{first}
use Rattle.remap.specs.Names.{name_of, same}
use Rattle.remap.specs.Composition.{compose_of, inverse_of}
use Rattle.bias.specs.declared.BiasSettings.{BiasSettings}
use Rattle.bias.specs.declared.Bias.{Bias}
use Rattle.answer.specs.declared.change.Change.{Change}
use Rattle.bias.specs.Settings.{finite_settings, coefficient_of}
use Rattle.bias.specs.Estimator.{finite_bias, with_timer, with_offset}
use Rattle.wire.specs.Wire.{put_bits}
use Rattle.offset.specs.Record.{has_mark, vector_at, storable, storable_vector, record_checks}
use Rattle.offset.specs.Restore.{reframed_of}
use Rattle.offset.proofs.Bench.{minus_two, row, running}
use Rattle.editions.specs.Edition.{settings_at}
use Rattle.editions.specs.Move.{MovesUp, MovesDown}
use Rattle.editions.specs.Restore.{Restores}
use Rattle.editions.proofs.Bench.{given, long, rated, cut}

abbrev blank : List ℕ
blank = 0 ∷ 0 ∷ 0 ∷ 0 ∷ 0 ∷ 0 ∷ 0 ∷ 0 ∷ 0 ∷ 0 ∷ 0 ∷ 0 ∷ 0 ∷ 0 ∷ 0 ∷ 0 ∷ 0 ∷ 0 ∷ []

abbrev blank34 : List ℕ
blank34 = blank ++ take 16 blank

abbrev with_rate : Float → BiasSettings
with_rate x =
    record {
      sample_rate = x;
      cutoff_frequency = given.cutoff_frequency;
      stationary_threshold = given.stationary_threshold;
      stationary_period = given.stationary_period;
    }

abbrev with_cutoff : Float → BiasSettings
with_cutoff x =
    record {
      sample_rate = given.sample_rate;
      cutoff_frequency = x;
      stationary_threshold = given.stationary_threshold;
      stationary_period = given.stationary_period;
    }

-- the settings as the estimator has them: rate, threshold, period, cutoff
abbrev reordered : List ℕ
reordered = put_bits (put_bits (put_bits long 22 0x40400000) 26 0x40A00000) 30 0x3CA3D70A

abbrev at : ℕ → List ℕ → ℕ
at i l = get_or l i 0

-- the settings in another order; version 1 still; nothing written; settings unchecked; a refused move that writes; into 18 bytes;
-- a minus zero among the settings written as a plus zero
pub of_move_up
    : (MovesUp row given blank34 reordered 0 → ⊥)
    × (MovesUp row given blank34 (set long 3 1) 0 → ⊥)
    × (MovesUp row given blank34 blank34 0 → ⊥)
    × ((after : List ℕ) → MovesUp row (with_rate minus_nought) blank34 after 0 → ⊥)
    × (MovesUp row (with_rate minus_nought) blank34 long 6 → ⊥)
    × (MovesUp row given blank (take 18 long) 0 → ⊥)
    × (MovesUp row (with_cutoff minus_nought) blank34 (cut 0) 0 → ⊥)
unfolding refusal_of record_checks has_mark vector_at storable_vector storable is_minus_zero finite_settings coefficient_of of_bits to_bits lt mul div
of_move_up = (
  λ h. unlike 0x00 0x0A refl (ap (at 22) h.holds),
  λ h. unlike 1 2 refl (ap (at 3) h.holds),
  λ h. unlike 0 0x47 refl (ap (at 0) h.holds),
  λ after h. let e = h.number in omega arith,
  λ h. unlike 0x47 0 refl (ap (at 0) h.holds),
  λ h. let e = h.number in omega arith,
  λ h. unlike 0 0x80 refl (ap (at 25) h.holds),
)

-- version 2 still; nothing written; version 1 taken at 34 bytes; settings unchecked; a refused move that writes; into 34 bytes
pub of_move_down
    : (MovesDown long blank (set row 3 2) 0 → ⊥)
    × (MovesDown long blank blank 0 → ⊥)
    × ((after : List ℕ) → MovesDown (set long 3 1) blank after 0 → ⊥)
    × ((after : List ℕ) → MovesDown (rated 0) blank after 0 → ⊥)
    × (MovesDown (rated 0) blank row 6 → ⊥)
    × (MovesDown long blank34 long 0 → ⊥)
unfolding refusal_of record_checks has_mark vector_at storable_vector storable is_minus_zero finite_settings coefficient_of settings_at of_bits to_bits lt mul
    div
of_move_down = (
  λ h. unlike 2 1 refl (ap (at 3) h.holds),
  λ h. unlike 0 0x47 refl (ap (at 0) h.holds),
  λ after h. let e = h.number in omega arith,
  λ after h. let e = h.number in omega arith,
  λ h. unlike 0x47 0 refl (ap (at 0) h.holds),
  λ h. let e = h.number in omega arith,
)

-- by a number, 0 of no refusal
abbrev gives : Bias → ℕ → Change Bias
gives b n = record { state = b; result = accepted n (Ok tt) (Err (refusal_at n)) }

-- the offset of the row under mounting 0
abbrev restored : Bias
restored = with_offset running (vector half one minus_two)

-- with the settings of the record
abbrev resettled : Bias
resettled =
    record {
      settings = given;
      filter_coefficient = restored.filter_coefficient;
      timeout = restored.timeout;
      timer = restored.timer;
      offset = restored.offset;
    }

-- 1 for a number with a minus sign
abbrev minus : Float → ℕ
minus nan = 0
minus (inf s) = 0
minus (fin s m e) = cond s 1 0

-- a number without its powers of two, by which 100 and 1 differ
abbrev odd : Float → ℕ
odd nan = 0
odd (inf s) = 0
odd (fin s m e) = m

-- the estimator's settings set; settings unchecked; version 1 taken at 34 bytes; the first edition refused; the offset as it was recorded;
-- the timer cleared; a refused call that restores
pub of_restore
    : (Restores running long 0 (gives resettled 0) → ⊥)
    × ((b : Bias) → Restores running (rated 0) 0 (gives b 0) → ⊥)
    × ((b : Bias) → Restores running (set long 3 1) 0 (gives b 0) → ⊥)
    × ((b : Bias) → Restores running row 0 (gives b 1) → ⊥)
    × (Restores running long 0 (gives (with_offset running (vector one minus_two half)) 0) → ⊥)
    × (Restores running long 0 (gives (with_timer restored 0) 0) → ⊥)
    × (Restores running (rated 1) 0 (gives restored 7) → ⊥)
unfolding refusal_of record_checks has_mark vector_at storable_vector storable is_minus_zero finite_vector finite_bias finite_settings coefficient_of
    settings_at reframed_of inverse_of compose_of first same name_of mounting_of neg of_bits lt mul div
of_restore = (
  λ h. unlike 25 1 refl (ap (λ (b : Bias). odd b.settings.sample_rate) h.holds),
  λ b h. let e = h.number in omega arith,
  λ b h. let e = h.number in omega arith,
  λ b h. let e = h.number in omega arith,
  λ h. unlike 1 0 refl (ap (λ (b : Bias). minus b.offset.y) h.holds),
  λ h. unlike 0 7 refl (ap (λ (b : Bias). b.timer) h.holds),
  λ h. unlike 1 0 refl (ap (λ (b : Bias). minus b.offset.z) h.holds),
)
