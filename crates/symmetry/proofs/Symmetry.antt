-- The estimator does not care how the sensor is mounted: `Symmetric` holds. Assumes nothing.
use mathlib.Core.Path.{◌≡◌, refl, ap, ap₂, sym, ◌∙◌, subst}
use mathlib.Core.Bool.{Bool, true, false, not, ◌&&◌, cond, true≢false, false≢true, and-false}
use mathlib.Core.List.{List, [], ◌∷◌, map}
use Prim.Native.Nat.{ℕ, zero, suc, ◌+◌}
use lib.Dec.{T, ltb, leb}
use lib.Ieee.{Float}
use lib.Ieee.Scale.{finite}
use Rattle.answer.specs.Refusals.{Check, check, refusal_of}
use Rattle.answer.specs.Runs.{Told, Step, changed_by, moved_by, step_of, run_of}
use Rattle.answer.proofs.Answering.{fails}
use Rattle.vector.specs.declared.Vector.{Vector}
use Rattle.vector.specs.Vectors.{finite_vector, exceeds_of, mul_of}
use Rattle.vector.specs.Mounting.{Mounting, mounting_of, turn}
use Rattle.vector.specs.Turned.{TurnedBy}
use Rattle.vector.proofs.Turning.{permutes, each_permutes, turned_turn, turned_zero, turned_add, turned_sub, turned_mul, finite_turned, exceeds_turned}
use Rattle.bias.specs.declared.BiasSettings.{BiasSettings}
use Rattle.bias.specs.declared.Bias.{Bias}
use Rattle.bias.specs.Settings.{finite_settings}
use Rattle.bias.specs.Estimator.{finite_bias, with_timer, with_offset, with_settings, corrected_of, advanced_of}
use Rattle.bias.specs.Calls.{deriving_checks, reading_checks, rates_of, offset_checks, change_checks, state_checks}
use Rattle.symmetry.specs.Runs.{Call, reading, set_offset, restart, set_settings, outline_of}
use Rattle.symmetry.specs.Symmetry.{turn_call, Alike, AlikeTold, both_rates, both_refused, both_number, AlikeStep, AlikeRun, none, next, Symmetric}

-- two choices by equal tests
choose : {A : Type 0} (R : A → A → Type 0) (p q : Bool) → q ≡ p → {x x' y y' : A} → R x x' → R y y' → R (cond p x y) (cond q x' y')
choose R true true e h k = h
choose R false false e h k = k
choose R true false e h k = absurd (false≢true e)
choose R false true e h k = absurd (true≢false e)

module _ (m : Mounting) (t : T (permutes m)) where
  with_timers : {a b : Bias} → Alike m a b → (n k : ℕ) → k ≡ n → Alike m (with_timer a n) (with_timer b k)
  with_timers h n k e = record { settings = h.settings; coefficient = h.coefficient; timeout = h.timeout; timer = e; offset = h.offset }

  with_offsets : {a b : Bias} → Alike m a b → {v w : Vector} → TurnedBy m v w → Alike m (with_offset a v) (with_offset b w)
  with_offsets h o = record { settings = h.settings; coefficient = h.coefficient; timeout = h.timeout; timer = h.timer; offset = o }

  with_settings_lem : {a b : Bias} → Alike m a b → (s : BiasSettings) → Alike m (with_settings a s) (with_settings b s)
  with_settings_lem h s = record { settings = refl; coefficient = refl; timeout = refl; timer = h.timer; offset = h.offset }

  finite_states : {a b : Bias} → Alike m a b → finite_bias b ≡ finite_bias a
  unfolding finite_bias
  finite_states h = ap₂ ◌&&◌ (ap₂ ◌&&◌ (ap finite_settings h.settings) (ap finite h.coefficient)) (finite_turned m t h.offset)

  advances : {a b : Bias} → Alike m a b → {c d : Vector} → TurnedBy m c d → Alike m (advanced_of a c) (advanced_of b d)
  unfolding advanced_of
  advances {a} {b} h {c} {d} k =
      let scaled = turned_mul m a.filter_coefficient k in
      let grown = subst (λ (f : Float). TurnedBy m (mul_of c a.filter_coefficient) (mul_of d f)) (sym h.coefficient) scaled in
      choose (Alike m) _ _
      (ap (λ (s : BiasSettings). exceeds_of d s.stationary_threshold) h.settings ∙ exceeds_turned a.settings.stationary_threshold m t k)
      (with_timers h 0 0 refl)
      (choose (Alike m) _ _ (ap₂ ltb h.timer h.timeout)
      (with_timers h (a.timer + 1) (b.timer + 1) (ap (λ (n : ℕ). n + 1) h.timer))
      (with_offsets h (turned_add m h.offset grown)))

  -- ---- one call

  alike : {a b : Bias} → Alike m a b → {o p : Told} → AlikeTold m o p → AlikeStep m (record { state = a; told = o }) (record { state = b; told = p })
  alike h o = record { state = h; active = ap₂ leb h.timeout h.timer; told = o }

  abbrev read_by : Bias → Vector → ℕ → Step Bias
  read_by b g n = moved_by (rates_of (corrected_of b g)) (advanced_of b (corrected_of b g)) b n

  read_alike : {a b : Bias} → Alike m a b → {g f : Vector} → TurnedBy m g f → (n : ℕ) → AlikeStep m (read_by a g n) (read_by b f n)
  read_alike h k zero = let c = turned_sub m k h.offset in alike (advances h c) (both_rates c)
  read_alike h k (suc n) = alike h (both_refused (suc n))

  change_alike : {a b x y : Bias} → Alike m a b → Alike m x y → (n : ℕ) → AlikeStep m (changed_by x a n) (changed_by y b n)
  change_alike h k zero = alike k (both_number 0)
  change_alike h k (suc n) = alike h (both_number (suc n))

  -- the same checks fail
  readings : {a b : Bias} → Alike m a b → {g f : Vector} → TurnedBy m g f → refusal_of (reading_checks b f) ≡ refusal_of (reading_checks a g)
  readings {a} {b} h {g} {f} k =
      let c = turned_sub m k h.offset in
      ap₂ (λ (p q : Bool). refusal_of (check 5 (not p) ∷ check 7 (not q) ∷ []))
      (ap₂ ◌&&◌ (finite_states h) (finite_turned m t k))
      (ap₂ ◌&&◌ (finite_states (advances h c)) (finite_turned m t c))

  offsets : {a b : Bias} → Alike m a b → {v w : Vector} → TurnedBy m v w → refusal_of (offset_checks b w) ≡ refusal_of (offset_checks a v)
  offsets h k = ap (λ (p : Bool). refusal_of (check 5 (not p) ∷ [])) (ap₂ ◌&&◌ (finite_states h) (finite_turned m t k))

  settings : {a b : Bias} → Alike m a b → (s : BiasSettings) → refusal_of (change_checks b s) ≡ refusal_of (change_checks a s)
  settings h s = ap (λ (p : Bool). refusal_of (check 5 (not (p && finite_settings s)) ∷ deriving_checks s)) (finite_states h)

  -- a vector that is not finite goes in as it is, and is refused in both runs
  not_taken : (b : Bias) (v : Vector) (cs : List Check) → finite_vector v ≡ false → refusal_of (check 5 (not (finite_bias b && finite_vector v)) ∷ cs) ≡ 5
  not_taken b v cs e = fails 5 cs (rw (e, and-false))

  one_step : {a b : Bias} → Alike m a b → (c : Call) → AlikeStep m (step_of outline_of a c) (step_of outline_of b (turn_call m c))
  one_step {a} {b} h (reading g) = go (finite_vector g) refl
    where
      go : (p : Bool) → finite_vector g ≡ p → AlikeStep m (step_of outline_of a (reading g)) (step_of outline_of b (reading (cond p (turn m g) g)))
      go true e = rw (readings h (turned_turn m g)) (read_alike h (turned_turn m g) (refusal_of (reading_checks a g)))
      go false e = rw (not_taken a g _ e, not_taken b g _ e) (alike h (both_refused 5))
  one_step {a} {b} h (set_offset v) = go (finite_vector v) refl
    where
      go : (p : Bool) → finite_vector v ≡ p → AlikeStep m (step_of outline_of a (set_offset v)) (step_of outline_of b (set_offset (cond p (turn m v) v)))
      go true e = rw (offsets h (turned_turn m v)) (change_alike h (with_offsets h (turned_turn m v)) (refusal_of (offset_checks a v)))
      go false e = rw (not_taken a v [] e, not_taken b v [] e) (alike h (both_number 5))
  one_step {a} {b} h restart =
      rw (ap (λ (p : Bool). refusal_of (check 5 (not p) ∷ [])) (finite_states h))
      (change_alike h (with_offsets (with_timers h 0 0 refl) (turned_zero m)) (refusal_of (state_checks a)))
  one_step {a} {b} h (set_settings s) =
      rw (settings h s) (change_alike h (with_settings_lem h s) (refusal_of (change_checks a s)))

  every_run : {a b : Bias} → Alike m a b → (cs : List Call) → AlikeRun m (run_of outline_of a cs) (run_of outline_of b (map (turn_call m) cs))
  every_run {a = a} {b = b} h [] = none
  every_run {a = a} {b = b} h (c ∷ cs) =
      next (one_step h c) (every_run {a = (step_of outline_of a c).state} {b = (step_of outline_of b (turn_call m c)).state} (one_step h c).state cs)

pub symmetric : Symmetric
symmetric n below s e cs =
    every_run (mounting_of n) (each_permutes n)
    (record { settings = refl; coefficient = refl; timeout = refl; timer = refl; offset = turned_zero (mounting_of n) }) cs
