-- From a fresh estimator every state is finite: `StaysFinite` holds. Assumes nothing.
use mathlib.Core.Path.{◌≡◌, refl, ap₂}
use mathlib.Core.Bool.{Bool, true, ◌&&◌}
use mathlib.Core.List.{[]}
use lib.Ieee.{of_bits}
use lib.Ieee.Scale.{finite}
use Rattle.answer.specs.Refusals.{refusal_of}
use Rattle.answer.specs.Runs.{step_of}
use Rattle.answer.proofs.Tests.{both}
use Rattle.answer.proofs.Answering.{passed}
use Rattle.answer.proofs.Running.{settled, kept}
use Rattle.vector.specs.declared.Vector.{Vector}
use Rattle.vector.specs.Vectors.{finite_vector, zero_vector}
use Rattle.bias.specs.declared.BiasSettings.{BiasSettings}
use Rattle.bias.specs.declared.Bias.{Bias}
use Rattle.bias.specs.Settings.{finite_settings, above_zero, coefficient_of}
use Rattle.bias.specs.Estimator.{fresh_of, finite_bias, with_offset, with_settings, restarted, corrected_of, advanced_of}
use Rattle.bias.specs.Calls.{deriving_checks, settings_checks, reading_checks, offset_checks, change_checks, state_checks}
use Rattle.symmetry.specs.Runs.{Call, reading, set_offset, restart, set_settings, outline_of}
use Rattle.symmetry.specs.Reached.{Finite, StaysFinite}

-- ---- what a call makes

-- settings and coefficient
abbrev fixed : Bias → Bool
fixed b = finite_settings b.settings && finite b.filter_coefficient

with_offset_lem : (b : Bias) (v : Vector) → Finite b → finite_vector v ≡ true → Finite (with_offset b v)
unfolding finite_bias
with_offset_lem b v h k = ap₂ ◌&&◌ (both (fixed b) (finite_vector b.offset) h).0 k

zero_finite : finite_vector zero_vector ≡ true
unfolding finite_vector of_bits
zero_finite = refl

restarted_finite : (b : Bias) → Finite b → Finite (restarted b)
unfolding finite_bias
restarted_finite b h = ap₂ ◌&&◌ (both (fixed b) (finite_vector b.offset) h).0 zero_finite

-- settings that are refused for nothing have a finite coefficient
coefficient_finite : (s : BiasSettings) → refusal_of (deriving_checks s) ≡ 0 → finite (coefficient_of s) ≡ true
coefficient_finite s e = (passed 6 (finite (coefficient_of s)) [] (passed 5 (above_zero s) _ e).1).0

fresh_finite : (s : BiasSettings) → refusal_of (settings_checks s) ≡ 0 → Finite (fresh_of s)
unfolding finite_bias
fresh_finite s e =
    let p = passed 4 (finite_settings s) (deriving_checks s) e in
    ap₂ ◌&&◌ (ap₂ ◌&&◌ p.0 (coefficient_finite s p.1)) zero_finite

with_settings_lem : (b : Bias) (s : BiasSettings) → Finite b → refusal_of (change_checks b s) ≡ 0 → Finite (with_settings b s)
unfolding finite_bias
with_settings_lem b s h e =
    let p = passed 4 (finite_bias b && finite_settings s) (deriving_checks s) e in
    let given = both (finite_bias b) (finite_settings s) p.0 in
    ap₂ ◌&&◌ (ap₂ ◌&&◌ given.1 (coefficient_finite s p.1)) (both (fixed b) (finite_vector b.offset) h).1

advanced_finite : (b : Bias) (g : Vector) → refusal_of (reading_checks b g) ≡ 0 → Finite (advanced_of b (corrected_of b g))
advanced_finite b g e =
    let c = corrected_of b g in
    let made = finite_bias (advanced_of b c) && finite_vector c in
    (both (finite_bias (advanced_of b c)) (finite_vector c) (passed 6 made [] (passed 4 (finite_bias b && finite_vector g) _ e).1).0).0

-- ---- a run

pub after_call : (b : Bias) → Finite b → (c : Call) → Finite (step_of outline_of b c).state
after_call b h (reading g) = settled Finite (refusal_of (reading_checks b g)) _ b h (advanced_finite b g)
after_call b h (set_offset v) =
    settled Finite (refusal_of (offset_checks b v)) _ b h
    (λ e. with_offset_lem b v h (both (finite_bias b) (finite_vector v) (passed 4 (finite_bias b && finite_vector v) [] e).0).1)
after_call b h restart = settled Finite (refusal_of (state_checks b)) _ b h (λ e. restarted_finite b h)
after_call b h (set_settings s) = settled Finite (refusal_of (change_checks b s)) _ b h (with_settings_lem b s h)

pub stays_finite : StaysFinite
stays_finite s e cs =
    let fresh = fresh_finite s e in
    (fresh, kept Bias Call outline_of Finite after_call (fresh_of s) fresh cs)
