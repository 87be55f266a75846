-- A run of the estimator's calls: of each its checks, the state that it makes and what it answers, as the calls' promises have them.
use Rattle.std.specs.Prelude.{◌≡◌}
use Rattle.answer.specs.declared.change.Change.{Change}
use Rattle.answer.specs.declared.change.Reading.{Reading}
use Rattle.answer.specs.Rows.{number_in}
use Rattle.answer.specs.Runs.{answer, number, Outline, sets, answers, step_of}
use Rattle.vector.specs.declared.Vector.{Vector}
use Rattle.bias.specs.declared.BiasSettings.{BiasSettings}
use Rattle.bias.specs.declared.Bias.{Bias}
use Rattle.bias.specs.Estimator.{with_offset, with_settings, restarted, corrected_of, advanced_of}
use Rattle.bias.specs.Calls.{reading_checks, rates_of, offset_checks, state_checks, change_checks, Reads, SetsOffset, Restarts, SetsSettings}

pub data Call : Type 0 where
  reading : Vector → Call
  set_offset : Vector → Call
  restart : Call
  set_settings : BiasSettings → Call

abbrev pub outline_of : Bias → Call → Outline Bias
outline_of b (reading g) = answers (reading_checks b g) (advanced_of b (corrected_of b g)) (rates_of (corrected_of b g))
outline_of b (set_offset v) = sets (offset_checks b v) (with_offset b v)
outline_of b restart = sets (state_checks b) (restarted b)
outline_of b (set_settings s) = sets (change_checks b s) (with_settings b s)

-- a change leaves its state and tells its number
abbrev pub Leaves : Bias → Call → Change Bias → Type 0
Leaves b c r = step_of outline_of b c ≡ record { state = r.state; told = number (number_in r.result) }

-- what the code's calls leave and tell is the step: the promises say so
pub record Covered : Type 0 where
  pub of_reading : (b : Bias) (g : Vector) (r : Reading Bias) → Reads b g r
      → step_of outline_of b (reading g) ≡ record { state = r.state; told = answer r.answer }
  pub of_offset : (b : Bias) (v : Vector) (r : Change Bias) → SetsOffset b v r → Leaves b (set_offset v) r
  pub of_restart : (b : Bias) (r : Change Bias) → Restarts b r → Leaves b restart r
  pub of_settings : (b : Bias) (s : BiasSettings) (r : Change Bias) → SetsSettings b s r → Leaves b (set_settings s) r
