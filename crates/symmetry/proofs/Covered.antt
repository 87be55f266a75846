-- The code's calls are the steps of a run: `Covered` holds. Assumes nothing.
use Rattle.answer.specs.Rows.{number_in}
use Rattle.answer.specs.Runs.{answer, number}
use Rattle.answer.proofs.Running.{covered as by-promise}
use Rattle.bias.specs.declared.Bias.{Bias}
use Rattle.symmetry.specs.Runs.{reading, set_offset, restart, set_settings, outline_of, Covered}

pub covered : Covered
covered =
    record {
      of_reading = λ b g r p. by-promise Bias b (outline_of b (reading g)) r.state (answer r.answer) p;
      of_offset = λ b v r p. by-promise Bias b (outline_of b (set_offset v)) r.state (number (number_in r.result)) p;
      of_restart = λ b r p. by-promise Bias b (outline_of b restart) r.state (number (number_in r.result)) p;
      of_settings = λ b s r p. by-promise Bias b (outline_of b (set_settings s)) r.state (number (number_in r.result)) p;
    }
