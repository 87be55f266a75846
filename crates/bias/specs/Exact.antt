-- 01, "The refusal table": of every call here each number is given exactly when its row says.
use Rattle.answer.specs.Refusals.{Exactly}
use Rattle.vector.specs.declared.Vector.{Vector}
use Rattle.bias.specs.declared.BiasSettings.{BiasSettings}
use Rattle.bias.specs.declared.Bias.{Bias}
use Rattle.bias.specs.Calls.{settings_checks, reading_checks, offset_checks, state_checks, change_checks}

pub record ExactlyWhen : Type 0 where
  -- a start, and the number of settings alone
  pub start : (s : BiasSettings) → Exactly (settings_checks s)
  pub reading : (b : Bias) (g : Vector) → Exactly (reading_checks b g)
  pub set_offset : (b : Bias) (v : Vector) → Exactly (offset_checks b v)
  pub set_settings : (b : Bias) (s : BiasSettings) → Exactly (change_checks b s)
  -- restart and the three calls that read
  pub of_the_state : (b : Bias) → Exactly (state_checks b)
