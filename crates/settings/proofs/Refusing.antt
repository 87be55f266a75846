-- The rows of the settings ascend, so the law of the refusal table holds of them. Assumes nothing.
use Rattle.answer.specs.Refusals.{ascends}
use Rattle.answer.proofs.Table.{by_the_table}
use Rattle.settings.specs.Config.{settings_checks, ExactlyWhen}

pub exactly_when : ExactlyWhen
unfolding ascends
exactly_when s = by_the_table (settings_checks s) tt
