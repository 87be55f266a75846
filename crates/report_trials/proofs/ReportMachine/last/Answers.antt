-- A report prints within the slice.
use Rattle.text.proofs.Feeding.{within}
use Rattle.report_trials.proofs.ReportMachine.last.Goals as goal

pub returns : goal.returns
returns c = within _ _ _ _ _ c.last.ensures c.last.auto.out
