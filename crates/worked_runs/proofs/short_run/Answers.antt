-- The short run, computed.
use Rattle.worked_runs.proofs.Scripts.{short_run}
use Rattle.worked_runs.proofs.short_run.Goals as goal

pub returns : goal.returns
returns c = short_run
