-- At every record kind.
use Rattle.worked_runs.proofs.Lists.{every_list}
use Rattle.worked_runs.proofs.every_list_of_calls_runs.Goals as goal

pub returns : goal.returns
returns g c = every_list _
