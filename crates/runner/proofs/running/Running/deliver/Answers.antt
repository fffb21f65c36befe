-- One call, and its answer is the line's.
use Rattle.std.proofs.Common.{refl}
use Rattle.runner.proofs.Steps.{ends}
use Rattle.runner.proofs.running.Running.deliver.Goals as goal

pub returns : goal.returns
returns c = ends c.deliver.result (record { step = c.deliver.ensures; only = refl })
