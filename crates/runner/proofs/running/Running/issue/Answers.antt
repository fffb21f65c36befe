-- One call, and its answer is the line's.
use Rattle.std.proofs.Common.{refl}
use Rattle.stores.specs.Cabinets.{cabinet_shelf}
use Rattle.runner.proofs.Steps.{ends}
use Rattle.runner.proofs.running.Running.issue.Goals as goal

pub returns : goal.returns
returns c =
    let shelf = cabinet_shelf c.args.self.now.store in
    ends c.issue.result (record { step = c.issue.ensures shelf; only = refl })
