-- A line that cannot be read, or not where it stands.
use Rattle.runner.specs.Views.{world}
use Rattle.runner.proofs.Steps.{unread, not_here}
use Rattle.runner.proofs.running.Running.take.Goals as goal

pub returns-in_err-ok_or : goal.returns-in_err-ok_or
returns-in_err-ok_or c =
    unread (world c.args.self.now) _ _ _ _ _ c.read.ensures c.ok_or.ensures.value c.in_err-ok_or.was c.from_residual.ensures.1

pub returns-in-SetUp : goal.returns-in-SetUp
returns-in-SetUp c =
    not_here (world c.args.self.now) _ _ _ _ _ c.read.ensures c.ok_or.ensures.value c.in_ok-ok_or.was c.in-SetUp.is
