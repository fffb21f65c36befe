use Rattle.std.proofs.Common.{◌≡◌}
use Rattle.register.specs.Views.{settings}
use Rattle.runner.specs.Openings.{marks}
use Rattle.runner.proofs.opening.mark.Given as goal

-- what is left to mark leads to what was asked for
abbrev pub invariant-loop-number : goal.invariant-loop-number
invariant-loop-number l = marks l.number l.set.0 (settings l.setup) ≡ marks 64 l.set.0 (settings l.fn.setup)
