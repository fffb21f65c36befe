use Rattle.std.proofs.Common.{◌≡◌}
use Rattle.charts.specs.Watches.{parties_below}
use Rattle.charts.proofs.watch.parties.Given as goal

-- the parties below this number are put down
abbrev pub invariant-loop-number : goal.invariant-loop-number
invariant-loop-number l = l.parties.items ≡ parties_below l.layout l.number
