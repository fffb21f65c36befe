use Rattle.std.proofs.Common.{◌≡◌, ◌++◌, drop}
use Rattle.charts.specs.Watches.{works_after}
use Rattle.charts.proofs.watch.works_after.Given as goal

-- what is there, and the operations that are left
abbrev pub invariant-loop-number : goal.invariant-loop-number
invariant-loop-number l = l.works.items ++ works_after l.known l.row l.number (drop l.number l.log) ≡ works_after l.known l.row 0 l.log
