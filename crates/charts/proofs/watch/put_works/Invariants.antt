use Rattle.std.proofs.Common.{◌≡◌, drop}
use Rattle.charts.specs.Charts.{layers}
use Rattle.charts.specs.Watches.{all_worked}
use Rattle.charts.proofs.watch.put_works.Given as goal

-- the operations that are left lead to the same chart
abbrev pub invariant-loop-work : goal.invariant-loop-work
invariant-loop-work l = all_worked l.last (layers l.chart) (drop l.work-index l.works) ≡ all_worked l.last (layers l.initial.chart) l.works
