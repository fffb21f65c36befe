use Rattle.std.proofs.Common.{◌≡◌, drop}
use Rattle.charts.specs.Charts.{layers}
use Rattle.charts.specs.Watches.{all_lost}
use Rattle.charts.proofs.watch.put_losses.Given as goal

-- the entries that are left lead to the same chart
abbrev pub invariant-loop-number : goal.invariant-loop-number
invariant-loop-number l = all_lost l.number (layers l.chart) (drop l.number l.posted) ≡ all_lost 0 (layers l.initial.chart) l.posted
