use Rattle.std.proofs.Common.{◌≡◌, drop}
use Rattle.charts.specs.Charts.{layers}
use Rattle.charts.specs.Watches.{all_headed}
use Rattle.charts.proofs.watch.put_heads.Given as goal

-- the stays that are left lead to the same chart
abbrev pub invariant-loop-stay : goal.invariant-loop-stay
invariant-loop-stay l = all_headed l.marked l.rows (layers l.chart) (drop l.stay-index l.stays) ≡ all_headed l.marked l.rows (layers l.initial.chart) l.stays
