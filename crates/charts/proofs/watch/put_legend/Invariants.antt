use Rattle.std.proofs.Common.{◌≡◌, drop}
use Rattle.charts.specs.Charts.{layers}
use Rattle.charts.specs.Watches.{all_explained}
use Rattle.charts.proofs.watch.put_legend.Given as goal

-- the signs that are left lead to the same chart
abbrev pub invariant-loop-sign : goal.invariant-loop-sign
invariant-loop-sign l = all_explained (layers l.chart) (drop l.sign-index l.signs) ≡ all_explained (layers l.initial.chart) l.signs
