use Rattle.std.proofs.Common.{◌≡◌}
use Rattle.charts.specs.Charts.{layers}
use Rattle.charts.specs.Watches.{all_rowed}
use Rattle.charts.proofs.watch.put_rows.Given as goal

-- so many rows are put down
abbrev pub invariant-loop-row : goal.invariant-loop-row
invariant-loop-row l = layers l.chart ≡ all_rowed (layers l.initial.chart) l.row
