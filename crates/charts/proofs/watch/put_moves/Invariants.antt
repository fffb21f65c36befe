use Rattle.std.proofs.Common.{◌≡◌, drop}
use Rattle.charts.specs.Charts.{layers}
use Rattle.charts.specs.Watches.{all_moved}
use Rattle.charts.proofs.watch.put_moves.Given as goal

-- the moves that are left lead to the same chart
abbrev pub invariant-loop-step : goal.invariant-loop-step
invariant-loop-step l = all_moved l.row (layers l.chart) (drop l.step-index l.moves) ≡ all_moved l.row (layers l.initial.chart) l.moves
