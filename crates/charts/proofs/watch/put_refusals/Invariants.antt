use Rattle.std.proofs.Common.{◌≡◌, drop}
use Rattle.charts.specs.Charts.{layers}
use Rattle.charts.specs.Watches.{all_refused}
use Rattle.charts.proofs.watch.put_refusals.Given as goal

-- the refusals that are left lead to the same chart
abbrev pub invariant-loop-refusal : goal.invariant-loop-refusal
invariant-loop-refusal l = all_refused (layers l.chart) (drop l.refusal-index l.refusals) ≡ all_refused (layers l.initial.chart) l.refusals
