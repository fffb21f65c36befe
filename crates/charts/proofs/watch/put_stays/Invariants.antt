use Rattle.std.proofs.Common.{◌≡◌, drop}
use Rattle.charts.specs.Charts.{layers}
use Rattle.charts.specs.Watches.{all_stayed}
use Rattle.charts.proofs.watch.put_stays.Given as goal

-- the stays that are left lead to the same chart
abbrev pub invariant-loop-stay : goal.invariant-loop-stay
invariant-loop-stay l = all_stayed l.until (layers l.chart) (drop l.stay-index l.stays) ≡ all_stayed l.until (layers l.initial.chart) l.stays
