use Rattle.std.proofs.Common.{◌≡◌, ◌++◌, drop, map}
use Rattle.charts.specs.Marks.{mark_shape}
use Rattle.charts.proofs.chart.put.Given as goal

-- what is there, and the shapes of the marks that are left
abbrev pub invariant-loop-mark : goal.invariant-loop-mark
invariant-loop-mark l = l.shapes.items ++ map (mark_shape l.layout) (drop l.mark-index l.marks) ≡ l.initial.shapes.items ++ map (mark_shape l.layout) l.marks
