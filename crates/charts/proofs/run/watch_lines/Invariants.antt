use Rattle.std.proofs.Common.{◌≡◌, ◌+◌, List, length}
use Rattle.std.specs.Vec.{vec_items}
use Rattle.refusals.specs.declared.Refusal.{Refusal}
use Rattle.model.specs.Halls.{World}
use Rattle.runner.specs.Left.{left}
use Rattle.runner.specs.Texts.{Countable}
use Rattle.runner.specs.Views.{world}
use Rattle.charts.specs.Drawings.{Seeing}
use Rattle.charts.specs.Watches.{Seen, seen}
use Rattle.charts.proofs.run.watch_lines.Given as goal

-- what is seen of the lines that are left is seen of all lines
abbrev pub invariant-loop-line : goal.invariant-loop-line
invariant-loop-line l =
    Countable (left l.line-iterator.a l.line-iterator.b.start)
    × (l.line-iterator.b.start ≡ l.last + 1)
    × (l.last + length (left l.line-iterator.a l.line-iterator.b.start).lines ≡ l.fn.number + length (left l.fn.lines.a l.fn.lines.b.start).lines)
    × ((after : World) (new : List Refusal) (last : Seen) → Seeing (left l.line-iterator.a l.line-iterator.b.start) (world l.running) (vec_items l.refusals) (seen l.watch) after new last
    → Seeing (left l.fn.lines.a l.fn.lines.b.start) (world l.fn.running) (vec_items l.fn.refusals) (seen l.fn.watch) after new last)
