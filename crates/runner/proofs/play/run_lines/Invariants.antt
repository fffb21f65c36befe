use Rattle.std.proofs.Common.{List}
use Rattle.std.specs.Vec.{vec_items}
use Rattle.refusals.specs.declared.Refusal.{Refusal}
use Rattle.model.specs.Halls.{World}
use Rattle.runner.specs.Left.{left}
use Rattle.runner.specs.Texts.{Countable}
use Rattle.runner.specs.Turns.{Played}
use Rattle.runner.specs.Views.{world}
use Rattle.runner.proofs.play.run_lines.Given as goal

-- what the lines that are left come to is what all lines come to
abbrev pub invariant-loop-line : goal.invariant-loop-line
invariant-loop-line l =
    Countable (left l.line-iterator.a l.line-iterator.b.start)
    × ((after : World) (new : List Refusal) → Played (left l.line-iterator.a l.line-iterator.b.start) (world l.running) (vec_items l.refusals) after new
    → Played (left l.fn.lines.a l.fn.lines.b.start) (world l.fn.running) (vec_items l.fn.refusals) after new)
