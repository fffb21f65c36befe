use Rattle.std.proofs.Common.{◌≡◌, ◌++◌, List}
use Rattle.std.specs.Vec.{vec_items}
use Rattle.refusals.specs.declared.Refusal.{Refusal}
use Rattle.runner.specs.Left.{left}
use Rattle.runner.specs.Texts.{Countable}
use Rattle.runner.specs.Outputs.{unread}
use Rattle.runner.proofs.play.refuse_lines.Given as goal

-- the refusals of the lines that are left, behind those so far, are those of all lines
abbrev pub invariant-loop-number : goal.invariant-loop-number
invariant-loop-number l =
    Countable (left l.fn.lines.a l.fn.lines.b.start)
    → Countable (left l.number-iterator.a l.number-iterator.b.start)
    × ((new : List Refusal) → new ≡ vec_items l.refusals ++ unread l.number-iterator.b.start (left l.number-iterator.a l.number-iterator.b.start).lines
    → new ≡ vec_items l.fn.refusals ++ unread l.fn.lines.b.start (left l.fn.lines.a l.fn.lines.b.start).lines)
