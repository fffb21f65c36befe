use Rattle.std.proofs.Common.{ℕ, List, Option, length}
use Rattle.std.specs.Vec.{vec_items}
use Rattle.refusals.specs.declared.Refusal.{Refusal}
use Rattle.script.specs.declared.command.SetUp.{SetUp}
use Rattle.runner.specs.Left.{left, lines_left}
use Rattle.runner.specs.Texts.{Numbered, Countable}
use Rattle.runner.specs.Turns.{Searched}
use Rattle.runner.proofs.play.first_set_up.Given as goal

-- what is found in the lines that are left is found in all
abbrev pub invariant-loop-line : goal.invariant-loop-line
invariant-loop-line l =
    Countable (left l.fn.lines.a l.fn.lines.b.start)
    → Countable (left l.lines.a l.lines.b.start)
    × ((found : Option (ℕ × SetUp)) (next : Numbered) (new : List Refusal) → Searched (left l.lines.a l.lines.b.start) (vec_items l.refusals) found next new
    → Searched (left l.fn.lines.a l.fn.lines.b.start) (vec_items l.fn.refusals) found next new)

abbrev pub decreases-loop-line : goal.decreases-loop-line
decreases-loop-line l = length (lines_left l.lines.a)
