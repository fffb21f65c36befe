-- What a cursor over the lines of a script has yet to give.
use Rattle.std.specs.Prelude.{ℕ, List, ◌++◌}
use Rattle.fields.specs.Left.{lines_left as whole_left}
use Rattle.runner.specs.declared.lines.ScriptLines.{ScriptLines}
use Rattle.runner.specs.Texts.{left_out, Numbered}

abbrev pub lines_left : ScriptLines → List (List ℕ)
lines_left l = whole_left l.whole ++ left_out l.is_cut

-- with the number of the first of them
abbrev pub left : ScriptLines → ℕ → Numbered
left l number = record { number = number; lines = lines_left l }
