use Rattle.std.proofs.Common.{◌≡◌, ◌+◌, string_bytes}
use Rattle.fields.specs.Left.{lines_left}
use Rattle.reports.proofs.Rows.{Sofar}
use Rattle.reports.proofs.report.Given as goal

-- the lines before those that are left have their rows, and the next row has the next number
abbrev pub invariant-loop-line : goal.invariant-loop-line
invariant-loop-line l =
    Sofar l.text (lines_left l.line-iterator.a) (string_bytes l.out) l.values l.refusals
    × (l.line-iterator.b.start ≡ l.values + l.refusals + 1)
