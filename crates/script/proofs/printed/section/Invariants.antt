use Rattle.std.proofs.Common.{◌≡◌, ◌++◌, drop, string_bytes}
use Rattle.script.specs.Reports.{section, rows}
use Rattle.script.proofs.printed.section.Given as goal

-- what is written, and the rows of the items that are left, make up the section
abbrev pub invariant-loop-item : goal.invariant-loop-item
invariant-loop-item g l = string_bytes l.out ++ rows g.T.Row.shown (drop l.item-index l.items) ≡ section g.T.Row.shown l.heading l.items
