-- Each entry is one call.
use Rattle.std.proofs.Common.{◌≡◌}
use Rattle.drive_c.specs.Tallies.{more}
use Rattle.drive_c.proofs.driven.Driven.fill.Given as goal

abbrev pub invariant-loop-entry : goal.invariant-loop-entry
invariant-loop-entry l = l.self.tally.calls ≡ more l.initial.self.tally.calls l._entry
