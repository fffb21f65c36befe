-- Each delivery is one call.
use Rattle.std.proofs.Common.{◌≡◌}
use Rattle.drive_c.specs.Tallies.{more}
use Rattle.drive_c.proofs.driven.Driven.load.Given as goal

abbrev pub invariant-loop-load : goal.invariant-loop-load
invariant-loop-load g l = l.self.tally.calls ≡ more l.initial.self.tally.calls l._load
