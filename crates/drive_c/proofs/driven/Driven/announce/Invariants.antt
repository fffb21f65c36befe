-- Each delivery is one call.
use Rattle.std.proofs.Common.{◌≡◌}
use Rattle.drive_c.specs.Tallies.{more}
use Rattle.drive_c.proofs.driven.Driven.announce.Given as goal

abbrev pub invariant-loop-outsider : goal.invariant-loop-outsider
invariant-loop-outsider g l = l.self.tally.calls ≡ more l.initial.self.tally.calls l.outsider
