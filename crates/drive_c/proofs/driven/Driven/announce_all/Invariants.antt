-- Each configuration is issued and handed to the outsiders.
use Rattle.std.proofs.Common.{◌≡◌, ◌*◌}
use Rattle.drive_c.specs.Plans.{calls_of_issue, outsiders_of}
use Rattle.drive_c.specs.Tallies.{more}
use Rattle.drive_c.proofs.driven.Driven.announce_all.Given as goal

abbrev pub invariant-loop-issue : goal.invariant-loop-issue
invariant-loop-issue g l = l.self.tally.calls ≡ more l.initial.self.tally.calls (l._issue * calls_of_issue (outsiders_of l.plan))
