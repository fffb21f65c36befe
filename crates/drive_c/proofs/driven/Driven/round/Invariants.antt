-- Each delivery is one call.
use Rattle.std.proofs.Common.{◌≡◌}
use Rattle.drive_c.specs.Tallies.{more}
use Rattle.drive_c.proofs.driven.Driven.round.Given as goal

abbrev pub invariant-loop-replica : goal.invariant-loop-replica
invariant-loop-replica g l = l.self.tally.calls ≡ more l.initial.self.tally.calls l.replica

abbrev pub invariant-loop-answer : goal.invariant-loop-answer
invariant-loop-answer g l = l.self.tally.calls ≡ more l.initial.self.tally.calls l.answer
