-- Each turn is a write and a read.
use Rattle.std.proofs.Common.{◌≡◌, ◌*◌}
use Rattle.drive_c.specs.Plans.{calls_of_turn}
use Rattle.drive_c.specs.Tallies.{more}
use Rattle.drive_c.proofs.driven.Driven.take_turns.Given as goal

abbrev pub invariant-loop-turn : goal.invariant-loop-turn
invariant-loop-turn g l = l.self.tally.calls ≡ more l.initial.self.tally.calls (l._turn * calls_of_turn l.quorum)
