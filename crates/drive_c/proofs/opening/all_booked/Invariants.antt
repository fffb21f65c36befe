-- Each opening makes the calls that are planned for one.
use Rattle.std.proofs.Common.{◌≡◌, ◌*◌}
use Rattle.drive_c.specs.Plans.{calls_of_opening}
use Rattle.drive_c.specs.Tallies.{more}
use Rattle.drive_c.proofs.opening.all_booked.Given as goal

abbrev pub invariant-loop-opening : goal.invariant-loop-opening
invariant-loop-opening l = l.tally.calls ≡ more l.initial.tally.calls (l._opening * calls_of_opening l.plan)
