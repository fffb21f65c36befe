use Rattle.std.proofs.Common.{◌≡◌, ◌++◌, length, replicate}
use Rattle.lists.specs.Held.{held, behind}
use Rattle.value_trials.proofs.listing.fill.Given as goal

-- What the list holds, and the item once more for each element behind it: that stays.
abbrev pub invariant-loop-item : goal.invariant-loop-item
invariant-loop-item g l =
    held l.list ++ replicate (length (behind l.list)) l.item ≡
    held l.initial.list ++ replicate (length (behind l.initial.list)) l.item

abbrev pub decreases-loop-item : goal.decreases-loop-item
decreases-loop-item g l = length (behind l.list)
