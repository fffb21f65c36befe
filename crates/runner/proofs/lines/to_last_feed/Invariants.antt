use Rattle.std.proofs.Common.{◌≡◌, ◌≤◌, take, length}
use Rattle.runner.specs.Texts.{to_last_feed}
use Rattle.runner.proofs.lines.to_last_feed.Given as goal

-- no line feed is left out so far
abbrev pub invariant-loop-end : goal.invariant-loop-end
invariant-loop-end l = (l.end ≤ length l.text) × (to_last_feed (take l.end l.text) ≡ to_last_feed l.text)

abbrev pub decreases-loop-end : goal.decreases-loop-end
decreases-loop-end l = l.end
