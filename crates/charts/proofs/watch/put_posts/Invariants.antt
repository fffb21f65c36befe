use Rattle.std.proofs.Common.{◌≡◌, ◌++◌, drop, map}
use Rattle.charts.specs.Watches.{posted_in}
use Rattle.charts.proofs.watch.put_posts.Given as goal

-- what is there, and the entries that are left
abbrev pub invariant-loop-entry : goal.invariant-loop-entry
invariant-loop-entry l = l.posted.items ++ map (posted_in l.row) (drop l.entry-index l.fresh) ≡ l.initial.posted.items ++ map (posted_in l.row) l.fresh
