use Rattle.std.proofs.Common.{length-take, rules}
use Rattle.lists.proofs.Changes.{set_within}
use Rattle.lists.proofs.List.set.Goals as goal

pub offset_bounds-self-place : goal.offset_bounds-self-place
offset_bounds-self-place g c = search (rules, length-take)

pub bounds-self-place : goal.bounds-self-place
bounds-self-place g c = search (rules, length-take)

pub returns : goal.returns
returns g c = search (rules, set_within)
