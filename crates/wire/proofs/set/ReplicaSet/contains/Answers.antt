-- Bit n of the set.
use Rattle.std.proofs.Common.{ap}
use Rattle.wire.specs.Sets.{member}
use Rattle.wire.proofs.set.ReplicaSet.contains.Goals as goal

pub returns : goal.returns
unfolding member
returns c = ap (member c.args.self.0) c.number.ensures.value
