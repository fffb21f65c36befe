use Rattle.std.proofs.Common.{rules}
use Rattle.tapes.specs.Records.{decoded}
use Rattle.tapes.proofs.record.read_card.Goals as goal

pub returns : goal.returns
unfolding decoded
returns c = search rules
