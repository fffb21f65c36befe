use Rattle.std.proofs.Common.{sym}
use Rattle.wire.proofs.Made.{single_is}
use Rattle.wire.proofs.party.Numbered.number.Goals as goal

pub returns-clause-back : goal.returns-clause-back
returns-clause-back g c = sym (single_is c.args.self)
