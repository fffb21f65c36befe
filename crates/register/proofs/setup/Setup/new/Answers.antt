use Rattle.std.proofs.Common.{rules}
use Rattle.register.proofs.Marks.{nobody_marked}
use Rattle.register.proofs.setup.Setup.new.Goals as goal

pub invariant_of-result : goal.invariant_of-result
invariant_of-result c = record { limits = search rules; right = search rules; few = nobody_marked c.args.faults c.args.first.0 }
