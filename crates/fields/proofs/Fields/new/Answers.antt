use Rattle.std.proofs.Common.{refl}
use Rattle.fields.proofs.Joining.{fields_whole}
use Rattle.fields.proofs.Fields.new.Goals as goal

pub returns : goal.returns
returns c = record { left = refl; whole = fields_whole c.args.line.now }
