use Rattle.std.proofs.Common.{refl}
use Rattle.fields.proofs.Joining.{lines_whole}
use Rattle.fields.proofs.Lines.new.Goals as goal

pub returns : goal.returns
returns c = record { left = refl; whole = lines_whole c.args.text.now }
