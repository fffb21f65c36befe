use Rattle.fields.proofs.Cutting.{done_is}
use Rattle.fields.proofs.Fields.is_done.Goals as goal

pub returns : goal.returns
returns c = done_is _ _ c.is_none.ensures
