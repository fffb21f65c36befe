-- The text is the one that is defined.
use Rattle.std.proofs.Common.{rules}
use Rattle.picture.specs.Pictures.{heads_text}
use Rattle.picture.proofs.svg.heads.Goals as goal

pub returns : goal.returns
unfolding heads_text
returns c = search rules
