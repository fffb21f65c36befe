-- The seat changes, or the slip is handed back and all is as it was.
use Rattle.std.proofs.Common.{arith, refl}
use Rattle.std.proofs.lemmas.Grind.{common_steps}
use Rattle.register.proofs.Quiet.{quiet}
use Rattle.register.proofs.hall.Hall.lodge.Goals as goal

pub returns-in-Ok-clause-change : goal.returns-in-Ok-clause-change
returns-in-Ok-clause-change g c = λ shelf desk. quiet refl (grind (arith, common_steps))

pub returns-in-Err-clause-change : goal.returns-in-Err-clause-change
returns-in-Err-clause-change g c = λ shelf desk. quiet refl (grind (arith, common_steps))
