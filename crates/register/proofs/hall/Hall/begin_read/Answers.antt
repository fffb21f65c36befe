-- A begin seals nothing.
use Rattle.std.proofs.Common.{refl}
use Rattle.register.proofs.Quiet.{quiet}
use Rattle.register.proofs.hall.Hall.begin_read.Goals as goal

pub returns : goal.returns
returns g c = λ shelf. quiet refl (c.begin.ensures shelf)
