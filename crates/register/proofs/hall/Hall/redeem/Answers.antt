-- A slip is handed out, or the seat is as it was.
use Rattle.std.proofs.Common.{rules, refl}
use Rattle.register.proofs.Quiet.{quiet}
use Rattle.register.proofs.hall.Hall.redeem.Goals as goal

pub returns-then-not-has_its_tables : goal.returns-then-not-has_its_tables
returns-then-not-has_its_tables g c = λ shelf desk. quiet refl (search rules)

pub returns-in_err-client : goal.returns-in_err-client
returns-in_err-client g c = λ shelf desk. quiet refl (search rules)

pub returns-in_err-operation : goal.returns-in_err-operation
returns-in_err-operation g c = λ shelf desk. quiet refl (search rules)

pub returns : goal.returns
returns g c = λ shelf desk. quiet refl (search rules)
