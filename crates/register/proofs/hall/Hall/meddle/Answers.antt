-- An entry is posted, or all is as it was.
use Rattle.std.proofs.Common.{rules, refl}
use Rattle.register.proofs.Quiet.{quiet}
use Rattle.register.proofs.hall.Hall.meddle.Goals as goal

pub returns-then-not-has_its_tables : goal.returns-then-not-has_its_tables
returns-then-not-has_its_tables g c = λ shelf desk. quiet refl (search rules)

pub returns-in_err-who : goal.returns-in_err-who
returns-in_err-who g c = λ shelf desk. quiet refl (search rules)

pub returns-in_default : goal.returns-in_default
returns-in_default g c = λ shelf desk. quiet refl (search rules)

pub returns-then-not-contains : goal.returns-then-not-contains
returns-then-not-contains g c = λ shelf desk. quiet refl (search rules)

pub returns-then-is_full : goal.returns-then-is_full
returns-then-is_full g c = λ shelf desk. quiet refl (search rules)

pub returns : goal.returns
returns g c = λ shelf desk. quiet refl (search rules)
