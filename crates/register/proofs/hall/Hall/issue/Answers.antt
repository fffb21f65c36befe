-- A refusal leaves all as it was.
use Rattle.std.proofs.Common.{rules, refl}
use Rattle.register.proofs.Quiet.{quiet}
use Rattle.register.proofs.hall.Hall.issue.Goals as goal

pub returns-then-not-has_its_tables : goal.returns-then-not-has_its_tables
returns-then-not-has_its_tables g c = λ shelf. quiet refl (search rules)

pub returns-then-not-is_right_set : goal.returns-then-not-is_right_set
returns-then-not-is_right_set g c = λ shelf. quiet refl (search rules)

pub returns-then-has_too_many_marked : goal.returns-then-has_too_many_marked
returns-then-has_too_many_marked g c = λ shelf. quiet refl (search rules)

pub returns-then-is_full : goal.returns-then-is_full
returns-then-is_full g c = λ shelf. quiet refl (search rules)
