-- The answer of the hall is counted as done where it is no refusal.
use Rattle.drive_c.proofs.Counting.{counted}
use Rattle.drive_c.proofs.driven.Driven.meddle.Goals as goal

pub returns-clause-call : goal.returns-clause-call
returns-clause-call c shelf desk = counted c.meddle-answer.result c.is_ok-done.result c.is_ok-done.ensures.value (c.meddle-answer.ensures shelf desk)
