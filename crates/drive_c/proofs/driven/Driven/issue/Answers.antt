-- The answer of the hall is counted as done where it is no refusal.
use Rattle.drive_c.proofs.Counting.{counted}
use Rattle.drive_c.proofs.driven.Driven.issue.Goals as goal

pub returns-clause-call : goal.returns-clause-call
returns-clause-call g c shelf = counted c.issue-answer.result c.is_ok-done.result c.is_ok-done.ensures.value (c.issue-answer.ensures shelf)
