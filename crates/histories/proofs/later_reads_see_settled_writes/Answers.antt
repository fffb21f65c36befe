-- The theorem on late answers.
use Rattle.histories.proofs.Late.{late}
use Rattle.histories.proofs.later_reads_see_settled_writes.Goals as goal

pub returns : goal.returns
returns c = late
