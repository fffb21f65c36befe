-- The quorums of any epoch meet.
use Rattle.quorums.proofs.Meeting.{quorums_meet}
use Rattle.quorums.proofs.quorums_meet.Goals as goal

pub returns : goal.returns
returns c = quorums_meet
