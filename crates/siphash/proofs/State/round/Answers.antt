-- Each turn of a word is the one that the round names.
use Rattle.siphash.specs.Sip.{sip_round}
use Rattle.siphash.proofs.State.round.Goals as goal

pub returns : goal.returns
unfolding sip_round
returns c = cc
