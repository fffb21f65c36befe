-- Without a next epoch nothing is sealed.
use Rattle.std.proofs.Common.{rules, None}
use Rattle.sealers.proofs.Sealing.{nothing_sealed}
use Rattle.source.proofs.state.Source.issue.Goals as goal

pub returns-in_err-epoch : goal.returns-in_err-epoch
returns-in_err-epoch g c = record { given = record { 0 = 0 }; sealed = None; outcome = search rules; seals = nothing_sealed _ _ }
