-- Where an entry is objected to, or the line moves on without a stamp, nothing is sealed.
use Rattle.std.proofs.Common.{rules, None}
use Rattle.sealers.proofs.Sealing.{nothing_sealed}
use Rattle.clients.proofs.step.client_step.Goals as goal

pub returns-in-Err : goal.returns-in-Err
returns-in-Err g c = record { given = record { 0 = 0 }; sealed = None; outcome = search rules; seals = nothing_sealed _ _ }

pub returns-in-Ok-Moves : goal.returns-in-Ok-Moves
returns-in-Ok-Moves g c = record { given = record { 0 = 0 }; sealed = None; outcome = search rules; seals = nothing_sealed _ _ }
