-- A short run: one client reads what the register opened with, and one answer is handed to it twice.
use Rattle.std.specs.Prelude.{◌≡◌, false, refl, List, [], ◌∷◌, Some}
use Rattle.kinds.specs.declared.bin_weight.BinWeight.{BinWeight}
use Rattle.wire.specs.Parties.{Client}
use Rattle.rules.specs.declared.rules.Rules.{Rules}
use Rattle.rules.specs.declared.objection.Objection.TheVariants.{AlreadyCounted}
use Rattle.rules.specs.Genuine.{opening_pair}
use Rattle.clients.specs.declared.fault.ClientFault.TheVariants.{Objects}
use Rattle.halls.specs.declared.fault.HallFault.TheVariants.{Step}
use Rattle.halls.specs.declared.fault.StepFault.TheVariants.{Client as ByClient}
use Rattle.halls.specs.declared.operation.Operation.{Operation}
use Rattle.model.specs.Halls.{World}
use Rattle.model.specs.Answers.{done, slip, pair, refused}
use Rattle.model.specs.Calls.{begin_read, deliver, collect}
use Rattle.model.specs.Runs.{Opened}
use Rattle.worked_runs.specs.Lists.{RunOf, Line, line, calls_of, Answered, last_world}
use Rattle.model.specs.Kinds.{bin_weights}
use Rattle.worked_runs.specs.Openings.{opening_weight, rules_for, opened_world}

-- four replicas, one client, nobody marked
abbrev pub rules : Rules
rules = rules_for 4 1

abbrev pub start : World
start = opened_world rules 0

abbrev pub client_1 : Client
client_1 = record { number = 1; ok = refl }

abbrev pub script : List (Line BinWeight)
script =
    line (begin_read 1) (slip 1 0)
    ∷ line (deliver 0 100) done
    ∷ line (deliver 0 101) done
    ∷ line (deliver 0 102) done
    ∷ line (deliver 1 1) done
    -- the same answer again: this sender is counted already
    ∷ line (deliver 1 1) (refused (Step 1 (ByClient (Objects client_1 AlreadyCounted))))
    ∷ line (deliver 2 1) done
    ∷ line (deliver 3 1) done
    ∷ line (collect 1 0) (pair (opening_pair rules) opening_weight)
    ∷ []

-- client 1 has read, from moment 1 to moment 2, the pair that nobody wrote
abbrev pub logged : Operation
logged = record { client = 1; writes = false; began = 1; ended = Some 2; pair = opening_pair rules }

-- from an opening the script is a run without a forged seal, its calls are answered so, and this is the log at its end
pub record ShortRun : Type 0 where
  pub opened : Opened bin_weights opening_weight start.hall
  pub made : RunOf bin_weights start (calls_of script)
  pub answered : Answered bin_weights start script
  pub log : (last_world bin_weights start script).hall.log.list ≡ logged ∷ []
