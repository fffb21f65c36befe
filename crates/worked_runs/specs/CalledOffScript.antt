-- The calls of the run in which client 1 calls its write off: it writes 50,000 g, lot 412, one
-- replica takes that, and client 2 reads it and writes it back. Replica 3 may lie, and does not.
use Rattle.std.specs.Prelude.{◌≡◌, true, false, refl, List, [], ◌∷◌, Some, None}
use Rattle.kinds.specs.declared.bin_weight.BinWeight.{BinWeight}
use Rattle.wire.specs.Parties.{Client}
use Rattle.rules.specs.declared.rules.Rules.{Rules}
use Rattle.rules.specs.declared.objection.Objection.TheVariants.{AlreadyCounted, NotAwaited}
use Rattle.clients.specs.declared.fault.ClientFault.TheVariants.{Objects}
use Rattle.halls.specs.declared.fault.HallFault.TheVariants.{Step}
use Rattle.halls.specs.declared.fault.StepFault.TheVariants.{Client as ByClient}
use Rattle.halls.specs.declared.operation.Operation.{Operation}
use Rattle.model.specs.Halls.{World}
use Rattle.model.specs.Kinds.{bin_weights}
use Rattle.model.specs.Answers.{done, slip, pair, refused}
use Rattle.model.specs.Calls.{begin_read, begin_write, deliver, call_off, collect}
use Rattle.worked_runs.specs.Lists.{Line, line, Answered, last_world}
use Rattle.worked_runs.specs.Openings.{rules_for, opened_world}
use Rattle.worked_runs.specs.FullScript.{new_weight, new_pair}

-- four replicas, two clients, replica 3 marked
abbrev pub rules : Rules
rules = rules_for 4 2

abbrev pub start : World
start = opened_world rules 8

abbrev pub client_2 : Client
client_2 = record { number = 2; ok = refl }

abbrev pub script : List (Line BinWeight)
script =
    -- client 1 begins to write: READ is entry 0, and 1 to 3 are its answers
    line (begin_write 1 new_weight) (slip 1 0)
    ∷ line (deliver 0 100) done
    ∷ line (deliver 0 101) done
    ∷ line (deliver 0 102) done
    ∷ line (deliver 1 1) done
    ∷ line (deliver 2 1) done
    -- it takes its stamp and posts WRITE, entry 4, which replica 0 takes
    ∷ line (deliver 3 1) done
    ∷ line (deliver 4 100) done
    ∷ line (call_off 1 0) done
    -- client 2 reads: READ is entry 6, and of its answers, 7 to 9, the first has the new pair
    ∷ line (begin_read 2) (slip 2 1)
    ∷ line (deliver 6 100) done
    ∷ line (deliver 6 101) done
    ∷ line (deliver 6 102) done
    ∷ line (deliver 7 2) done
    ∷ line (deliver 8 2) done
    -- it writes that pair back: WRITE is entry 10, and replicas 1, 2, 3 and 0 answer it with ACK,
    -- entries 11 to 14
    ∷ line (deliver 9 2) done
    ∷ line (deliver 10 101) done
    ∷ line (deliver 10 102) done
    ∷ line (deliver 10 103) done
    ∷ line (deliver 10 100) done
    ∷ line (deliver 11 2) done
    -- the same answer again: replica 1 is counted already
    ∷ line (deliver 11 2) (refused (Step 11 (ByClient (Objects client_2 AlreadyCounted))))
    ∷ line (deliver 12 2) done
    ∷ line (deliver 13 2) done
    -- the answer of replica 0 comes late: the read is over, and nothing is awaited
    ∷ line (deliver 14 2) (refused (Step 14 (ByClient (Objects client_2 NotAwaited))))
    ∷ line (collect 2 1) (pair new_pair new_weight)
    ∷ []

-- client 1's write has its stamp and no end; client 2 has read its pair, from moment 2 to 3
abbrev pub logged : List Operation
logged =
    (record { client = 1; writes = true; began = 1; ended = None; pair = new_pair })
    ∷ (record { client = 2; writes = false; began = 2; ended = Some 3; pair = new_pair })
    ∷ []

-- its calls are answered so, and this is the log at its end
pub record CalledOffAnswers : Type 0 where
  pub answered : Answered bin_weights start script
  pub log : (last_world bin_weights start script).hall.log.list ≡ logged
