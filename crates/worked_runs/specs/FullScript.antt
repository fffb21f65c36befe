-- The calls of the full run: client 1 writes 50,000 g, lot 412, while the members change from {0, 1, 2, 3} to {1, 2, 3, 4}
-- and replica 3 lies; client 2 reads afterwards.
use Rattle.std.specs.Prelude.{◌≡◌, true, false, refl, List, [], ◌∷◌, pos, Some}
use Rattle.kinds.specs.declared.bin_weight.BinWeight.{BinWeight}
use Rattle.kinds.specs.BinWeights.{weight_word}
use Rattle.wire.specs.declared.entry.Entry.{Entry}
use Rattle.wire.specs.declared.pair.Pair.{Pair}
use Rattle.rules.specs.declared.rules.Rules.{Rules}
use Rattle.rules.specs.declared.objection.Objection.TheVariants.{NotGenuine}
use Rattle.rules.specs.Posts.{pair_entry, read_entry}
use Rattle.clients.specs.declared.fault.ClientFault.TheVariants.{Objects}
use Rattle.halls.specs.declared.fault.HallFault.TheVariants.{Step}
use Rattle.halls.specs.declared.fault.StepFault.TheVariants.{Client as ByClient}
use Rattle.halls.specs.declared.operation.Operation.{Operation}
use Rattle.model.specs.Halls.{World}
use Rattle.model.specs.Answers.{done, slip, pair, refused}
use Rattle.model.specs.Calls.{issue, begin_read, begin_write, deliver, collect, meddle}
use Rattle.worked_runs.specs.Lists.{Line, line, Answered, last_world}
use Rattle.model.specs.Kinds.{bin_weights}
use Rattle.worked_runs.specs.Openings.{rules_for, opened_world}
use Rattle.worked_runs.specs.Short.{client_1}

-- five replicas, two clients, replica 3 marked
abbrev pub rules : Rules
rules = rules_for 5 2

abbrev pub start : World
start = opened_world rules 8

-- 50,000 g, lot 412
abbrev pub new_weight : BinWeight
new_weight = record { grams = pos 50000; lot = 412; ok = refl }

-- the pair of the write: count 1, writer 1, the word of its value, the seal that its text gets
abbrev pub new_pair : Pair
new_pair = record {
  stamp = record { count = 1; writer = 1 };
  word = weight_word new_weight;
  seal = record { 0 = 1 };
}

-- replica 3 answers a pair of count 9 that client 1 never wrote
abbrev pub lie : Entry
lie = pair_entry 103 (read_entry 1 1 0) (record {
  stamp = record { count = 9; writer = 1 };
  word = weight_word new_weight;
  seal = record { 0 = 9 };
})

abbrev pub script : List (Line BinWeight)
script =
    -- client 1 begins to write: READ is entry 0, and 1 to 3 are its answers
    line (begin_write 1 new_weight) (slip 1 0)
    ∷ line (deliver 0 100) done
    ∷ line (deliver 0 101) done
    ∷ line (deliver 0 102) done
    -- replica 3 lies, and is found out
    ∷ line (meddle 103 lie) done
    ∷ line (deliver 4 1) (refused (Step 4 (ByClient (Objects client_1 NotGenuine))))
    -- the client takes its stamp and posts WRITE, entry 5, which one replica takes
    ∷ line (deliver 1 1) done
    ∷ line (deliver 2 1) done
    ∷ line (deliver 3 1) done
    ∷ line (deliver 5 100) done
    -- the next set is {1, 2, 3, 4}: CONFIG is entry 7; TRANSFER of replicas 1, 2 and 4 are entries 8, 9 and 10
    ∷ line (issue (record { 0 = 30 })) done
    ∷ line (deliver 7 100) done
    ∷ line (deliver 7 101) done
    ∷ line (deliver 7 102) done
    ∷ line (deliver 7 104) done
    -- replicas 0, 1 and 2 answer each of them with STOCK, entries 11 to 19
    ∷ line (deliver 8 100) done
    ∷ line (deliver 8 101) done
    ∷ line (deliver 8 102) done
    ∷ line (deliver 9 100) done
    ∷ line (deliver 9 101) done
    ∷ line (deliver 9 102) done
    ∷ line (deliver 10 100) done
    ∷ line (deliver 10 101) done
    ∷ line (deliver 10 102) done
    -- and so replicas 1, 2 and 4 become ready
    ∷ line (deliver 11 101) done
    ∷ line (deliver 12 101) done
    ∷ line (deliver 13 101) done
    ∷ line (deliver 14 102) done
    ∷ line (deliver 15 102) done
    ∷ line (deliver 16 102) done
    ∷ line (deliver 17 104) done
    ∷ line (deliver 18 104) done
    ∷ line (deliver 19 104) done
    -- the client learns of the new set and sends the same pair again, as entry 20, which three of it acknowledge
    ∷ line (deliver 7 1) done
    ∷ line (deliver 20 101) done
    ∷ line (deliver 20 102) done
    ∷ line (deliver 20 104) done
    ∷ line (deliver 21 1) done
    ∷ line (deliver 22 1) done
    ∷ line (deliver 23 1) done
    ∷ line (collect 1 0) (pair new_pair new_weight)
    -- client 2 learns of the new set and reads: READ is entry 24, its answers are 25 to 27
    ∷ line (deliver 7 2) done
    ∷ line (begin_read 2) (slip 2 1)
    ∷ line (deliver 24 101) done
    ∷ line (deliver 24 102) done
    ∷ line (deliver 24 104) done
    ∷ line (deliver 25 2) done
    ∷ line (deliver 26 2) done
    ∷ line (deliver 27 2) done
    ∷ line (collect 2 1) (pair new_pair new_weight)
    ∷ []

-- client 1 has written from moment 1 to 2, client 2 has read from moment 3 to 4, both the same pair
abbrev pub logged : List Operation
logged =
    (record { client = 1; writes = true; began = 1; ended = Some 2; pair = new_pair })
    ∷ (record { client = 2; writes = false; began = 3; ended = Some 4; pair = new_pair })
    ∷ []

-- its calls are answered so, and this is the log at its end
pub record FullAnswers : Type 0 where
  pub answered : Answered bin_weights start script
  pub log : (last_world bin_weights start script).hall.log.list ≡ logged
