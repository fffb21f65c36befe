-- How many calls a plan asks for.
use Rattle.std.specs.Prelude.{ℕ, ◌+◌, ◌-◌, ◌*◌}
use Rattle.drive_c.specs.declared.plan.Plan.{Plan}

-- how many replicas are in the first set
abbrev pub members_of : ℕ → ℕ
members_of faults = 3 * faults + 1

-- how many are not
abbrev pub outsiders_of : Plan → ℕ
outsiders_of plan = plan.replicas - members_of plan.faults

-- how many replicas are asked in a round: 2f+1
abbrev pub quorum_of : ℕ → ℕ
quorum_of faults = 2 * faults + 1

-- a configuration is issued, and handed to so many replicas
abbrev pub calls_of_issue : ℕ → ℕ
calls_of_issue outsiders = 1 + outsiders

-- a round hands what was asked to a quorum of q replicas, and each of their answers to the client
abbrev pub calls_of_round : ℕ → ℕ
calls_of_round q = 2 * q

-- a begin, a lodge, a redeem and a collect go with each operation; a write has two rounds, a read has one
abbrev pub calls_of_write : ℕ → ℕ
calls_of_write q = 4 + 2 * calls_of_round q

abbrev pub calls_of_read : ℕ → ℕ
calls_of_read q = 4 + calls_of_round q

-- a write and a read
abbrev pub calls_of_turn : ℕ → ℕ
calls_of_turn q = calls_of_write q + calls_of_read q

-- entries in the marked replica's name, configurations, writes and reads in turn, and deliveries of the last READ
abbrev pub calls_of_opening : Plan → ℕ
calls_of_opening plan =
    plan.filled + plan.issues * calls_of_issue (outsiders_of plan) + plan.turns * calls_of_turn (quorum_of plan.faults) + plan.loads

abbrev pub calls_of : Plan → ℕ
calls_of plan = plan.openings * calls_of_opening plan
