-- Set-up and mark: the settings of a hall before it is opened.
use Rattle.std.specs.Prelude.{ℕ, ◌+◌, ◌*◌, Bool, cond, not, ◌&&◌, Some, None, Ok, Err, Option, Result, nat_le}
use Rattle.wire.specs.declared.party.Party.{Party}
use Rattle.wire.specs.declared.party.Party.TheVariants.{Source as TheSource, Client as AClient, Replica as AReplica}
use Rattle.wire.specs.declared.set.ReplicaSet.{ReplicaSet}
use Rattle.wire.specs.Sets.{inserted}
use Rattle.rules.specs.declared.rules.Rules.{Rules}
use Rattle.halls.specs.declared.fault.HallFault.{HallFault}
use Rattle.halls.specs.declared.fault.HallFault.TheVariants.{Limit, WrongSet, TooManyMarked, NoSuch}
use Rattle.model.specs.Halls.{party_in}
use Rattle.model.specs.Issuing.{is_right_set, has_too_many_marked}

-- the rules of a hall, its opening word not yet given, and the set of replicas that may lie
pub record Settings : Type 0 where
  pub rules : Rules
  pub marked : ReplicaSet

-- f from 1 to 5, 3f+1 to 64 replicas, 1 to 32 clients
abbrev pub within_limits : ℕ → ℕ → ℕ → Bool
within_limits faults replicas clients =
    (nat_le 1 faults && nat_le faults 5)
    && ((nat_le (3 * faults + 1) replicas && nat_le replicas 64) && (nat_le 1 clients && nat_le clients 32))

abbrev pub rules_of : ℕ → ℕ → ℕ → ReplicaSet → Rules
rules_of faults replicas clients first =
    record { faults = faults; replicas = replicas; clients = clients; first = first; opening = record { 0 = 0 } }

-- set-up: the limits hold, and the first set is exactly 3f+1 of the hall's replicas; nobody is marked
abbrev pub set_up : ℕ → ℕ → ℕ → ReplicaSet → Result Settings HallFault
set_up faults replicas clients first =
    cond (not (within_limits faults replicas clients)) (Err Limit)
    (cond (not (is_right_set (rules_of faults replicas clients first) first.0)) (Err WrongSet)
    (Ok (record { rules = rules_of faults replicas clients first; marked = record { 0 = 0 } })))

-- what a mark answers and leaves
pub record Marking : Type 0 where
  pub answer : Result (Unit {0}) HallFault
  pub settings : Settings

abbrev pub keeping : HallFault → Settings → Marking
keeping fault s = record { answer = Err fault; settings = s }

abbrev pub with_marked : Settings → ℕ → Settings
with_marked s set = record s { marked = record { 0 = set } }

-- at most f replicas of the first set can be marked
abbrev pub mark_by : Option Party → Settings → ℕ → Marking
mark_by None s party = keeping (NoSuch party) s
mark_by (Some TheSource) s party = keeping (NoSuch party) s
mark_by (Some (AClient client)) s party = keeping (NoSuch party) s
mark_by (Some (AReplica replica)) s party =
    cond (has_too_many_marked s.rules (inserted s.marked.0 replica.number) s.rules.first.0) (keeping (TooManyMarked party) s)
    (record { answer = Ok tt; settings = with_marked s (inserted s.marked.0 replica.number) })

-- mark a replica of the hall by its party number
abbrev pub mark_called : Settings → ℕ → Marking
mark_called s party = mark_by (party_in s.rules party) s party
