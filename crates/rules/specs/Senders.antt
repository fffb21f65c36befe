-- Who sent an entry, and whether it is to be counted.
use Rattle.std.specs.Prelude.{ℕ, ◌-◌, cond, ◌&&◌, Some, None, Ok, Err, Option, Result, nat_le}
use Rattle.wire.specs.Parties.{Replica, replica_of}
use Rattle.wire.specs.Sets.{member}
use Rattle.rules.specs.declared.objection.Objection.{Objection}
use Rattle.rules.specs.declared.objection.Objection.TheVariants.{NotMember, AlreadyCounted}

-- the replica that sent an entry, if it is in this set: replica n has the party number 100 + n
abbrev pub sender_within : ℕ → ℕ → Option Replica
sender_within set sender = cond (nat_le 100 sender && member set (sender - 100)) (replica_of (sender - 100)) None

-- a sender within the set is counted once
abbrev pub counted_from : Option Replica → ℕ → Result Replica Objection
counted_from None counted = Err NotMember
counted_from (Some from) counted = cond (member counted from.number) (Err AlreadyCounted) (Ok from)
