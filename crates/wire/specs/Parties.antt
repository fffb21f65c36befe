-- Parties and their numbers.
use Rattle.std.specs.Prelude.{◌≡◌, ℕ, ◌+◌, ◌-◌, cond, ◌&&◌, Some, None, Option, Result, IfOk, ◌==◌, nat_le}
use Rattle.std.specs.Option.{option_map, ok_or}
use Rattle.kinds.specs.Partial.{only_if}
use Rattle.wire.specs.declared.party.Numbered.{Numbered}
use Rattle.wire.specs.declared.party.UnknownParty.{UnknownParty}
use Rattle.wire.specs.declared.party.Party.{Party}
use Rattle.wire.specs.declared.party.Party.TheVariants.{Source, Client as AClient, Replica as AReplica}

-- replicas are numbered 0 to 63, clients 1 to 32
abbrev pub Replica : Type 0
Replica = Numbered 0 63

abbrev pub Client : Type 0
Client = Numbered 1 32

abbrev pub numbered : (first last : ℕ) → ℕ → Option (Numbered first last)
numbered first last n = only_if (nat_le first n && nat_le n last) (λ e. record { number = n; ok = e })

abbrev pub replica_of : ℕ → Option Replica
replica_of n = numbered 0 63 n

abbrev pub client_of : ℕ → Option Client
client_of n = numbered 1 32 n

-- what is made of a number: the party of that number, or none where there is none
pub record Numbers (first last : ℕ) (n : ℕ) (r : Result (Numbered first last) UnknownParty) : Type 0 where
  pub value : r ≡ ok_or (numbered first last n) (record { 0 = n })
  pub exact : IfOk r (λ x. x.number ≡ n)

-- the party of a number: the source, a client, or 100 and a replica's number
abbrev pub party_of : ℕ → Option Party
party_of n =
    cond (n == 0) (Some Source)
    (cond (nat_le 1 n && nat_le n 32) (option_map AClient (client_of n))
    (cond (nat_le 100 n && nat_le n 163) (option_map AReplica (replica_of (n - 100))) None))

abbrev pub party_number : Party → ℕ
party_number Source = 0
party_number (AClient c) = c.number
party_number (AReplica r) = 100 + r.number

-- what a number decodes to, and the number of what it decodes to
pub record Decodes (n : ℕ) (r : Result Party UnknownParty) : Type 0 where
  pub value : r ≡ ok_or (party_of n) (record { 0 = n })
  pub exact : IfOk r (λ p. party_number p ≡ n)

pub record Encodes (p : Party) (n : ℕ) : Type 0 where
  pub value : n ≡ party_number p
  pub back : party_of n ≡ Some p
