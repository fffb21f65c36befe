-- Which party a number names, told from the definition.
-- Nothing is assumed.
use Rattle.std.proofs.Common.{◌≡◌, ℕ, cond, ◌+◌, ◌-◌, ◌<◌, ◌≤◌, ◌&&◌, eqb, ltb, leb, Some, None, Option, sym, ap, arith, le-leb, ltb-true, leb-true, ne_eqb, ◌∙◌}
use Rattle.std.proofs.lemmas.Bool.{and_from, and_parts}
use Rattle.std.specs.Option.{option_map}
use Rattle.wire.specs.declared.party.Party.{Party}
use Rattle.wire.specs.declared.party.Party.TheVariants.{Source as TheSource, Client as AClient, Replica as AReplica}
use Rattle.wire.specs.Parties.{Client, Replica, party_of, client_of, replica_of}
use Rattle.wire.proofs.Made.{single_is, single_number, single_within}
use Rattle.rules.specs.declared.rules.Rules.{Rules}
use Rattle.model.specs.Halls.{party_within, party_in}
use Rattle.model.proofs.Ways.{way, not_some}

client_same : {c d : Client} → ◌≡◌ {A = Option Party} (Some (AClient c)) (Some (AClient d)) → c ≡ d
client_same p = cc

replica_same : {c d : Replica} → ◌≡◌ {A = Option Party} (Some (AReplica c)) (Some (AReplica d)) → c ≡ d
replica_same p = cc

mixed : {P : Type 0} {r : Replica} {c : Client} → ◌≡◌ {A = Option Party} (Some (AReplica r)) (Some (AClient c)) → P
mixed p = absurd cc

source_mixed : {P : Type 0} {r : Replica} → ◌≡◌ {A = Option Party} (Some TheSource) (Some (AReplica r)) → P
source_mixed p = absurd cc

source_client : {P : Type 0} {r : Client} → ◌≡◌ {A = Option Party} (Some TheSource) (Some (AClient r)) → P
source_client p = absurd cc

mapped_client : (o : Option Client) (c : Client) → option_map AClient o ≡ Some (AClient c) → o ≡ Some c
mapped_client None c p = not_some p
mapped_client (Some d) c p = ap Some (client_same p)

mapped_replica : (o : Option Replica) (r : Replica) → option_map AReplica o ≡ Some (AReplica r) → o ≡ Some r
mapped_replica None r p = not_some p
mapped_replica (Some d) r p = ap Some (replica_same p)

client_mapped : {P : Type 0} (o : Option Client) (r : Replica) → option_map AClient o ≡ Some (AReplica r) → P
client_mapped None r p = not_some p
client_mapped (Some d) r p = mixed (sym p)

replica_mapped : {P : Type 0} (o : Option Replica) (c : Client) → option_map AReplica o ≡ Some (AClient c) → P
replica_mapped None c p = not_some p
replica_mapped (Some d) c p = mixed p

-- a client of a hall
pub record ClientIn (rules : Rules) (n : ℕ) (c : Client) : Type 0 where
  pub number : c.number ≡ n
  pub low : 1 ≤ n
  pub high : n ≤ rules.clients

-- a replica of a hall
pub record ReplicaIn (rules : Rules) (n : ℕ) (r : Replica) : Type 0 where
  pub number : 100 + r.number ≡ n
  pub inside : r.number < rules.replicas

party_client : (n : ℕ) (c : Client) → party_of n ≡ Some (AClient c) → (c.number ≡ n) × (1 ≤ n)
party_client n c p =
    way (eqb n 0) p (λ t e. source_client e)
    (λ t e. way (leb 1 n && leb n 32) e
    (λ u f. let number = single_number n c (mapped_client (client_of n) c f) in
    (number, leb-true 1 n (and_parts (leb 1 n) (leb n 32) u).0))
    (λ u f. way (leb 100 n && leb n 163) f (λ v g. replica_mapped (replica_of (n - 100)) c g) (λ v g. not_some g)))

party_replica : (n : ℕ) (r : Replica) → party_of n ≡ Some (AReplica r) → 100 + r.number ≡ n
party_replica n r p =
    way (eqb n 0) p (λ t e. source_mixed e)
    (λ t e. way (leb 1 n && leb n 32) e
    (λ u f. client_mapped (client_of n) r f)
    (λ u f. way (leb 100 n && leb n 163) f
    (λ v g. let number = single_number (n - 100) r (mapped_replica (replica_of (n - 100)) r g) in
    let low = leb-true 100 n (and_parts (leb 100 n) (leb n 163) v).0 in
    omega arith)
    (λ v g. not_some g)))

within_client : (rules : Rules) (o : Option Party) (c : Client) → party_within rules o ≡ Some (AClient c) → (o ≡ Some (AClient c)) × (c.number ≤ rules.clients)
within_client rules None c p = not_some p
within_client rules (Some TheSource) c p = source_client p
within_client rules (Some (AClient d)) c p =
    way (leb d.number rules.clients) p
    (λ t e. let same = client_same e in (e, rw (← same) (leb-true d.number rules.clients t)))
    (λ t e. not_some e)
within_client rules (Some (AReplica r)) c p =
    way (ltb r.number rules.replicas) p (λ t e. mixed e) (λ t e. not_some e)

within_replica : (rules : Rules) (o : Option Party) (r : Replica) → party_within rules o ≡ Some (AReplica r) → (o ≡ Some (AReplica r)) × (r.number < rules.replicas)
within_replica rules None r p = not_some p
within_replica rules (Some TheSource) r p = source_mixed p
within_replica rules (Some (AClient d)) r p =
    way (leb d.number rules.clients) p (λ t e. mixed (sym e)) (λ t e. not_some e)
within_replica rules (Some (AReplica d)) r p =
    way (ltb d.number rules.replicas) p
    (λ t e. let same = replica_same e in (e, rw (← same) (ltb-true d.number rules.replicas t)))
    (λ t e. not_some e)

pub client_in : (rules : Rules) (n : ℕ) (c : Client) → party_in rules n ≡ Some (AClient c) → ClientIn rules n c
client_in rules n c p =
    let inside = within_client rules (party_of n) c p in
    let found = party_client n c inside.0 in
    let number = found.0 in
    let high = inside.1 in
    record { number = number; low = found.1; high = omega arith }

-- the client of a number of the hall
abbrev pub client_numbered : (n : ℕ) → 1 ≤ n → n ≤ 32 → Client
client_numbered n low high = record { number = n; ok = and_from (leb 1 n) (leb n 32) (le-leb 1 n low) (le-leb n 32 high) }

pub client_party : (rules : Rules) (client : Client) → client.number ≤ rules.clients → party_in rules client.number ≡ Some (AClient client)
client_party rules client inside =
    ap (party_within rules) found ∙ ap (λ b. cond b (Some (AClient client)) None) (le-leb client.number rules.clients inside)
  where
    found : party_of client.number ≡ Some (AClient client)
    found =
        let n = client.number in
        let other = cond (leb 100 n && leb n 163) (option_map AReplica (replica_of (n - 100))) None in
        ap (λ b. cond b (Some TheSource) (cond (leb 1 n && leb n 32) (option_map AClient (client_of n)) other)) (ne_eqb n 0 (λ e. omega (arith, (single_within client).0)))
        ∙ ap (λ b. cond b (option_map AClient (client_of n)) other) client.ok
        ∙ ap (option_map AClient) (sym (single_is client))

-- the replica of a number below 64
abbrev pub replica_numbered : (n : ℕ) → n < 64 → Replica
replica_numbered n low = record { number = n; ok = and_from (leb 0 n) (leb n 63) (le-leb 0 n (omega arith)) (le-leb n 63 (omega arith)) }

pub replica_in : (rules : Rules) (n : ℕ) (r : Replica) → party_in rules n ≡ Some (AReplica r) → ReplicaIn rules n r
replica_in rules n r p =
    let inside = within_replica rules (party_of n) r p in
    record { number = party_replica n r inside.0; inside = inside.1 }
