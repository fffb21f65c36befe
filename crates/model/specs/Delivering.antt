-- Deliver: an entry of the post is handed to a party, which makes its step.
use Rattle.std.specs.Prelude.{ℕ, ◌+◌, Bool, true, false, if◌then◌else◌, not, ◌&&◌, ◌||◌, [], ◌∷◌, length, is_none, Some, None, Ok, Err, Option, Result, ◌==◌, nat_le, nat_lt, slice_index_or, slice_set, refl}
use Rattle.refusals.specs.Checks.{checked}
use Rattle.refusals.specs.declared.Layer.TheVariants.{Hall as InHall}
use Rattle.wire.specs.declared.entry.Entry.{Entry}
use Rattle.wire.specs.declared.entry.EntryKind.{EntryKind}
use Rattle.wire.specs.declared.entry.EntryKind.TheVariants.{Read, Write, Transfer, Pair as APair, Ack, Stock, Config, Behind}
use Rattle.wire.specs.declared.pair.Seal.{Seal}
use Rattle.wire.specs.declared.party.Party.{Party}
use Rattle.wire.specs.declared.party.Party.TheVariants.{Source as TheSource, Client as AClient, Replica as AReplica}
use Rattle.wire.specs.Entries.{kind_of}
use Rattle.wire.specs.Parties.{Client, Replica}
use Rattle.stores.specs.Saved.{Shelf}
use Rattle.clients.specs.declared.fault.ClientFault.{ClientFault}
use Rattle.clients.specs.declared.line.Line.{Line}
use Rattle.clients.specs.declared.line.Stage.{Stage}
use Rattle.clients.specs.declared.line.Stage.TheVariants.{Reading, Writing, Over}
use Rattle.clients.specs.Steps.{client_stepped, Stepped as ClientStepped}
use Rattle.replicas.specs.declared.fault.ReplicaFault.{ReplicaFault}
use Rattle.replicas.specs.Steps.{replica_stepped, Stepped as ReplicaStepped}
use Rattle.halls.specs.declared.fault.HallFault.TheVariants.{NoSuch, Full, Unfit, Step}
use Rattle.halls.specs.declared.fault.StepFault.TheVariants.{Client as ByClient, Replica as ByReplica}
use Rattle.halls.specs.declared.operation.Operation.{Operation}
use Rattle.halls.specs.Faults.{check}
use Rattle.halls.specs.declared.seat.Seat.{Seat}
use Rattle.model.specs.Tables.{Table, is_full, added}
use Rattle.model.specs.Halls.{Hall, World, no_entry, seat_of, operation_of, party_in, with_post, with_seat, with_log, with_seals, with_store, desk_of}
use Rattle.model.specs.Answers.{Outcome, done, refuses, answers, after_tests, has_moment}

abbrev pub is_client_number : ℕ → Bool
is_client_number n = nat_le 1 n && nat_le n 32

abbrev pub is_replica_number : ℕ → Bool
is_replica_number n = nat_le 100 n && nat_le n 163

-- who may be handed what: READ and WRITE go from a client to any replica, TRANSFER from a replica to any replica,
-- PAIR and ACK from a replica to the client addressed, STOCK from a replica to the replica addressed,
-- CONFIG from anyone to any client or replica, BEHIND from a replica to the client or replica addressed
abbrev pub fits_client : Option EntryKind → Entry → Client → Bool
fits_client (Some APair) e client = is_replica_number e.sender && e.addressee == client.number
fits_client (Some Ack) e client = is_replica_number e.sender && e.addressee == client.number
fits_client (Some Config) e client = true
fits_client (Some Behind) e client = is_replica_number e.sender && e.addressee == client.number
fits_client other e client = false

abbrev pub fits_replica : Option EntryKind → Entry → Replica → Bool
fits_replica (Some Read) e replica = is_client_number e.sender
fits_replica (Some Write) e replica = is_client_number e.sender
fits_replica (Some Transfer) e replica = is_replica_number e.sender
fits_replica (Some Stock) e replica = is_replica_number e.sender && e.addressee == 100 + replica.number
fits_replica (Some Config) e replica = true
fits_replica (Some Behind) e replica = is_replica_number e.sender && e.addressee == 100 + replica.number
fits_replica other e replica = false

-- nothing may be handed to the source
abbrev pub fits : Party → Entry → Bool
fits TheSource e = false
fits (AClient client) e = fits_client (kind_of e.kind) e client
fits (AReplica replica) e = fits_replica (kind_of e.kind) e replica

-- what the step answers is posted
abbrev pub posting : Hall → Option Entry → Hall
posting h None = h
posting h (Some e) = with_post h (added h.post e)

abbrev pub is_over : Stage → Bool
is_over Over = true
is_over other = false

-- the step has ended the operation
abbrev pub has_ended : Line → Line → Bool
has_ended before after = is_over after.stage && not (is_over before.stage)

abbrev pub is_stamping : Stage → Stage → Bool
is_stamping Reading Writing = true
is_stamping before after = false

-- the line of the log after a step of its client: it gets its end with its pair, or a write gets its stamp and seal
abbrev pub logged : Operation → Line → Line → ℕ → Operation
logged op before after moment =
    if has_ended before after then record op { ended = Some moment; pair = after.highest } else
    if is_stamping before.stage after.stage then record op { pair = after.highest } else
    op

-- an end takes the next moment
abbrev pub moment_after : ℕ → Line → Line → ℕ
moment_after moment before after = if has_ended before after then moment + 1 else moment

abbrev pub log_after : Table Operation → ℕ → Operation → Table Operation
log_after log k op = record log { list = slice_set log.list k op }

-- the hall after a step of a client: its line, its line of the log, the moment, what it posts, and the seals left
abbrev pub client_moves : Hall → ℕ → Seat → Line → Option Entry → (ℕ → ℕ) → Hall
client_moves h c seat line post seals =
    posting
    (with_seals
    (with_log
    (with_seat h c (record seat { line = line }))
    (log_after h.log seat.operation (logged (operation_of h seat.operation) seat.line line (h.moment + 1)))
    (moment_after h.moment seat.line line))
    seals)
    post

abbrev pub by_client : {V : Type 0} → Result (Option Entry) ClientFault → ClientStepped → ℕ → Hall → Client → Outcome V
by_client (Err fault) s number h client = refuses h (Step number (ByClient fault))
by_client (Ok post) s number h client = record {
  answer = done;
  hall = client_moves h client.number (seat_of h client.number) s.line post s.seals;
  sealed = s.sealed;
}

abbrev pub client_done : {V : Type 0} → ClientStepped → ℕ → Hall → Client → Outcome V
client_done s number h client = by_client s.answer s number h client

abbrev pub by_replica : {V : Type 0} → Result (Option Entry) ReplicaFault → ReplicaStepped → ℕ → Hall → Outcome V
by_replica (Err fault) s number h = refuses h (Step number (ByReplica fault))
by_replica (Ok post) s number h = answers done (posting (with_store h s.place s.saves) post)

abbrev pub replica_done : {V : Type 0} → ReplicaStepped → ℕ → Hall → Outcome V
replica_done s number h = by_replica s.answer s number h

-- the meaning of the store, as the step of a replica takes it
abbrev pub shelf_of : World → Shelf
shelf_of w = record { place = w.hall.place; saves = w.hall.saves; next = w.left_open.next }

-- the client's step on an entry; `kind` is the number of the record kind, `given` the seal that is given, if one is
abbrev pub client_step_of : World → Seal → ℕ → Client → Entry → ClientStepped
client_step_of w given kind client e =
    client_stepped w.hall.rules kind (desk_of w) given client (seat_of w.hall client.number).line e

-- the replica's step on an entry
abbrev pub replica_step_of : World → ℕ → Replica → Entry → ReplicaStepped
replica_step_of w kind replica e = replica_stepped w.hall.rules kind w.genuine (shelf_of w) replica e

-- the step of the party that is handed the entry; the source makes none
abbrev pub stepped : {V : Type 0} → Party → World → Seal → ℕ → ℕ → Entry → Outcome V
stepped TheSource w given kind number e = refuses w.hall (Unfit number)
stepped (AClient client) w given kind number e =
    client_done (client_step_of w given kind client e) number w.hall client
stepped (AReplica replica) w given kind number e =
    replica_done (replica_step_of w kind replica e) number w.hall

-- the entry is handed to the party, if the post has room, there is a next moment, and the two fit
abbrev pub deliver_to : {V : Type 0} → Option Party → World → Seal → ℕ → ℕ → Entry → Outcome V
deliver_to None w given kind number e = refuses w.hall (NoSuch number)
deliver_to (Some party) w given kind number e =
    checked
    (check (is_full w.hall.post || not (has_moment w.hall)) 6 InHall number (Full number) refl
    ∷ check (not (fits party e)) 11 InHall number (Unfit number) refl
    ∷ [])
    (refuses w.hall)
    (stepped party w given kind number e)

abbrev pub entry_of : Hall → ℕ → Entry
entry_of h number = slice_index_or h.post.list number no_entry

-- deliver the entry of this number to the party of this number
abbrev pub deliver_called : {V : Type 0} → World → Seal → ℕ → ℕ → ℕ → Outcome V
deliver_called w given kind number party =
    after_tests w.hall
    (check (not (nat_lt number (length w.hall.post.list))) 5 InHall number (NoSuch number) refl
    ∷ check (is_none (party_in w.hall.rules party)) 5 InHall number (NoSuch number) refl
    ∷ [])
    (deliver_to (party_in w.hall.rules party) w given kind number (entry_of w.hall number))
