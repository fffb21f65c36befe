-- A hall as values: its rules and tables, and the meanings of its store and its sealer.
use Rattle.std.specs.Prelude.{ℕ, ◌-◌, Bool, false, cond, ◌&&◌, List, length, Some, None, Option, ◌==◌, nat_le, nat_lt, unwrap_or, slice_index_or, slice_set}
use Rattle.wire.specs.declared.entry.Entry.{Entry}
use Rattle.wire.specs.declared.pair.Configuration.{Configuration}
use Rattle.wire.specs.declared.pair.Seal.{Seal}
use Rattle.wire.specs.declared.party.Party.{Party}
use Rattle.wire.specs.declared.party.Party.TheVariants.{Source as TheSource, Client as AClient, Replica as AReplica}
use Rattle.wire.specs.declared.text.Text.{Text}
use Rattle.wire.specs.Parties.{party_of}
use Rattle.stores.specs.declared.card.Card.{Card}
use Rattle.sealers.specs.Sealing.{Desk}
use Rattle.rules.specs.declared.rules.Rules.{Rules}
use Rattle.clients.specs.declared.line.Stage.TheVariants.{Idle}
use Rattle.clients.specs.Lines.{no_pair}
use Rattle.source.specs.declared.state.Source.{Source}
use Rattle.halls.specs.declared.operation.Operation.{Operation}
use Rattle.halls.specs.declared.seat.Seat.{Seat}
use Rattle.model.specs.Tables.{Table, places}

-- how many places the tables had at the opening
pub record Lengths : Type 0 where
  pub post : ℕ
  pub log : ℕ
  pub roll : ℕ

-- a hall with its tables and its store, and the seals that each party has left
pub record Hall : Type 0 where
  pub rules : Rules
  -- the set of replicas that may lie
  pub marked : ℕ
  pub lengths : Lengths
  pub source : Source
  -- how many moments have been counted
  pub moment : ℕ
  pub post : Table Entry
  pub log : Table Operation
  pub roll : Table Configuration
  pub seats : List Seat
  pub place : ℕ → Option Card
  pub saves : Option ℕ
  pub seals : ℕ → ℕ

-- what a store and a sealer leave open: the place that a refused save names, which seals a text may get,
-- and which others would become genuine beside the one that it gets
pub record LeftOpen : Type 0 where
  pub next : ℕ
  pub allowed : Text → Seal → Bool
  pub beside : Text → Text → Seal → Bool

-- the hall, which seals are genuine, and what its store and its sealer leave open
pub record World : Type 0 where
  pub hall : Hall
  pub genuine : Text → Seal → Bool
  pub left_open : LeftOpen

abbrev pub no_seal : Seal
no_seal = record { 0 = 0 }

-- the meaning of the sealer, as the steps of the source and of clients take it
abbrev pub desk_of : World → Desk
desk_of w = record { genuine = w.genuine; seals = w.hall.seals; allowed = w.left_open.allowed; beside = w.left_open.beside }

-- what a place behind the end of a table counts as, so that each number names an entry; all its numbers are 0
abbrev pub no_entry : Entry
no_entry = record {
  sender = 0;
  kind = 0;
  addressee = 0;
  round = 0;
  epoch = 0;
  count = 0;
  writer = 0;
  word = record { 0 = 0 };
  seal = record { 0 = 0 };
}

abbrev pub no_operation : Operation
no_operation = record { client = 0; writes = false; began = 0; ended = None; pair = no_pair }

abbrev pub no_configuration : Configuration
no_configuration = record { epoch = 0; set = record { 0 = 0 }; seal = record { 0 = 0 } }

abbrev pub no_seat : Seat
no_seat = record {
  line = record {
    stage = Idle;
    word = None;
    configuration = no_configuration;
    round = 0;
    counted = record { 0 = 0 };
    highest = no_pair;
    agree = false;
    last_count = 0;
  };
  operation = 0;
  lodged = None;
}

-- the tables are as long as at the opening, and there is one seat for each client
abbrev pub has_its_tables : Hall → Bool
has_its_tables h =
    (places h.post == h.lengths.post && places h.log == h.lengths.log)
    && (places h.roll == h.lengths.roll && length h.seats == h.rules.clients)

-- the seat of client c, the first for client 1
abbrev pub seat_of : Hall → ℕ → Seat
seat_of h c = slice_index_or h.seats (c - 1) no_seat

-- the moment at which an operation ended, 0 while it has not: moments are counted from 1
abbrev pub end_of : Operation → ℕ
end_of op = unwrap_or op.ended 0

abbrev pub operation_of : Hall → ℕ → Operation
operation_of h k = slice_index_or h.log.list k no_operation

abbrev pub party_within : Rules → Option Party → Option Party
party_within rules None = None
party_within rules (Some TheSource) = Some TheSource
party_within rules (Some (AClient c)) = cond (nat_le c.number rules.clients) (Some (AClient c)) None
party_within rules (Some (AReplica r)) = cond (nat_lt r.number rules.replicas) (Some (AReplica r)) None

-- the party of this number, if it is one of the hall
abbrev pub party_in : Rules → ℕ → Option Party
party_in rules n = party_within rules (party_of n)

-- the hall with another post
abbrev pub with_post : Hall → Table Entry → Hall
with_post h post = record h { post = post }

-- the hall with another seat for client c
abbrev pub with_seat : Hall → ℕ → Seat → Hall
with_seat h c seat = record h { seats = slice_set h.seats (c - 1) seat }

-- the hall with another log and moment
abbrev pub with_log : Hall → Table Operation → ℕ → Hall
with_log h log moment = record h { log = log; moment = moment }

-- the hall with other seals left
abbrev pub with_seals : Hall → (ℕ → ℕ) → Hall
with_seals h seals = record h { seals = seals }

-- the hall with another store
abbrev pub with_store : Hall → (ℕ → Option Card) → Option ℕ → Hall
with_store h place saves = record h { place = place; saves = saves }

-- the hall with another source and roll
abbrev pub with_source : Hall → Source → Table Configuration → Hall
with_source h source roll = record h { source = source; roll = roll }
