-- Opening: which tables and stores it takes, and the hall that it leaves.
use Rattle.std.specs.Prelude.{ℕ, zero, suc, ◌-◌, Bool, false, cond, not, ◌&&◌, List, [], ◌++◌, length, replicate, Some, None, Ok, Err, Option, Result, ◌==◌, nat_le, nat_lt}
use Rattle.kinds.specs.declared.word.Word.{Word}
use Rattle.wire.specs.declared.entry.Entry.{Entry}
use Rattle.wire.specs.declared.pair.Configuration.{Configuration}
use Rattle.stores.specs.declared.card.Card.{Card}
use Rattle.stores.specs.declared.fault.StoreFault.TheVariants.{NoSave}
use Rattle.stores.specs.Saved.{Shelf, put}
use Rattle.sealers.specs.Sealing.{Desk}
use Rattle.rules.specs.declared.rules.Rules.{Rules}
use Rattle.rules.specs.Genuine.{first_configuration}
use Rattle.halls.specs.declared.fault.HallFault.{HallFault}
use Rattle.halls.specs.declared.fault.HallFault.TheVariants.{Limit, Store as OfStore}
use Rattle.halls.specs.declared.operation.Operation.{Operation}
use Rattle.halls.specs.declared.seat.Seat.{Seat}
use Rattle.model.specs.Tables.{Table, places}
use Rattle.model.specs.Halls.{Hall, Lengths}
use Rattle.model.specs.Runs.{first_card, first_seat}
use Rattle.register.specs.Grown.{grown}

-- the tables as they are lent
pub record Lent : Type 0 where
  pub post : Table Entry
  pub log : Table Operation
  pub roll : Table Configuration
  pub seats : List Seat

-- a post of 1 to 4,096 entries, a log of 1 to 1,024 operations, a roll of 1 to 256 configurations
abbrev pub right_lengths : ℕ → ℕ → ℕ → Bool
right_lengths post log roll =
    (nat_le 1 post && nat_le post 4096)
    && ((nat_le 1 log && nat_le log 1024) && (nat_le 1 roll && nat_le roll 256))

abbrev pub lengths_of : Lent → Lengths
lengths_of t = record { post = places t.post; log = places t.log; roll = places t.roll }

-- and one seat for each client
abbrev pub right_tables : Rules → Lent → Bool
right_tables rules t =
    right_lengths (places t.post) (places t.log) (places t.roll) && length t.seats == rules.clients

abbrev pub too_few : Option ℕ → ℕ → Bool
too_few None replicas = false
too_few (Some saves) replicas = nat_lt saves replicas

-- an opening is refused for its tables, or because fewer saves are left than there are replicas
abbrev pub admitted : Rules → Lent → Option ℕ → Result Lengths HallFault
admitted rules t saves =
    cond (not (right_tables rules t)) (Err Limit)
    (cond (too_few saves rules.replicas) (Err (OfStore (NoSave 0)))
    (Ok (lengths_of t)))

-- the cards once the first n replicas have their first cards
unfoldable pub with_first_cards : Rules → (ℕ → Option Card) → ℕ → ℕ → Option Card
with_first_cards rules place zero = place
with_first_cards rules place (suc n) = put (with_first_cards rules place n) n (first_card rules n)

abbrev pub fewer : Option ℕ → ℕ → Option ℕ
fewer None n = None
fewer (Some saves) n = Some (saves - n)

-- an empty list over the same places
abbrev pub emptied : {T : Type 0} → Table T → Table T
emptied t = record { list = []; rest = t.list ++ t.rest }

abbrev pub opening_with : Rules → Word → Rules
opening_with rules word = record rules { opening = word }

-- the tables as an opening leaves them: post and log empty, the first configuration on the roll, every client idle
abbrev pub laid_out : Rules → Lent → Lent
laid_out rules t = record {
  post = emptied t.post;
  log = emptied t.log;
  roll = grown (emptied t.roll) (first_configuration rules);
  seats = replicate (length t.seats) (first_seat rules);
}

-- the hall that an opening leaves: its tables, a first card for each replica, and no moment counted
abbrev pub opened : Rules → ℕ → Lent → Shelf → Desk → Hall
opened rules marked t shelf desk = record {
  rules = rules;
  marked = marked;
  lengths = lengths_of t;
  source = record { newest = 0 };
  moment = 0;
  post = (laid_out rules t).post;
  log = (laid_out rules t).log;
  roll = (laid_out rules t).roll;
  seats = (laid_out rules t).seats;
  place = with_first_cards rules shelf.place rules.replicas;
  saves = fewer shelf.saves rules.replicas;
  seals = desk.seals;
}

abbrev pub refused_by : {A : Type 0} → Result A HallFault → Option HallFault
refused_by (Ok a) = None
refused_by (Err fault) = Some fault
