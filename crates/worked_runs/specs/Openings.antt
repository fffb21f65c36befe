-- An opening with tables of a few places, for one faulty replica and the bin weight.
use Rattle.std.specs.Prelude.{◌≡◌, ℕ, true, false, cond, refl, List, [], ◌∷◌, replicate, pos, is_some, Some, None, Ok, nat_lt}
use Rattle.kinds.specs.declared.bin_weight.BinWeight.{BinWeight}
use Rattle.kinds.specs.BinWeights.{weight_word}
use Rattle.wire.specs.declared.text.Text.{Text}
use Rattle.wire.specs.Parties.{party_of}
use Rattle.stores.specs.declared.cabinet.Cabinet.{Cabinet}
use Rattle.stores.specs.Cabinets.{kept, cabinet_shelf}
use Rattle.sealers.specs.declared.book.Book.{Book}
use Rattle.sealers.specs.Books.{book_desk, Opened as BookOpened}
use Rattle.sealers.specs.Sealing.{none_beside}
use Rattle.rules.specs.declared.rules.Rules.{Rules}
use Rattle.rules.specs.Genuine.{first_configuration}
use Rattle.model.specs.Halls.{Hall, World, no_entry, no_operation, no_configuration, no_seat}
use Rattle.model.specs.Runs.{first_card, first_seat}
use Rattle.register.specs.Openings.{Lent, admitted, opened}

-- what the register opens with: 0 g, lot 412
abbrev pub opening_weight : BinWeight
opening_weight = record { grams = pos 0; lot = 412; ok = refl }

-- f = 1, this many replicas and clients, the first set {0, 1, 2, 3}
abbrev pub rules_for : (replicas clients : ℕ) → Rules
rules_for replicas clients = record {
  faults = 1;
  replicas = replicas;
  clients = clients;
  first = record { 0 = 15 };
  opening = weight_word opening_weight;
}

-- what the opening leaves, with these replicas marked: a post of 32 places, a log of 4 and a roll
-- of 4, saves without end, and 64 seals for each party
abbrev pub opened_hall : Rules → ℕ → Hall
opened_hall rules marked = record {
  rules = rules;
  marked = marked;
  lengths = record { post = 32; log = 4; roll = 4 };
  source = record { newest = 0 };
  moment = 0;
  post = record { list = []; rest = replicate 32 no_entry };
  log = record { list = []; rest = replicate 4 no_operation };
  roll = record { list = first_configuration rules ∷ []; rest = replicate 3 no_configuration };
  seats = replicate rules.clients (first_seat rules);
  place = λ n. cond (nat_lt n rules.replicas) (Some (first_card rules n)) None;
  saves = None;
  seals = λ party. cond (is_some (party_of party)) 64 0;
}

-- no seal is genuine yet, and a text may get any seal
abbrev pub opened_world : Rules → ℕ → World
opened_world rules marked = record {
  hall = opened_hall rules marked;
  genuine = λ t s. false;
  left_open = record { next = 0; allowed = λ t s. true; beside = none_beside };
}

-- the tables that are lent for it: nothing is in them, and each client has a seat
abbrev pub lent_for : Rules → Lent
lent_for rules = record {
  post = record { list = []; rest = replicate 32 no_entry };
  log = record { list = []; rest = replicate 4 no_operation };
  roll = record { list = []; rest = replicate 4 no_configuration };
  seats = replicate rules.clients no_seat;
}

-- a cabinet without a card, and an empty book of 64 rows for each party
pub record Unused (cabinet : Cabinet) (book : Book) : Type 0 where
  pub no_card : (n : ℕ) → kept cabinet n ≡ None
  pub rows : List Text
  pub no_row : BookOpened rows 64 (Ok book)

-- the opening of a register with these rules and marks leaves this world
pub record LeftByOpening (rules : Rules) (marked : ℕ) (start : World) : Type 0 where
  -- it takes the tables that are lent, and saves without end
  pub taken : admitted rules (lent_for rules) None ≡ Ok start.hall.lengths
  -- and leaves this hall, over an unused cabinet and an unused book
  pub left : (c : Cabinet) (b : Book) → Unused c b
      → start.hall ≡ opened rules marked (lent_for rules) (cabinet_shelf c) (book_desk b)
  -- which says of no seal that it is genuine
  pub genuine : (c : Cabinet) (b : Book) → Unused c b → start.genuine ≡ (book_desk b).genuine
