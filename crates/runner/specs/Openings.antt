-- The hall that a set-up asks for, as it is opened for a script.
use Rattle.std.specs.Prelude.{ℕ, zero, suc, ◌+◌, ◌*◌, min, false, cond, [], replicate, is_some, Some, None, Ok, Err, Option, Result, ◌==◌}
use Rattle.kinds.specs.declared.bin_weight.BinWeight.{BinWeight}
use Rattle.kinds.specs.declared.fault.KindFault.TheVariants.{NoValue}
use Rattle.kinds.specs.BinWeights.{weight, weight_word}
use Rattle.wire.specs.Sets.{member}
use Rattle.wire.specs.Parties.{party_of}
use Rattle.stores.specs.Saved.{Shelf}
use Rattle.sealers.specs.Sealing.{Desk, none_beside}
use Rattle.clients.specs.Lines.{idle_line}
use Rattle.halls.specs.declared.fault.HallFault.{HallFault}
use Rattle.halls.specs.declared.seat.Seat.{Seat}
use Rattle.script.specs.declared.command.SetUp.{SetUp}
use Rattle.model.specs.Halls.{Hall, Lengths, no_entry, no_operation, no_configuration}
use Rattle.register.specs.Setups.{Settings, set_up, mark_called}
use Rattle.register.specs.Openings.{Lent, admitted, opened, opening_with}
use Rattle.runner.specs.declared.fault.ScriptFault.{ScriptFault}
use Rattle.runner.specs.declared.fault.ScriptFault.TheVariants.{Kind, Hall as OfHall}

-- goes on with what a mark leaves, unless it is refused
abbrev pub unless_refused : Result (Unit {0}) HallFault → Settings → (Settings → Result Settings HallFault) → Result Settings HallFault
unless_refused (Ok u) s next = next s
unless_refused (Err fault) s next = Err fault

-- the replicas of a set whose numbers are below n are marked, from the highest number down
unfoldable pub marks : ℕ → ℕ → Settings → Result Settings HallFault
marks zero set s = Ok s
marks (suc n) set s =
    cond (member set n)
    (unless_refused (mark_called s (100 + n)).answer (mark_called s (100 + n)).settings (marks n set))
    (marks n set s)

-- the settings of a hall with these replicas marked
abbrev pub marked : ℕ → Result Settings HallFault → Result Settings HallFault
marked set (Ok s) = marks 64 set s
marked set (Err fault) = Err fault

-- a seat that is not laid out yet
abbrev pub empty_seat : Seat
empty_seat = record { line = idle_line no_configuration; operation = 0; lodged = None }

-- a post of 512 places, a log of 64, a roll of 16 and a seat for each client, with nothing in them
abbrev pub tables_for : ℕ → Lent
tables_for clients = record {
  post = record { list = []; rest = replicate 512 no_entry };
  log = record { list = []; rest = replicate 64 no_operation };
  roll = record { list = []; rest = replicate 16 no_configuration };
  seats = replicate (min 32 clients) empty_seat;
}

-- a cabinet without a card
abbrev pub empty_cabinet : Shelf
empty_cabinet = record { place = λ n. None; saves = None; next = 0 }

-- a book of which no seal is used
abbrev pub fresh_book : Desk
fresh_book = record {
  genuine = λ text seal. false;
  seals = λ party. cond (is_some (party_of party)) 64 0;
  allowed = λ text seal. seal.0 == text.party * 64;
  beside = none_beside;
}

module _ (t : Lent) (shelf : Shelf) (desk : Desk) where
  -- opened with a value over these tables, this store and this sealer, if they suffice
  abbrev pub opened_if : Settings → BinWeight → Result Lengths HallFault → Result Hall ScriptFault
  opened_if s v (Ok lengths) = Ok (opened (opening_with s.rules (weight_word v)) s.marked.0 t shelf desk)
  opened_if s v (Err fault) = Err (OfHall fault)

  abbrev pub opened_as : BinWeight → Result Settings HallFault → Result Hall ScriptFault
  opened_as v (Ok s) = opened_if s v (admitted s.rules t shelf.saves)
  opened_as v (Err fault) = Err (OfHall fault)

  abbrev pub valued_as : SetUp → Option BinWeight → Result Hall ScriptFault
  valued_as asked None = Err (Kind NoValue)
  valued_as asked (Some v) = opened_as v (marked asked.marked.0 (set_up asked.faults asked.replicas asked.clients asked.set))

  -- there has to be such a value; then the hall is set up, marked and opened
  abbrev pub opening_over : SetUp → Result Hall ScriptFault
  opening_over asked = valued_as asked (weight asked.grams asked.lot)

-- with tables, store and sealer as a script has them
abbrev pub opening : SetUp → Result Hall ScriptFault
opening asked = opening_over (tables_for asked.clients) empty_cabinet fresh_book asked
