-- Begin: a client starts to read, or to write a value.
use Rattle.std.specs.Prelude.{ℕ, ◌+◌, Bool, true, false, not, ◌||◌, [], ◌∷◌, length, is_some, Some, None, Ok, Err, Option, Result, refl}
use Rattle.refusals.specs.Checks.{checked}
use Rattle.refusals.specs.declared.Layer.TheVariants.{Hall as InHall, Client as InClient}
use Rattle.kinds.specs.declared.word.Word.{Word}
use Rattle.wire.specs.declared.entry.Entry.{Entry}
use Rattle.wire.specs.declared.party.Party.{Party}
use Rattle.wire.specs.declared.party.Party.TheVariants.{Client as AClient}
use Rattle.wire.specs.Parties.{Client}
use Rattle.clients.specs.declared.fault.ClientFault.{ClientFault}
use Rattle.clients.specs.declared.fault.ClientFault.TheVariants.{Busy}
use Rattle.clients.specs.declared.line.Line.{Line}
use Rattle.clients.specs.Lines.{is_idle}
use Rattle.clients.specs.Steps.{Begun, begun}
use Rattle.halls.specs.declared.fault.HallFault.TheVariants.{NoSuch, Full, Client as OfClient}
use Rattle.halls.specs.declared.operation.Operation.{Operation}
use Rattle.halls.specs.Faults.{check}
use Rattle.model.specs.Tables.{is_full, added}
use Rattle.model.specs.Halls.{Hall, World, seat_of, party_in, with_post, with_seat, with_log}
use Rattle.model.specs.Answers.{Outcome, slip, refuses, answers, after_tests, has_moment}

abbrev pub word_or_none : Option Word → Word
word_or_none None = record { 0 = 0 }
word_or_none (Some word) = word

-- the line of the log: begun at this moment, neither ended nor stamped
abbrev pub new_operation : ℕ → Option Word → ℕ → Operation
new_operation client word moment = record {
  client = client;
  writes = is_some word;
  began = moment;
  ended = None;
  pair = record { stamp = record { count = 0; writer = 0 }; word = word_or_none word; seal = record { 0 = 0 } };
}

-- READ is posted, the operation is logged with the next moment, and the client gets its slip
abbrev pub beginning : {V : Type 0} → Result Entry ClientFault → Line → Client → Option Word → Hall → Outcome V
beginning (Ok read) line client word h =
    answers (slip client.number (length h.log.list))
    (with_log
    (with_seat (with_post h (added h.post read)) client.number
    (record { line = line; operation = length h.log.list; lodged = (seat_of h client.number).lodged }))
    (added h.log (new_operation client.number word (h.moment + 1)))
    (h.moment + 1))
beginning (Err fault) line client word h = refuses h (OfClient fault)

abbrev pub begin_done : {V : Type 0} → Begun → Client → Option Word → Hall → Outcome V
begin_done b client word h = beginning b.answer b.line client word h

-- a client begins only once its operation is collected or called off, and with a place for all that is added;
-- then 10 and 8 are its own tests
abbrev pub begin_by : {V : Type 0} → Option Party → ℕ → Hall → Option Word → Outcome V
begin_by (Some (AClient client)) n h word =
    checked
    (check (not (is_idle (seat_of h n).line.stage)) 7 InClient client.number (OfClient (Busy client)) refl
    ∷ check (is_full h.log || (is_full h.post || not (has_moment h))) 6 InHall n (Full n) refl
    ∷ [])
    (refuses h)
    (begin_done (begun client (seat_of h n).line word h.seals) client word h)
begin_by nobody n h word = refuses h (NoSuch n)

abbrev pub is_client_in : Option Party → Bool
is_client_in (Some (AClient client)) = true
is_client_in nobody = false

-- a read has no word, a write has its value's
abbrev pub begin_called : {V : Type 0} → World → ℕ → Option Word → Outcome V
begin_called w n word =
    after_tests w.hall
    (check (not (is_client_in (party_in w.hall.rules n))) 5 InHall n (NoSuch n) refl
    ∷ [])
    (begin_by (party_in w.hall.rules n) n w.hall word)
