-- Call off, collect, lodge and redeem: what becomes of an operation's slip.
use Rattle.std.specs.Prelude.{ℕ, Bool, not, ◌&&◌, [], ◌∷◌, is_none, Some, None, Option, ◌==◌, nat_le, refl}
use Rattle.refusals.specs.declared.Layer.TheVariants.{Client as InClient, Kind as InKind}
use Rattle.kinds.specs.declared.fault.KindFault.TheVariants.{NoValue}
use Rattle.wire.specs.declared.pair.Pair.{Pair}
use Rattle.clients.specs.declared.line.Line.{Line}
use Rattle.clients.specs.declared.line.Stage.TheVariants.{Idle}
use Rattle.clients.specs.Lines.{is_idle}
use Rattle.halls.specs.declared.fault.HallFault.TheVariants.{NotItsSlip, NotNow, Kind as OfKind}
use Rattle.halls.specs.declared.seat.Seat.{Seat}
use Rattle.halls.specs.Faults.{check}
use Rattle.model.specs.Delivering.{is_over}
use Rattle.kinds.specs.Kinds.{RecordKind}
use Rattle.model.specs.Halls.{Hall, World, seat_of, with_seat}
use Rattle.model.specs.Answers.{Outcome, done, slip, pair, refuses, answers, after_tests}

-- a client of the hall has this present operation: it is neither collected nor called off
abbrev pub is_its_slip : Hall → ℕ → ℕ → Bool
is_its_slip h c k =
    (nat_le 1 c && nat_le c h.rules.clients)
    && (not (is_idle (seat_of h c).line.stage) && (seat_of h c).operation == k)

-- the client is idle; what it has counted and stamped stays
abbrev pub released : Line → Line
released line = record line { stage = Idle }

abbrev pub freed : Seat → Seat
freed seat = record seat { line = released seat.line }

abbrev pub holding_slip : Seat → Option ℕ → Seat
holding_slip seat lodged = record seat { lodged = lodged }

-- call off: not once it is over; the operation stays unfinished for good
abbrev pub call_off_called : {V : Type 0} → World → ℕ → ℕ → Outcome V
call_off_called w c k =
    after_tests w.hall
    (check (not (is_its_slip w.hall c k)) 18 InClient c (NotItsSlip c) refl
    ∷ check (is_over (seat_of w.hall c).line.stage) 19 InClient c (NotNow c) refl
    ∷ [])
    (answers done (with_seat w.hall c (freed (seat_of w.hall c))))

-- a word that is no value's is refused
abbrev pub collecting : {V : Type 0} → Option V → Hall → ℕ → Pair → Outcome V
collecting None h c p = refuses h (OfKind NoValue)
collecting (Some v) h c p = answers (pair p v) (with_seat h c (freed (seat_of h c)))

-- collect: once it is over; pair and value of the operation
abbrev pub collect_called : {V : Type 0} → RecordKind V → World → ℕ → ℕ → Outcome V
collect_called kind w c k =
    after_tests w.hall
    (check (not (is_its_slip w.hall c k)) 18 InClient c (NotItsSlip c) refl
    ∷ check (not (is_over (seat_of w.hall c).line.stage)) 19 InClient c (NotNow c) refl
    ∷ check (is_none (kind.value (seat_of w.hall c).line.highest.word)) 21 InKind 0 (OfKind NoValue) refl
    ∷ [])
    (collecting (kind.value (seat_of w.hall c).line.highest.word) w.hall c (seat_of w.hall c).line.highest)

-- lodge: the client's seat holds the slip
abbrev pub lodge_called : {V : Type 0} → World → ℕ → ℕ → Outcome V
lodge_called w c k =
    after_tests w.hall
    (check (not (is_its_slip w.hall c k)) 18 InClient c (NotItsSlip c) refl
    ∷ [])
    (answers done (with_seat w.hall c (holding_slip (seat_of w.hall c) (Some k))))

abbrev pub redeeming : {V : Type 0} → Option ℕ → Hall → ℕ → Outcome V
redeeming None h c = refuses h (NotItsSlip c)
redeeming (Some k) h c = answers (slip c k) (with_seat h c (holding_slip (seat_of h c) None))

-- redeem: the slip that is lodged with a client of the hall
abbrev pub redeem_called : {V : Type 0} → World → ℕ → Outcome V
redeem_called w c =
    after_tests w.hall
    (check (not (nat_le 1 c && nat_le c w.hall.rules.clients)) 18 InClient c (NotItsSlip c) refl
    ∷ check (is_none (seat_of w.hall c).lodged) 18 InClient c (NotItsSlip c) refl
    ∷ [])
    (redeeming (seat_of w.hall c).lodged w.hall c)
