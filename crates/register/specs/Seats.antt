-- The seat that a slip belongs to, and what a call makes of it, or why it is refused.
use Rattle.std.specs.Prelude.{ℕ, not, List, [], ◌∷◌, Some, None, Ok, Err, Option, Result, refl}
use Rattle.refusals.specs.Checks.{Check, checked}
use Rattle.refusals.specs.declared.Layer.TheVariants.{Hall as InHall, Client as InClient}
use Rattle.kinds.specs.declared.word.Word.{Word}
use Rattle.kinds.specs.declared.fault.KindFault.TheVariants.{NoValue}
use Rattle.halls.specs.declared.fault.HallFault.{HallFault}
use Rattle.halls.specs.declared.fault.HallFault.TheVariants.{WrongTables, NotItsSlip, NotNow, Kind as OfKind}
use Rattle.halls.specs.declared.seat.Seat.{Seat}
use Rattle.halls.specs.Faults.{check}
use Rattle.model.specs.Halls.{Hall, has_its_tables, seat_of}
use Rattle.model.specs.Delivering.{is_over}
use Rattle.model.specs.Slips.{is_its_slip, freed}

-- the tables are those of the opening, the slip (c, k) is that of client c's present operation, and these tests find nothing
abbrev pub with_slip : {A : Type 0} → Hall → ℕ → ℕ → List (Check HallFault) → Result A HallFault → Result A HallFault
with_slip h c k tests result =
    checked
    (check (not (has_its_tables h)) 4 InHall 0 WrongTables refl
    ∷ check (not (is_its_slip h c k)) 18 InClient c (NotItsSlip c) refl
    ∷ tests)
    Err result

-- the seat of the client whose present operation the slip (c, k) is of
abbrev pub its_seat : Hall → ℕ → ℕ → Result Seat HallFault
its_seat h c k = with_slip h c k [] (Ok (seat_of h c))

-- the seat once its operation is called off
abbrev pub called_off : Hall → ℕ → ℕ → Result Seat HallFault
called_off h c k =
    with_slip h c k
    (check (is_over (seat_of h c).line.stage) 19 InClient c (NotNow c) refl ∷ [])
    (Ok (freed (seat_of h c)))

abbrev pub with_value : {V : Type 0} → Option V → Seat → Result (Seat × V) HallFault
with_value None seat = Err (OfKind NoValue)
with_value (Some v) seat = Ok (seat, v)

-- the seat whose operation is over, and the value that it gives
abbrev pub collected : {V : Type 0} → (Word → Option V) → Hall → ℕ → ℕ → Result (Seat × V) HallFault
collected value h c k =
    with_slip h c k
    (check (not (is_over (seat_of h c).line.stage)) 19 InClient c (NotNow c) refl ∷ [])
    (with_value (value (seat_of h c).line.highest.word) (seat_of h c))
