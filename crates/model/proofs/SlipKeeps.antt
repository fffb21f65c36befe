-- Call off, collect, lodge and redeem keep every rule: they change one seat, and nothing that its rule speaks of.
-- The lemmas speak of the hall that each call leaves.
use Rattle.std.proofs.Common.{ℕ, ◌-◌, ◌≤◌, List, set, Option, sym, refl, arith, length-set}
use borrow.Author.Tests.{clash}
use Rattle.wire.specs.declared.text.Text.{Text}
use Rattle.histories.specs.Places.{done}
use Rattle.halls.specs.declared.seat.Seat.{Seat}
use Rattle.model.specs.Halls.{LeftOpen, World}
use Rattle.model.specs.Slips.{freed, holding_slip}
use Rattle.model.proofs.Frames.{seat_stays}
use Rattle.model.proofs.Invariants.{history, SeatRule, Holds}
use Rattle.model.proofs.Posts.{aside, later_aside, seat_aside, seats_keep}
use Rattle.model.proofs.Tables.{seats_with}

pub one_seat_keeps : (kind : ℕ) (sealed : List Text) (w : World) (c : ℕ) (seat : Seat) (left_open : LeftOpen)
    → Holds kind sealed w → 1 ≤ c → c ≤ w.hall.rules.clients → SeatRule kind w c seat
    → Holds kind sealed (aside w (set w.hall.seats (c - 1) seat) w.hall.place w.hall.saves w.hall.seals left_open)
unfolding later_aside history
one_seat_keeps kind sealed w c seat left_open holds low high rule =
    seats_keep kind sealed w (set w.hall.seats (c - 1) seat) left_open holds (length-set w.hall.seats (c - 1) seat)
    (seats_with c seat holds.sized low high
    (seat_stays kind c seat (later_aside w (set w.hall.seats (c - 1) seat) w.hall.place w.hall.saves w.hall.seals left_open) refl done holds.log (omega arith) rule)
    (λ d dlow dhigh ne. seat_aside kind sealed w (set w.hall.seats (c - 1) seat) w.hall.place w.hall.saves w.hall.seals left_open holds d dlow dhigh (omega arith)))

-- an idle seat is bound by little
pub freed_rule : {kind : ℕ} {w : World} {c : ℕ} {seat : Seat} → SeatRule kind w c seat → SeatRule kind w c (freed seat)
freed_rule s = record {
  base = record { configuration = s.configuration; past = s.past; own = λ busy. absurd (clash (sym busy)); opens = λ o. absurd (clash o) };
  stage = tt;
}

-- which slip is lodged does not matter
pub lodged_rule : {kind : ℕ} {w : World} {c : ℕ} {seat : Seat} (lodged : Option ℕ) → SeatRule kind w c seat → SeatRule kind w c (holding_slip seat lodged)
lodged_rule lodged s = record { base = s.base; stage = s.stage }
