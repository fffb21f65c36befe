-- The rule of a seat, from and to the stage that it is in.
-- What is the same in every stage is apart.
use Rattle.std.proofs.Common.{◌≡◌, ℕ, sym, subst}
use Rattle.clients.specs.declared.line.Stage.{Stage}
use Rattle.halls.specs.declared.seat.Seat.{Seat}
use Rattle.model.specs.Halls.{World}
use Rattle.model.proofs.Invariants.{SeatBase, InStage, SeatRule}

-- what a seat keeps in its stage
pub in_stage : {kind : ℕ} {w : World} {c : ℕ} {seat : Seat} {s : Stage} → SeatRule kind w c seat → seat.line.stage ≡ s → InStage kind w c seat.line seat.operation s
in_stage {kind} {w} {c} {seat} r is = subst (InStage kind w c seat.line seat.operation) is r.stage

-- the seat's rule, from what it keeps in every stage and in its own
pub seat_in : {kind : ℕ} {w : World} {c : ℕ} {seat : Seat} {s : Stage} → SeatBase w c seat.line seat.operation → seat.line.stage ≡ s → InStage kind w c seat.line seat.operation s → SeatRule kind w c seat
seat_in {kind} {w} {c} {seat} base is rule = record { base = base; stage = subst (InStage kind w c seat.line seat.operation) (sym is) rule }
