-- How the register's values make the hall and the world of the model, and its answers those of the model.
use Rattle.std.specs.Prelude.{ℕ, false, None, Ok, Err, Result}
use Rattle.wire.specs.declared.pair.Pair.{Pair}
use Rattle.lists.specs.declared.List.{List as Lent}
use Rattle.lists.specs.Held.{held, behind}
use Rattle.stores.specs.Saved.{Shelf}
use Rattle.sealers.specs.Sealing.{Desk, none_beside}
use Rattle.halls.specs.declared.fault.HallFault.{HallFault}
use Rattle.halls.specs.declared.fault.HallFault.TheVariants.{Step}
use Rattle.halls.specs.declared.fault.StepFault.{StepFault}
use Rattle.model.specs.Tables.{Table}
use Rattle.model.specs.Halls.{Hall, World}
use Rattle.model.specs.Answers.{Answer, Outcome, answers, done, slip, pair, refused}
use Rattle.register.specs.declared.hall.Hall.{Hall as TheHall}
use Rattle.register.specs.declared.slip.Kept.{Kept}
use Rattle.register.specs.declared.slip.Slip.{Slip}
use Rattle.register.specs.declared.tables.Tables.{Tables}

-- a list: what it holds, and what lies behind it in the slice
abbrev pub table : {T : Type 0} → Lent T → Table T
table l = record { list = held l; rest = behind l }

-- a hall, its tables, and the meanings of its store and its sealer
abbrev pub hall_of : {K : Type 0} → TheHall K → Tables → Shelf → Desk → Hall
hall_of h t shelf desk = record {
  rules = h.rules;
  marked = h.marked.0;
  lengths = record { post = h.lengths.post; log = h.lengths.log; roll = h.lengths.roll };
  source = h.source;
  moment = h.moment;
  post = table t.post;
  log = table t.log;
  roll = table t.roll;
  seats = t.seats.now;
  place = shelf.place;
  saves = shelf.saves;
  seals = desk.seals;
}

-- the world of the model that a hall makes with its tables, its store and its sealer
abbrev pub world : {K : Type 0} → TheHall K → Tables → Shelf → Desk → World
world h t shelf desk = record {
  hall = hall_of h t shelf desk;
  genuine = desk.genuine;
  left_open = record { next = shelf.next; allowed = desk.allowed; beside = desk.beside };
}

-- store and sealer of a hall where they do not matter: nothing is kept, and nothing sealed
abbrev pub bare : {K : Type 0} → TheHall K → Tables → Hall
bare h t = hall_of h t
    (record { place = λ n. None; saves = None; next = 0 })
    (record { genuine = λ t s. false; seals = λ p. 0; allowed = λ t s. false; beside = none_beside })

-- what a call answers that has nothing to tell
abbrev pub done_or : {V : Type 0} → Result (Unit {0}) HallFault → Answer V
done_or (Ok u) = done
done_or (Err fault) = refused fault

-- a refusal of the step of whoever the entry of this number was handed to
abbrev pub stepped_or : {V : Type 0} → ℕ → Result (Unit {0}) StepFault → Answer V
stepped_or number (Ok u) = done
stepped_or number (Err fault) = refused (Step number fault)

-- a refusal that hands a slip back
abbrev pub done_or_kept : {V : Type 0} → Result (Unit {0}) Kept → Answer V
done_or_kept (Ok u) = done
done_or_kept (Err kept) = refused kept.fault

abbrev pub pair_or_kept : {V : Type 0} → Result (Pair × V) Kept → Answer V
pair_or_kept (Ok got) = pair got.0 got.1
pair_or_kept (Err kept) = refused kept.fault

abbrev pub slip_or : {V : Type 0} → Result Slip HallFault → Answer V
slip_or (Ok s) = slip s.client s.operation
slip_or (Err fault) = refused fault

-- what a call that seals nothing answers and leaves
abbrev pub outcome : {K V : Type 0} → Answer V → TheHall K → Tables → Shelf → Desk → Outcome V
outcome answer h t shelf desk = answers answer (hall_of h t shelf desk)
