-- What marking and opening answer and leave, and the memory in which a script's tables lie.
use Rattle.std.specs.Prelude.{◌≡◌, ◌*◌, length, replicate, Ok, Err, Result}
use Rattle.std.specs.Vec.{vec_items, vec_len}
use Rattle.kinds.specs.declared.bin_weight.BinWeight.{BinWeight}
use Rattle.stores.specs.Saved.{Shelf}
use Rattle.sealers.specs.Sealing.{Desk}
use Rattle.halls.specs.declared.fault.HallFault.{HallFault}
use Rattle.model.specs.Halls.{Hall, no_entry, no_operation, no_configuration}
use Rattle.register.specs.declared.hall.Hall.{Hall as TheHall}
use Rattle.register.specs.declared.tables.Tables.{Tables}
use Rattle.register.specs.Setups.{Settings}
use Rattle.register.specs.Worlds.{hall_of}
use Rattle.runner.specs.declared.fault.ScriptFault.{ScriptFault}
use Rattle.runner.specs.declared.memory.Memory.{Memory}
use Rattle.runner.specs.Openings.{empty_seat}

-- the settings that marking leaves, unless it is refused
abbrev pub settings_if : Result (Unit {0}) HallFault → Settings → Result Settings HallFault
settings_if (Ok u) s = Ok s
settings_if (Err fault) s = Err fault

-- the hall that an opening leaves with these tables, unless it is refused
abbrev pub hall_or : Result (TheHall BinWeight) ScriptFault → Tables → Shelf → Desk → Result Hall ScriptFault
hall_or (Ok h) t shelf desk = Ok (hall_of h t shelf desk)
hall_or (Err fault) t shelf desk = Err fault

-- the tables' places, and the rows of a book in which each party has 64
pub record Fresh (m : Memory) : Type 0 where
  pub post : vec_items m.post ≡ replicate 512 no_entry
  pub log : vec_items m.log ≡ replicate 64 no_operation
  pub roll : vec_items m.roll ≡ replicate 16 no_configuration
  pub seats : vec_items m.seats ≡ replicate 32 empty_seat
  pub many : vec_len m.seats ≡ 32
  pub rows : length (vec_items m.rows) ≡ 164 * 64
