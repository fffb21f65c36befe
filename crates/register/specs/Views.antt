-- What a set-up and the tables that are lent say.
use Rattle.std.specs.Prelude.{◌≡◌, Some, None, Ok, Err, Option, Result}
use Rattle.stores.specs.Saved.{Shelf}
use Rattle.halls.specs.declared.fault.HallFault.{HallFault}
use Rattle.model.specs.Halls.{Lengths}
use Rattle.register.specs.declared.hall.Hall.{Hall}
use Rattle.register.specs.declared.lengths.Lengths.{Lengths as TheLengths}
use Rattle.register.specs.declared.setup.Setup.{Setup}
use Rattle.register.specs.declared.tables.Tables.{Tables}
use Rattle.register.specs.Setups.{Settings}
use Rattle.register.specs.Openings.{Lent}
use Rattle.register.specs.Worlds.{table}

abbrev pub settings : Setup → Settings
settings s = record { rules = s.rules; marked = s.marked }

abbrev pub settings_or : Result Setup HallFault → Result Settings HallFault
settings_or (Ok s) = Ok (settings s)
settings_or (Err fault) = Err fault

abbrev pub lent : Tables → Lent
lent t = record { post = table t.post; log = table t.log; roll = table t.roll; seats = t.seats.now }

abbrev pub lengths : TheLengths → Lengths
lengths l = record { post = l.post; log = l.log; roll = l.roll }

abbrev pub lengths_or : Result TheLengths HallFault → Result Lengths HallFault
lengths_or (Ok l) = Ok (lengths l)
lengths_or (Err fault) = Err fault

abbrev pub fault_of : {K : Type 0} → Result (Hall K) (Setup × HallFault) → Option HallFault
fault_of (Ok hall) = None
fault_of (Err refused) = Some refused.1

-- a refused opening hands the set-up back, and leaves tables and store as they were
pub record Stands (before after : Setup) (tables tables_after : Tables) (shelf shelf_after : Shelf) : Type 0 where
  pub setup : settings after ≡ settings before
  pub lent_tables : lent tables_after ≡ lent tables
  pub store : shelf_after ≡ shelf
