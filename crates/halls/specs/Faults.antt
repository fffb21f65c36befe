-- As which refusal each fault of a hall stands: number, layer and place.
use Rattle.std.specs.Prelude.{◌≡◌, ℕ, Bool}
use Rattle.refusals.specs.Checks.{Check, check_by}
use Rattle.refusals.specs.declared.Layer.{Layer}
use Rattle.refusals.specs.declared.Refusal.{Refusal}
use Rattle.refusals.specs.declared.Layer.TheVariants.{Hall, Client as TheClient}
use Rattle.refusals.specs.Places.{moved}
use Rattle.kinds.specs.Faults.{kind_refusal}
use Rattle.stores.specs.Faults.{store_refusal}
use Rattle.clients.specs.Faults.{client_refusal}
use Rattle.replicas.specs.Faults.{replica_refusal}
use Rattle.source.specs.Issued.{source_refusal}
use Rattle.halls.specs.declared.fault.HallFault.{HallFault}
use Rattle.halls.specs.declared.fault.HallFault.TheVariants.{Limit, WrongSet, TooManyMarked, WrongTables, NoSuch, Full, Unfit, NotMarked, NotItsSlip, NotNow, Client, Source, Store, Kind, Step}
use Rattle.halls.specs.declared.fault.StepFault.{StepFault}
use Rattle.halls.specs.declared.fault.StepFault.TheVariants.{Client as AClient, Replica as AReplica}

abbrev pub step_refusal : StepFault → Refusal
step_refusal (AClient fault) = client_refusal fault
step_refusal (AReplica fault) = replica_refusal fault

-- a fault of a layer below stands as that layer's own; one of a step has the entry that was handed over as its place
abbrev pub hall_refusal : HallFault → Refusal
hall_refusal Limit = record { number = 1; layer = Hall; place = 0 }
hall_refusal WrongSet = record { number = 2; layer = Hall; place = 0 }
hall_refusal (TooManyMarked place) = record { number = 3; layer = Hall; place = place }
hall_refusal WrongTables = record { number = 4; layer = Hall; place = 0 }
hall_refusal (NoSuch place) = record { number = 5; layer = Hall; place = place }
hall_refusal (Full place) = record { number = 6; layer = Hall; place = place }
hall_refusal (Unfit place) = record { number = 11; layer = Hall; place = place }
hall_refusal (NotMarked place) = record { number = 20; layer = Hall; place = place }
hall_refusal (NotItsSlip place) = record { number = 18; layer = TheClient; place = place }
hall_refusal (NotNow place) = record { number = 19; layer = TheClient; place = place }
hall_refusal (Client fault) = client_refusal fault
hall_refusal (Source fault) = source_refusal fault
hall_refusal (Store fault) = store_refusal fault
hall_refusal (Kind fault) = kind_refusal fault
hall_refusal (Step place fault) = moved (step_refusal fault) place

-- a test of a call of the hall, with number, layer and place of its refusal
abbrev pub check : Bool → (number : ℕ) (layer : Layer) (place : ℕ) (fault : HallFault)
    → hall_refusal fault ≡ record { number = number; layer = layer; place = place } → Check HallFault
check = check_by hall_refusal
