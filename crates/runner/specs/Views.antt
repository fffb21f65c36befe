-- The world of a hall that runs a script, and what its calls are told as.
use Rattle.std.specs.Prelude.{◌≡◌, ℕ, true, Some, Ok, Err, Option, Result}
use Rattle.std.specs.Option.{option_map}
use Rattle.std.specs.Result.{result_err}
use Rattle.kinds.specs.declared.bin_weight.BinWeight.{BinWeight}
use Rattle.stores.specs.Cabinets.{cabinet_shelf}
use Rattle.sealers.specs.Books.{book_desk}
use Rattle.halls.specs.declared.fault.HallFault.{HallFault}
use Rattle.model.specs.Halls.{World}
use Rattle.model.specs.Answers.{slip}
use Rattle.model.specs.Calls.{Call, redeem, lodge}
use Rattle.register.specs.declared.slip.Slip.{Slip}
use Rattle.register.specs.Worlds.{world as world_of}
use Rattle.runner.specs.declared.fault.ScriptFault.{ScriptFault}
use Rattle.runner.specs.declared.fault.ScriptFault.TheVariants.{Hall}
use Rattle.runner.specs.declared.running.Running.{Running}
use Rattle.runner.specs.Slips.{holds_its_slip}
use Rattle.runner.specs.Asks.{calls, over, redeeming}
use Rattle.runner.specs.Plays.{BookStep, Does}

abbrev pub world : Running → World
world r = world_of r.hall r.tables (cabinet_shelf r.store) (book_desk r.sealer)

-- a refusal of the hall as the line's
abbrev pub hall_fault : {A : Type 0} → Result A HallFault → Option ScriptFault
hall_fault r = option_map Hall (result_err r)

-- a slip is lodged, whatever the line is told as then
abbrev pub Lodges : World → ℕ → ℕ → World → Type 0
Lodges before c k after = (fault : Option ScriptFault) → Does before (calls (lodge c k) (λ answer. over fault)) fault after

-- the slip of a client's present operation is redeemed; where none is lodged, so ends every line that asks for it
abbrev pub Redeems : World → ℕ → Result Slip HallFault → World → Type 0
Redeems before client (Ok s) after =
    (holds_its_slip before.hall client ≡ true) × BookStep before (redeem client) (slip s.client s.operation) after
Redeems before client (Err fault) after =
    (call : ℕ → ℕ → Call BinWeight) → Does before (redeeming call before.hall client) (Some (Hall fault)) after
