-- A call of the hall is counted as done exactly where its answer is no refusal. Assumes nothing.
use Rattle.std.proofs.Common.{◌≡◌, Bool, Ok, Err, Result, sym}
use Rattle.std.specs.Result.{is_ok}
use Rattle.kinds.specs.declared.bin_weight.BinWeight.{BinWeight}
use Rattle.halls.specs.declared.fault.HallFault.{HallFault}
use Rattle.model.specs.Halls.{World}
use Rattle.model.specs.Kinds.{bin_weights}
use Rattle.model.specs.Calls.{Call, Step}
use Rattle.register.specs.Worlds.{done_or}
use Rattle.drive_c.specs.Seen.{Made, is_done}

told_as : (r : Result (Unit {0}) HallFault) (done : Bool) → done ≡ is_ok r → is_done {V = BinWeight} (done_or r) ≡ done
told_as (Ok u) done e = sym e
told_as (Err fault) done e = sym e

pub counted : {before after : World} {call : Call BinWeight} (r : Result (Unit {0}) HallFault) (done : Bool) → done ≡ is_ok r
    → Step bin_weights before call (done_or r) after → Made before call done after
counted r done e step = record { answer = done_or r; step = step; told = told_as r done e }
