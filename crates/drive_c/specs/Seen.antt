-- What of a call is counted: that it was made, and whether it was done or refused.
use Rattle.std.specs.Prelude.{◌≡◌, Bool, true, false}
use Rattle.kinds.specs.declared.bin_weight.BinWeight.{BinWeight}
use Rattle.model.specs.Halls.{World}
use Rattle.model.specs.Kinds.{bin_weights}
use Rattle.model.specs.Answers.{Answer, refused}
use Rattle.model.specs.Calls.{Call, Step}

abbrev pub is_done : {V : Type 0} → Answer V → Bool
is_done (refused fault) = false
is_done other = true

-- the call takes one world to the other, and was done or refused
pub record Made (before : World) (call : Call BinWeight) (was_done : Bool) (after : World) : Type 0 where
  pub answer : Answer BinWeight
  pub step : Step bin_weights before call answer after
  pub told : is_done answer ≡ was_done
