-- What a line asks of a hall: a call, and by its answer the next one or nothing more.
use Rattle.std.specs.Prelude.{ℕ, cond, Some, None, Option}
use Rattle.kinds.specs.declared.bin_weight.BinWeight.{BinWeight}
use Rattle.kinds.specs.declared.fault.KindFault.TheVariants.{NoValue}
use Rattle.kinds.specs.BinWeights.{weight}
use Rattle.script.specs.declared.command.Command.{Command}
use Rattle.script.specs.declared.command.Command.TheVariants.{SetUp, Issue, Read, Write, Deliver, CallOff, Collect, Meddle}
use Rattle.model.specs.Halls.{Hall as TheHall}
use Rattle.model.specs.Answers.{Answer, done, slip, pair, refused}
use Rattle.model.specs.Calls.{Call, issue, begin_read, begin_write, deliver, call_off, collect, lodge, redeem, meddle}
use Rattle.halls.specs.declared.fault.HallFault.TheVariants.{NotItsSlip}
use Rattle.runner.specs.declared.fault.ScriptFault.{ScriptFault}
use Rattle.runner.specs.declared.fault.ScriptFault.TheVariants.{Unreadable, Kind, Hall}
use Rattle.runner.specs.Slips.{holds_its_slip}

pub data Asks : Type 0 where
  -- nothing more, and the line is refused, or it is not
  over : Option ScriptFault → Asks
  calls : Call BinWeight → (Answer BinWeight → Asks) → Asks

-- the line is refused where its one call is
abbrev pub ending : Answer BinWeight → Asks
ending done = over None
ending (slip c k) = over None
ending (pair p v) = over None
ending (refused fault) = over (Some (Hall fault))

-- the slip of an operation that has begun is lodged
abbrev pub lodging : Answer BinWeight → Asks
lodging done = over None
lodging (slip c k) = calls (lodge c k) (λ answer. over None)
lodging (pair p v) = over None
lodging (refused fault) = over (Some (Hall fault))

-- a slip that is handed back is lodged again
abbrev pub lodging_again : ℕ → ℕ → Answer BinWeight → Asks
lodging_again c k done = over None
lodging_again c k (slip d j) = over None
lodging_again c k (pair p v) = over None
lodging_again c k (refused fault) = calls (lodge c k) (λ answer. over (Some (Hall fault)))

-- a call that takes in the slip that was redeemed
abbrev pub spending : (ℕ → ℕ → Call BinWeight) → Answer BinWeight → Asks
spending call done = over None
spending call (slip c k) = calls (call c k) (lodging_again c k)
spending call (pair p v) = over None
spending call (refused fault) = over (Some (Hall fault))

-- the slip of a client is redeemed for a call, if one of its present operation is lodged
abbrev pub redeeming : (ℕ → ℕ → Call BinWeight) → TheHall → ℕ → Asks
redeeming call h c = cond (holds_its_slip h c) (calls (redeem c) (spending call)) (over (Some (Hall (NotItsSlip c))))

-- a write of a value, if there is such a value
abbrev pub writing : ℕ → Option BinWeight → Asks
writing c None = over (Some (Kind NoValue))
writing c (Some v) = calls (begin_write c v) lodging

-- once the hall is open: another set-up is not to be read
abbrev pub asks : TheHall → Option Command → Asks
asks h None = over (Some Unreadable)
asks h (Some (SetUp asked)) = over (Some Unreadable)
asks h (Some (Issue set)) = calls (issue set) ending
asks h (Some (Read client)) = calls (begin_read client) lodging
asks h (Some (Write client grams lot)) = writing client (weight grams lot)
asks h (Some (Deliver entry party)) = calls (deliver entry party) ending
asks h (Some (CallOff client)) = redeeming call_off h client
asks h (Some (Collect client)) = redeeming collect h client
asks h (Some (Meddle party entry)) = calls (meddle party entry) ending
