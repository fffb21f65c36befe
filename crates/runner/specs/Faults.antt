-- As which refusal each fault of a script stands: number, layer and place. The line takes its own place.
use Rattle.refusals.specs.declared.Refusal.{Refusal}
use Rattle.refusals.specs.declared.Layer.TheVariants.{Script}
use Rattle.kinds.specs.Faults.{kind_refusal}
use Rattle.halls.specs.Faults.{hall_refusal}
use Rattle.runner.specs.declared.fault.ScriptFault.{ScriptFault}
use Rattle.runner.specs.declared.fault.ScriptFault.TheVariants.{Unreadable, Kind, Hall}

abbrev pub script_refusal : ScriptFault → Refusal
script_refusal Unreadable = record { number = 23; layer = Script; place = 0 }
script_refusal (Kind fault) = kind_refusal fault
script_refusal (Hall fault) = hall_refusal fault
