-- As which refusal each fault of a question stands; the line is its place once it is known.
use Rattle.refusals.specs.declared.Refusal.{Refusal}
use Rattle.refusals.specs.declared.Layer.TheVariants.{Script}
use Rattle.kinds.specs.Faults.{kind_refusal}
use Rattle.queries.specs.declared.fault.QueryFault.{QueryFault}
use Rattle.queries.specs.declared.fault.QueryFault.TheVariants.{Unreadable, Kind}

abbrev pub query_refusal : QueryFault → Refusal
query_refusal Unreadable = record { number = 23; layer = Script; place = 0 }
query_refusal (Kind fault) = kind_refusal fault
