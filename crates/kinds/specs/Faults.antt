-- As which refusal each fault of a kind stands: number, layer and place.
use Rattle.refusals.specs.declared.Refusal.{Refusal}
use Rattle.refusals.specs.declared.Layer.TheVariants.{Kind}
use Rattle.kinds.specs.declared.fault.KindFault.{KindFault}
use Rattle.kinds.specs.declared.fault.KindFault.TheVariants.{NoValue}

abbrev pub kind_refusal : KindFault → Refusal
kind_refusal NoValue = record { number = 21; layer = Kind; place = 0 }
