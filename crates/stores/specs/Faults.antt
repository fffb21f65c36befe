-- As which refusal each fault of a store stands: number, layer and place.
use Rattle.refusals.specs.declared.Refusal.{Refusal}
use Rattle.refusals.specs.declared.Layer.TheVariants.{Store}
use Rattle.stores.specs.declared.fault.StoreFault.{StoreFault}
use Rattle.stores.specs.declared.fault.StoreFault.TheVariants.{NoSave, Damaged}

abbrev pub store_refusal : StoreFault → Refusal
store_refusal (NoSave place) = record { number = 9; layer = Store; place = place }
store_refusal (Damaged record_number) = record { number = 22; layer = Store; place = record_number }
