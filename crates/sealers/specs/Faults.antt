-- As which refusal each fault of a sealer stands: number, layer and place.
use Rattle.refusals.specs.declared.Refusal.{Refusal}
use Rattle.refusals.specs.declared.Layer.TheVariants.{Sealer, Hall}
use Rattle.sealers.specs.declared.fault.SealerFault.{SealerFault}
use Rattle.sealers.specs.declared.fault.SealerFault.TheVariants.{NoSeal, Limit}

abbrev pub sealer_refusal : SealerFault → Refusal
sealer_refusal (NoSeal party) = record { number = 8; layer = Sealer; place = party }
sealer_refusal Limit = record { number = 1; layer = Hall; place = 0 }
