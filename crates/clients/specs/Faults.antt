-- As which refusal each fault of a client's step stands: number, layer and place.
use Rattle.refusals.specs.declared.Refusal.{Refusal}
use Rattle.refusals.specs.declared.Layer.TheVariants.{Client as TheClient}
use Rattle.sealers.specs.Faults.{sealer_refusal}
use Rattle.rules.specs.Objections.{objection_number}
use Rattle.clients.specs.declared.fault.ClientFault.{ClientFault}
use Rattle.clients.specs.declared.fault.ClientFault.TheVariants.{Busy, Objects, Sealer}

-- what the client itself refuses stands at its number; a fault of the sealer stands as the sealer's own
abbrev pub client_refusal : ClientFault → Refusal
client_refusal (Busy client) = record { number = 7; layer = TheClient; place = client.number }
client_refusal (Objects client why) = record { number = objection_number why; layer = TheClient; place = client.number }
client_refusal (Sealer fault) = sealer_refusal fault
