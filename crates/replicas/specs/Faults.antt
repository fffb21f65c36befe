-- As which refusal each fault of a replica's step stands: number, layer and place.
use Rattle.std.specs.Prelude.{◌+◌}
use Rattle.refusals.specs.declared.Refusal.{Refusal}
use Rattle.refusals.specs.declared.Layer.TheVariants.{Replica as TheReplica}
use Rattle.stores.specs.Faults.{store_refusal}
use Rattle.rules.specs.Objections.{objection_number}
use Rattle.replicas.specs.declared.fault.ReplicaFault.{ReplicaFault}
use Rattle.replicas.specs.declared.fault.ReplicaFault.TheVariants.{Objects, Store}

-- an objection stands at the replica's party number; a fault of the store stands as the store's own
abbrev pub replica_refusal : ReplicaFault → Refusal
replica_refusal (Objects replica why) = record { number = objection_number why; layer = TheReplica; place = 100 + replica.number }
replica_refusal (Store fault) = store_refusal fault
