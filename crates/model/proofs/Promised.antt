-- The promise whole, for the runs from one opening.
-- The record kind keeps its laws.
use Rattle.kinds.specs.Kinds.{RecordKind}
use Rattle.model.specs.Halls.{World}
use Rattle.model.specs.Promise.{Promised}
use Rattle.model.specs.Runs.{Lawful, Opened}
use Rattle.model.proofs.InTime.{moments_in_order}
use Rattle.model.proofs.Linear.{linearizable, one_value}
use Rattle.model.proofs.Unforged.{none_forged}
use Rattle.model.proofs.Responding.{responsive}

pub promised : {V : Type 0} (kind : RecordKind V) (v : V) (start : World) → Lawful kind → Opened kind v start.hall → Promised kind v start
promised kind v start lawful opened = record {
  keeps = λ run unforged. record {
    one_order = linearizable kind v start lawful opened run unforged;
    one_value = one_value kind v start lawful opened run unforged;
    rounds_end = responsive kind v start lawful opened run unforged;
    log_in_time = moments_in_order kind v start lawful opened run unforged;
  };
  unforged = λ run only. none_forged run only;
}
