-- The promise of the register, over every run from an opening, if no seal is forged.
use Rattle.kinds.specs.Kinds.{RecordKind}
use Rattle.model.specs.Halls.{World}
use Rattle.model.specs.Runs.{Opened, Run, Unforged, OnlyGiven}
use Rattle.model.specs.Order.{Linearizable, OneValue}
use Rattle.model.specs.Response.{Responsive}
use Rattle.model.specs.Moments.{MomentsInOrder}

-- all finished operations, with some unfinished writes, stand in one order that keeps real time,
-- and each read gives the last write before it, or the opening value
abbrev pub OneOrder : {V : Type 0} → RecordKind V → Type 0
OneOrder {V = V} kind = (v : V) (start : World) → Opened kind v start.hall → (run : Run kind start) → Unforged run → Linearizable run v

-- a round is over once enough honest replicas' answers to it were handed to its client
abbrev pub RoundsEnd : {V : Type 0} → RecordKind V → Type 0
RoundsEnd {V = V} kind = (v : V) (start : World) → Opened kind v start.hall → (run : Run kind start) → Unforged run → Responsive run

-- the log tells begins and ends in their order
abbrev pub LogInTime : {V : Type 0} → RecordKind V → Type 0
LogInTime {V = V} kind = (v : V) (start : World) → Opened kind v start.hall → (run : Run kind start) → Unforged run → MomentsInOrder run

-- all of that, of one run from an opening with the value v; and whenever an operation is collected, it has one value
pub record Keeps {V : Type 0} {kind : RecordKind V} {start : World} (v : V) (run : Run kind start) : Type 0 where
  pub one_order : Linearizable run v
  pub one_value : OneValue run
  pub rounds_end : Responsive run
  pub log_in_time : MomentsInOrder run

-- the promise whole, for every run from this world, at which the register was opened with the value v;
-- no seal is forged where none becomes genuine but those that are given
pub record Promised {V : Type 0} (kind : RecordKind V) (v : V) (start : World) : Type 0 where
  pub keeps : (run : Run kind start) → Unforged run → Keeps v run
  pub unforged : (run : Run kind start) → OnlyGiven run → Unforged run
