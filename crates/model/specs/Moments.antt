-- The moments in the log keep the order of begins and ends.
use Rattle.std.specs.Prelude.{◌≡◌, ℕ, ◌<◌}
use Rattle.kinds.specs.Kinds.{RecordKind}
use Rattle.model.specs.Halls.{World, operation_of, end_of}
use Rattle.model.specs.Runs.{Run}
use Rattle.model.specs.Order.{Operation, Ended}

module _ {V : Type 0} {kind : RecordKind V} {start : World} (run : Run kind start) where
  -- at this position an operation began or ended, and this is the moment that the log has of it at the end of the run
  pub data Event (p moment : ℕ) : Type 0 where
    begins : {c k : ℕ} → Operation run p c k → (operation_of (run.world run.calls).hall k).began ≡ moment → Event p moment
    ends : {o : ℕ} {v : V} (e : Ended run o p v) → end_of (operation_of (run.world run.calls).hall e.place) ≡ moment → Event p moment

  abbrev pub MomentsInOrder : Type 0
  MomentsInOrder = (p q m n : ℕ) → Event p m → Event q n → p < q → m < n
