-- The moments of the log keep the order of begins and ends.
-- Each begin and each end takes the moment after that of the world it meets.
use Rattle.std.proofs.Common.{◌≡◌, ℕ, ◌+◌, ◌<◌, sym, ◌∙◌, arith}
use Rattle.kinds.specs.Kinds.{RecordKind}
use Rattle.model.specs.Halls.{World}
use Rattle.model.specs.Moments.{Event, begins, ends, MomentsInOrder}
use Rattle.model.specs.Runs.{Lawful, Opened, Run, Unforged}
use Rattle.model.proofs.Growing.{Grows}
use Rattle.model.proofs.Trace.{grows, started, told, end_seen}

module _ {V : Type 0} (kind : RecordKind V) (v : V) (start : World) (lawful : Lawful kind) (opened : Opened kind v start.hall) (run : Run kind start) (unforged : Unforged run) where
  -- the moment of what happened at position p
  record Timed (p m : ℕ) : Type 0 where
    within : p < run.calls
    moment : m ≡ (run.world p).hall.moment + 1
    next_moment : (run.world (p + 1)).hall.moment ≡ (run.world p).hall.moment + 1

  timed : (p m : ℕ) → Event run p m → Timed p m
  timed p m (begins {c} {k} op is) =
      let s = started kind v start lawful opened run unforged p c k op in
      record {
        within = s.start_of.within;
        moment = sym is ∙ (told kind v start lawful opened run unforged run.calls p c k s.word s.start_of s.start_of.within (omega arith)).began;
        next_moment = s.start_of.log.next_moment;
      }
  timed p m (ends {o} {v = u} e is) =
      let t = end_seen kind v start lawful opened run unforged run.calls o p u e e.within (omega arith) in
      record { within = e.within; moment = sym is ∙ t.moment ∙ t.next_moment; next_moment = t.next_moment }

  pub moments_in_order : MomentsInOrder run
  moments_in_order p q m n a b lt =
      let s = timed p m a in
      let t = timed q n b in
      let g : Grows (run.world (p + 1)).hall (run.world q).hall = grows kind v start lawful opened run unforged (p + 1) q (omega arith) (omega (arith, t.within)) in
      omega (arith, s.moment, s.next_moment, t.moment, g.moment)
