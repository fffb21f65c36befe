-- The nine calls of a hall, and what each of them answers, leaves and has sealed.
use Rattle.std.specs.Prelude.{◌≡◌, ℕ, Some, None, Option}
use Rattle.wire.specs.declared.entry.Entry.{Entry}
use Rattle.wire.specs.declared.pair.Seal.{Seal}
use Rattle.wire.specs.declared.set.ReplicaSet.{ReplicaSet}
use Rattle.wire.specs.declared.text.Text.{Text}
use Rattle.sealers.specs.Sealing.{Seals}
use Rattle.kinds.specs.Kinds.{RecordKind}
use Rattle.model.specs.Halls.{World, desk_of}
use Rattle.model.specs.Answers.{Answer, Outcome}
use Rattle.model.specs.Issuing.{issue_called}
use Rattle.model.specs.Beginning.{begin_called}
use Rattle.model.specs.Delivering.{deliver_called}
use Rattle.model.specs.Slips.{call_off_called, collect_called, lodge_called, redeem_called}
use Rattle.model.specs.Meddling.{meddle_called}

-- slips are named by their client and by the place of the operation in the log
pub data Call (V : Type 0) : Type 0 where
  issue : ReplicaSet → Call V
  begin_read : ℕ → Call V
  begin_write : ℕ → V → Call V
  -- the entry of a number, to the party of a number
  deliver : ℕ → ℕ → Call V
  call_off : ℕ → ℕ → Call V
  collect : ℕ → ℕ → Call V
  lodge : ℕ → ℕ → Call V
  redeem : ℕ → Call V
  meddle : ℕ → Entry → Call V

-- what comes of a call, if this seal is given to what it seals; issue and deliver alone can seal
abbrev pub called : {V : Type 0} → RecordKind V → Seal → Call V → World → Outcome V
called kind given (issue set) w = issue_called w given set
called kind given (begin_read c) w = begin_called w c None
called kind given (begin_write c v) w = begin_called w c (Some (kind.word v))
called kind given (deliver number party) w = deliver_called w given kind.number number party
called kind given (call_off c k) w = call_off_called w c k
called kind given (collect c k) w = collect_called kind w c k
called kind given (lodge c k) w = lodge_called w c k
called kind given (redeem c) w = redeem_called w c
called kind given (meddle party e) w = meddle_called w party e

-- a world becomes another with this answer, as it does with the seal that is given; which one that is is left open
pub record Becomes {V : Type 0} (by : Seal → Outcome V) (before : World) (answer : Answer V) (after : World) : Type 0 where
  pub given : Seal
  -- the text that was sealed, if one was
  pub sealed : Option Text
  pub outcome : record { answer = answer; hall = after.hall; sealed = sealed } ≡ by given
  pub seals : Seals (desk_of before) sealed given (desk_of after)

-- a call takes a world to another with this answer
abbrev pub Step : {V : Type 0} → RecordKind V → World → Call V → Answer V → World → Type 0
Step kind before call answer after = Becomes (λ given. called kind given call before) before answer after
