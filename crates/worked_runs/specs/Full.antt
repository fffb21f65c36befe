-- What a full run has: a write that a change of members overtakes, a liar, and a read of the new value by another client.
-- Where a field is a number of a call, it is the call's position in the run.
use Rattle.std.specs.Prelude.{◌≡◌, ℕ, ◌+◌, ◌<◌, true, List, ◌≢◌}
use Rattle.wire.specs.declared.entry.Entry.{Entry}
use Rattle.wire.specs.declared.pair.Pair.{Pair}
use Rattle.wire.specs.declared.set.ReplicaSet.{ReplicaSet}
use Rattle.wire.specs.Texts.{pair_text}
use Rattle.kinds.specs.Kinds.{RecordKind}
use Rattle.model.specs.Halls.{World, seat_of}
use Rattle.model.specs.Answers.{done}
use Rattle.model.specs.Calls.{Call, issue, begin_read, begin_write, meddle}
use Rattle.model.specs.Runs.{Opened}
use Rattle.model.specs.Order.{Ended}
use Rattle.model.specs.Response.{Open, Enough}
use Rattle.worked_runs.specs.Lists.{RunOf}

pub record FullRun {V : Type 0} (kind : RecordKind V) (start : World) (list : List (Call V)) : Type 0 where
  -- it starts at an opening with this value and has these calls; no seal is genuine in it but those
  -- that are given, and so none is forged
  pub opening : V
  pub opened : Opened kind opening start.hall
  pub made : RunOf kind start list
  -- a client writes another value than that: its begin stands at `write`, and with the call at `written` it has ended
  pub value : V
  pub new : value ≢ opening
  pub write : ℕ
  pub writer : ℕ
  pub writes : made.run.call write ≡ begin_write writer value
  pub written : ℕ
  pub write_ends : Ended made.run write written value
  -- seals are given: at its end the pair that it has written has a genuine one
  pub pair : Pair
  pub its_word : pair.word ≡ kind.word value
  pub its_writer : pair.stamp.writer ≡ writer
  pub sealed : (made.run.world (written + 1)).genuine (pair_text kind.number pair) pair.seal ≡ true
  -- while it writes, a marked replica lies
  pub lie : ℕ
  pub liar : ℕ
  pub lying : Entry
  pub lies : made.run.call lie ≡ meddle liar lying
  pub posted : made.run.answer lie ≡ done
  pub lie_after_begin : write < lie
  pub lie_before_end : lie < written
  -- while it writes, the members change, and the write ends in the new epoch
  pub change : ℕ
  pub set : ReplicaSet
  pub other_members : set ≢ start.hall.rules.first
  pub changes : made.run.call change ≡ issue set
  pub changed : made.run.answer change ≡ done
  pub change_after_begin : write < change
  pub change_before_end : change < written
  pub moved : (seat_of (made.run.world (written + 1)).hall writer).line.configuration.epoch ≡ 1
  -- the round in which it ends was opened by a WRITE, an entry of kind 2: it is open before the
  -- last call, and with that call 2f+1 unmarked replicas' answers have been handed to the client
  pub round : ℕ
  pub round_open : Open made.run written writer round 2
  pub enough : Enough made.run (written + 1) writer round 2
  -- another client reads afterwards, from `read` to `read_done`, and its read gives that value
  pub read : ℕ
  pub reader : ℕ
  pub other_client : reader ≢ writer
  pub reads : made.run.call read ≡ begin_read reader
  pub later : written < read
  pub read_done : ℕ
  pub read_ends : Ended made.run read read_done value
