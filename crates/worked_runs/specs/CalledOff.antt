-- What the run with a call off has: a write is called off half done, and its value is read later.
-- Where a field is a number of a call, it is the call's position in the run.
use Rattle.std.specs.Prelude.{◌≡◌, ℕ, ◌<◌, ◌≤◌, true, List, ◌∷◌, ◌++◌, ◌≢◌}
use Rattle.orders.specs.Order.{◌∈◌}
use Rattle.wire.specs.declared.pair.Pair.{Pair}
use Rattle.wire.specs.Sets.{member}
use Rattle.halls.specs.declared.fault.HallFault.{HallFault}
use Rattle.kinds.specs.Kinds.{RecordKind}
use Rattle.model.specs.Halls.{World}
use Rattle.model.specs.Answers.{done, slip, pair, refused}
use Rattle.model.specs.Calls.{Call, begin_read, begin_write, deliver, call_off}
use Rattle.model.specs.Delivering.{entry_of}
use Rattle.model.specs.Runs.{Run, Opened}
use Rattle.model.specs.Order.{Ended, Finished, Gives, InOrder}
use Rattle.model.specs.Response.{Handed, Enough}
use Rattle.worked_runs.specs.Lists.{RunOf}

-- 2f+1 unmarked replicas' answers to a round that a WRITE opened (an entry of kind 2) are handed to
-- its client, and two of them count by deliveries that are refused
pub record RefusedCount {V : Type 0} {kind : RecordKind V} {start : World}
    (run : Run kind start) : Type 0 where
  pub client : ℕ
  pub round : ℕ
  pub until : ℕ
  pub within : until ≤ run.calls
  pub enough : Enough run until client round 2
  -- this replica's answer counts by a delivery that is refused with this fault
  pub again : ℕ
  pub again_in : member enough.set again ≡ true
  pub again_why : HallFault
  pub again_refused : run.answer (enough.handed again again_in).position ≡ refused again_why
  -- and so does this one's, which is handed over no other time in the whole run
  pub late : ℕ
  pub late_in : member enough.set late ≡ true
  pub late_why : HallFault
  pub late_refused : run.answer (enough.handed late late_in).position ≡ refused late_why
  pub late_once : (h : Handed run run.calls late client round 2)
      → h.position ≡ (enough.handed late late_in).position

pub record CalledOffRun {V : Type 0} (kind : RecordKind V) (start : World)
    (list : List (Call V)) : Type 0 where
  -- it starts at an opening with this value and has these calls; no seal is forged
  pub opening : V
  pub opened : Opened kind opening start.hall
  pub made : RunOf kind start list
  -- a client begins to write another value than that, and gets the slip of its place in the log
  pub value : V
  pub new : value ≢ opening
  pub write : ℕ
  pub writer : ℕ
  pub place : ℕ
  pub writes : made.run.call write ≡ begin_write writer value
  pub begun : made.run.answer write ≡ slip writer place
  -- a replica takes its WRITE, an entry of kind 2
  pub taking : ℕ
  pub under_way : write < taking
  pub number : ℕ
  pub replica : ℕ
  pub takes : made.run.call taking ≡ deliver number replica
  pub taken : made.run.answer taking ≡ done
  pub from_writer : (entry_of (made.run.world taking).hall number).sender ≡ writer
  pub is_write : (entry_of (made.run.world taking).hall number).kind ≡ 2
  -- then the client calls its write off, and so it never ends
  pub off : ℕ
  pub half_done : taking < off
  pub calls_off : made.run.call off ≡ call_off writer place
  pub called_off : made.run.answer off ≡ done
  pub unfinished : Finished made.run write → ⊥
  -- another client reads afterwards, and its read gives that value
  pub read : ℕ
  pub reader : ℕ
  pub other_client : reader ≢ writer
  pub reads : made.run.call read ≡ begin_read reader
  pub later : off < read
  pub read_done : ℕ
  pub read_ends : Ended made.run read read_done value
  -- and that is what this call collects
  pub collect : ℕ
  pub within : collect < made.run.calls
  pub gives : Gives made.run read collect value
  pub collected_pair : Pair
  pub collected : made.run.answer collect ≡ pair collected_pair value
  -- in every order of the operations that the promise speaks of, the write stands before this read
  pub stands : (front back : List ℕ)
      → InOrder made.run opening (front ++ (read ∷ back)) → write ∈ front
  -- answers count also where their deliveries are refused
  pub refused_count : RefusedCount made.run
