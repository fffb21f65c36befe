-- One order: all finished operations of a run, with some unfinished writes, stand in one list that keeps real time,
-- and each read gives what the last write before it wrote.
use Rattle.std.specs.Prelude.{◌≡◌, ℕ, ◌+◌, ◌<◌, ◌≤◌, ◌⊎◌, List, [], ◌∷◌, ◌++◌, Some, None, Option}
use Rattle.orders.specs.Order.{◌∈◌, Distinct}
use Rattle.kinds.specs.Kinds.{RecordKind}
use Rattle.model.specs.Halls.{World, no_seal}
use Rattle.model.specs.Answers.{Answer, slip, pair}
use Rattle.model.specs.Calls.{Call, begin_read, begin_write, collect, called}
use Rattle.model.specs.Runs.{Run}

-- the value that a call begins to write
abbrev pub value_written : {V : Type 0} → Call V → Option V
value_written (begin_write c v) = Some v
value_written other = None

abbrev pub value_answered : {V : Type 0} → Answer V → Option V
value_answered (pair p v) = Some v
value_answered other = None

-- what collect would answer to a slip: a value, or nothing; it seals nothing, so no seal is given
abbrev pub collects : {V : Type 0} → RecordKind V → World → ℕ → ℕ → Option V
collects kind w c k = value_answered (called kind no_seal (collect c k) w).answer

module _ {V : Type 0} {kind : RecordKind V} {start : World} (run : Run kind start) where
  -- an operation is a position whose call was a begin and was answered by a slip (c, k)
  pub data Operation (o c k : ℕ) : Type 0 where
    a_read : o < run.calls → run.call o ≡ begin_read c → run.answer o ≡ slip c k → Operation o c k
    a_write : o < run.calls → (v : V) → run.call o ≡ begin_write c v → run.answer o ≡ slip c k → Operation o c k

  -- the operation o ended with the call at p and the value v: p is the first position after which collect would answer its slip
  pub record Ended (o p : ℕ) (v : V) : Type 0 where
    pub client : ℕ
    pub place : ℕ
    pub operation : Operation o client place
    pub within : p < run.calls
    pub answers : collects kind (run.world (p + 1)) client place ≡ Some v
    pub first : (q : ℕ) → q < p → collects kind (run.world (q + 1)) client place ≡ None

  -- before position i collect would answer the slip of the operation o with this value
  pub record Gives (o i : ℕ) (v : V) : Type 0 where
    pub client : ℕ
    pub place : ℕ
    pub operation : Operation o client place
    pub within : i ≤ run.calls
    pub answers : collects kind (run.world i) client place ≡ Some v

  -- whenever collect would answer the slip of an operation, it is with one value
  abbrev pub OneValue : Type 0
  OneValue = (o i j : ℕ) (u v : V) → Gives o i u → Gives o j v → u ≡ v

  -- it has ended, at some position and with some value
  pub record Finished (o : ℕ) : Type 0 where
    pub position : ℕ
    pub value : V
    pub ended : Ended o position value

  -- an operation that writes
  pub record Writes (o : ℕ) : Type 0 where
    pub client : ℕ
    pub place : ℕ
    pub value : V
    pub operation : Operation o client place
    pub written : value_written (run.call o) ≡ Some value

  abbrev pub newer : Option V → V → V
  newer None v = v
  newer (Some w) v = w

  -- what the register holds after the operations of a list: the value of the last that writes, else the opening value
  abbrev pub held_after : V → List ℕ → V
  held_after v [] = v
  held_after v (o ∷ rest) = held_after (newer (value_written (run.call o)) v) rest

  -- the list is one order of the operations; every place of it is a split: what stands in front, what stands there, what is behind
  pub record InOrder (opening : V) (l : List ℕ) : Type 0 where
    -- every finished operation stands in it
    pub all : (o : ℕ) → Finished o → o ∈ l
    -- what stands in it is finished, or writes
    pub only : (o : ℕ) → o ∈ l → Finished o ⊎ Writes o
    -- each once
    pub once : Distinct l
    -- what ended before another began stands before it
    pub time : (front back : List ℕ) (o p j : ℕ) (v : V) → l ≡ front ++ (j ∷ back) → Ended o p v → p < j → o ∈ front
    -- a read gives the value of the last write before it, or the opening value
    pub reads : (front back : List ℕ) (j i : ℕ) (v : V) → l ≡ front ++ (j ∷ back) → value_written (run.call j) ≡ None → Gives j i v → v ≡ held_after opening front

  -- there is such an order
  pub record Linearizable (opening : V) : Type 0 where
    pub order : List ℕ
    pub in_order : InOrder opening order
