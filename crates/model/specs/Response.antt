-- Response: once enough honest replicas' answers to an open round were handed to its client, the round is over.
use Rattle.std.specs.Prelude.{◌≡◌, ℕ, ◌+◌, ◌*◌, ◌<◌, ◌≤◌, true, false, ◌⊎◌, length, None, ◌≢◌, count_ones}
use Rattle.wire.specs.Sets.{member}
use Rattle.model.specs.Tables.{is_full}
use Rattle.kinds.specs.Kinds.{RecordKind}
use Rattle.model.specs.Halls.{World}
use Rattle.model.specs.Answers.{done}
use Rattle.model.specs.Calls.{deliver, call_off}
use Rattle.model.specs.Delivering.{entry_of}
use Rattle.model.specs.Runs.{Run}
use Rattle.model.specs.Order.{collects, Operation}

-- READ or WRITE
abbrev pub Asks : ℕ → Type 0
Asks kind = (kind ≡ 1) ⊎ (kind ≡ 2)

-- the kind of the answers to a READ (PAIR) and to a WRITE (ACK)
pub data AnswersTo : ℕ → ℕ → Type 0 where
  to_read : AnswersTo 1 4
  to_write : AnswersTo 2 5

module _ {V : Type 0} {kind : RecordKind V} {start : World} (run : Run kind start) where
  -- in the world before position i, the last READ or WRITE that client c posted is of this kind and has round r
  pub record LastAsked (i c r asked : ℕ) : Type 0 where
    pub number : ℕ
    pub posted : number < length (run.world i).hall.post.list
    pub sender : (entry_of (run.world i).hall number).sender ≡ c
    pub kind_asked : (entry_of (run.world i).hall number).kind ≡ asked
    pub asks : Asks asked
    pub round : (entry_of (run.world i).hall number).round ≡ r
    pub last : (n : ℕ) → number < n → n < length (run.world i).hall.post.list → (entry_of (run.world i).hall n).sender ≡ c → Asks (entry_of (run.world i).hall n).kind → ⊥

  -- the last operation that client c began before position i has neither ended nor been called off
  pub record UnderWay (i c : ℕ) : Type 0 where
    pub position : ℕ
    pub place : ℕ
    pub began : position < i
    pub operation : Operation run position c place
    pub last : (o k : ℕ) → position < o → o < i → Operation run o c k → ⊥
    pub not_ended : (p : ℕ) → p < i → collects kind (run.world (p + 1)) c place ≡ None
    pub not_called_off : (p : ℕ) → p < i → run.call p ≡ call_off c place → run.answer p ≢ done

  -- round r of client c, which opened with this kind of entry, is open before position i
  pub record Open (i c r asked : ℕ) : Type 0 where
    pub asked_last : LastAsked i c r asked
    pub under_way : UnderWay i c

  -- before position i an answer of replica q, unmarked then, to round r of client c, which opened with this kind of entry,
  -- was handed to c while the post had a free place
  pub record Handed (i q c r asked : ℕ) : Type 0 where
    pub position : ℕ
    pub earlier : position < i
    pub number : ℕ
    pub call : run.call position ≡ deliver number c
    pub posted : number < length (run.world position).hall.post.list
    pub sender : (entry_of (run.world position).hall number).sender ≡ 100 + q
    pub addressee : (entry_of (run.world position).hall number).addressee ≡ c
    pub round : (entry_of (run.world position).hall number).round ≡ r
    pub answers : AnswersTo asked (entry_of (run.world position).hall number).kind
    pub unmarked : member (run.world position).hall.marked q ≡ false
    pub room : is_full (run.world position).hall.post ≡ false

  -- a set of at least 2f+1 replicas whose answers to the round were all handed over
  pub record Enough (i c r asked : ℕ) : Type 0 where
    pub set : ℕ
    pub large : 2 * start.hall.rules.faults + 1 ≤ count_ones set
    pub handed : (q : ℕ) → member set q ≡ true → Handed i q c r asked

  abbrev pub Responsive : Type 0
  Responsive = (i c r asked : ℕ) → i ≤ run.calls → Enough i c r asked → Open i c r asked → ⊥
