-- What a list of calls hands to a client, and when that is enough.
use Rattle.std.proofs.Common.{◌≡◌, ℕ, ◌+◌, ◌*◌, ◌<◌, ◌≤◌, Bool, true, false, not, ◌&&◌, ◌||◌, eqb, List, length, nat_lt, refl, sym, ap, ◌∙◌, subst, count_ones, arith}
use Rattle.std.proofs.lemmas.Bool.{ltb-true, eqb-true, eq-eqb, and_from, not_from_true}
use Rattle.wire.specs.declared.entry.Entry.{Entry}
use Rattle.wire.specs.declared.pair.Pair.{Pair}
use Rattle.wire.specs.Sets.{member}
use Rattle.rules.specs.Posts.{ack_entry, write_entry}
use Rattle.model.specs.Tables.{is_full}
use Rattle.kinds.specs.Kinds.{RecordKind}
use Rattle.model.specs.Halls.{World}
use Rattle.model.specs.Calls.{Call, issue, begin_read, begin_write, deliver, call_off, collect, lodge, redeem, meddle}
use Rattle.model.specs.Delivering.{entry_of}
use Rattle.model.specs.Response.{Handed, Enough, AnswersTo}
use Rattle.model.specs.Response.AnswersTo.{to_read, to_write}
use Rattle.worked_runs.specs.Lists.{call_at, world_at, AnySeal}
use Rattle.worked_runs.proofs.Lists.{run_of}
use Rattle.worked_runs.proofs.Tests.{all_from, each}

-- the entry is replica q's ACK (kind 5) in this round
abbrev pub acknowledges : (q r : ℕ) → Entry → Bool
acknowledges q r e = eqb e.sender (100 + q) && (eqb e.round r && eqb e.kind 5)

-- the call hands client c an entry whose number passes the test
abbrev pub hands_to : {V : Type 0} → (ℕ → Bool) → ℕ → Call V → Bool
hands_to test c (issue set) = false
hands_to test c (begin_read d) = false
hands_to test c (begin_write d v) = false
hands_to test c (deliver number party) = eqb party c && test number
hands_to test c (call_off d k) = false
hands_to test c (collect d k) = false
hands_to test c (lodge d k) = false
hands_to test c (redeem d) = false
hands_to test c (meddle party e) = false

-- what answers a WRITE is an ACK
answer_kind : (asked k : ℕ) → asked ≡ 2 → AnswersTo asked k → k ≡ 5
answer_kind asked k is to_read = absurd (omega (arith, is))
answer_kind asked k is to_write = refl

module _ {V : Type 0} (kind : RecordKind V) (calls : List (Call V)) (start : World) (any : AnySeal start) where
  -- the call at this position hands client c the entry e, of this number, of replica q, which is not marked,
  -- while the post has a free place
  pub record HandsOver (position number c q : ℕ) (e : Entry) : Type 0 where
    pub call : call_at calls position ≡ deliver number c
    pub entry : entry_of (world_at kind calls start position).hall number ≡ e
    pub posted : nat_lt number (length (world_at kind calls start position).hall.post.list) ≡ true
    pub room : is_full (world_at kind calls start position).hall.post ≡ false
    pub unmarked : member (world_at kind calls start position).hall.marked q ≡ false

  -- before position i the answer of replica q to the WRITE of client c in round r counts as handed over
  pub record Counts (i c r q : ℕ) : Type 0 where
    pub handed : Handed (run_of kind calls start any) i q c r 2

  unfoldable pub counts : (i q c r epoch position number : ℕ) (p : Pair) → position < i
      → HandsOver position number c q (ack_entry (100 + q) (write_entry c r epoch p))
      → Counts i c r q
  counts i q c r epoch position number p before over = record {
    handed = record {
      position = position;
      earlier = before;
      number = number;
      call = over.call;
      posted = ltb-true number _ over.posted;
      sender = ap (λ e. e.sender) over.entry;
      addressee = ap (λ e. e.addressee) over.entry;
      round = ap (λ e. e.round) over.entry;
      answers = subst (AnswersTo 2) (sym (ap (λ e. e.kind) over.entry)) to_write;
      unmarked = over.unmarked;
      room = over.room;
    };
  }

  -- the answers of this set count
  unfoldable pub enough : (i c r set : ℕ) → 2 * start.hall.rules.faults + 1 ≤ count_ones set
      → ((q : ℕ) → member set q ≡ true → Counts i c r q)
      → Enough (run_of kind calls start any) i c r 2
  enough i c r set large each_counts = record {
    set = set;
    large = large;
    handed = λ q e. (each_counts q e).handed;
  }

  -- the call at position p hands client c replica q's ACK in this round
  abbrev pub is_handed : (q c r p : ℕ) → Bool
  is_handed q c r p =
      hands_to (λ n. acknowledges q r (entry_of (world_at kind calls start p).hall n)) c (call_at calls p)

  -- no other call up to there does
  abbrev pub is_only : (q c r only p : ℕ) → Bool
  is_only q c r only p = not (is_handed q c r p) || eqb p only

  is_so : (i q c r : ℕ) (h : Handed (run_of kind calls start any) i q c r 2) → is_handed q c r h.position ≡ true
  is_so i q c r h =
      ap (hands_to (λ n. acknowledges q r (entry_of (world_at kind calls start h.position).hall n)) c) h.call
      ∙ and_from _ _ (eq-eqb c c refl)
      (and_from _ _ (eq-eqb _ _ h.sender)
      (and_from _ _ (eq-eqb _ _ h.round) (eq-eqb _ _ (answer_kind 2 _ refl h.answers))))

  pub once : (i q c r only : ℕ) → all_from (is_only q c r only) 0 i ≡ true
      → (h : Handed (run_of kind calls start any) i q c r 2) → h.position ≡ only
  once i q c r only tried h =
      let here : is_only q c r only h.position ≡ true = each (is_only q c r only) 0 i h.position tried (omega arith) (omega (arith, h.earlier)) in
      let is : not (is_handed q c r h.position) ≡ false = not_from_true _ (is_so i q c r h) in
      eqb-true _ _ (sym (ap (λ b. b || eqb h.position only) is) ∙ here)
