-- Response: once answers of enough honest replicas to an open round were handed to its client, the round is over.
-- Each answer that is handed over is counted, and a round in which a quorum is counted is not open.
use Rattle.std.proofs.Common.{◌≡◌, ℕ, zero, suc, ◌+◌, ◌*◌, ◌<◌, ◌≤◌, max, true, false, ◌&&◌, eqb, leb, ◌⊎◌, length, Some, sym, refl, ap, ◌∙◌, subst, ⊎_elim, inl, inr, add-one, arith, eq-eqb, le-leb, ltb}
use Rattle.std.proofs.lemmas.Bool.{and_from, lt-ltb}
use native.Mathlib.Decide.{ℕ_discrete, dec_lt}
use borrow.Author.Tests.{clash}
use lib.Count.{ones}
use Rattle.kinds.specs.Partials.{only_if_true}
use Rattle.wire.specs.declared.entry.Entry.{Entry}
use Rattle.wire.specs.Entries.{kind_of, pair_of}
use Rattle.wire.specs.Parties.{Client, Replica}
use Rattle.wire.specs.Sets.{member}
use Rattle.rules.specs.Genuine.{genuine_by_kind}
use Rattle.rules.specs.Senders.{sender_within}
use Rattle.clients.specs.declared.line.Stage.{Stage}
use Rattle.clients.specs.declared.line.Stage.TheVariants.{Idle, Reading, Writing, WritingBack, Over}
use Rattle.clients.specs.Lines.{is_open, is_writing}
use Rattle.clients.specs.Turns.{is_quorum}
use Rattle.quorums.specs.Quorums.{Within, Honest}
use Rattle.quorums.proofs.Digits.{member_below}
use Rattle.quorums.proofs.Sizes.{within_ones}
use Rattle.histories.specs.Places.{Posted}
use Rattle.histories.specs.Shapes.{WriteEntry}
use Rattle.histories.proofs.Places.{posted_map}
use Rattle.histories.proofs.Rounds.{Asks as AsksIn, by_read, by_write}
use Rattle.model.specs.Tables.{is_full}
use Rattle.kinds.specs.Kinds.{RecordKind}
use Rattle.model.specs.Halls.{Hall, World, seat_of, operation_of, end_of}
use Rattle.model.specs.Answers.{slip}
use Rattle.model.specs.Calls.{deliver, called}
use Rattle.model.specs.Delivering.{deliver_called, entry_of, fits_client, is_replica_number}
use Rattle.model.specs.Response.{Asks, AnswersTo, to_read, to_write, LastAsked, UnderWay, Open, Handed, Responsive}
use Rattle.model.specs.Runs.{Lawful, Opened, Run, Unforged}
use Rattle.model.proofs.Asked.{NumberOf, posted_number, asked_rise}
use Rattle.model.proofs.ClientMoves.{heard}
use Rattle.model.proofs.ClientStamps.{known_low}
use Rattle.model.proofs.Closing.{FoundPair, pair_closes}
use Rattle.model.proofs.Effects.{Effect, effect_of}
use Rattle.model.proofs.Events.{begins_slip}
use Rattle.model.proofs.Frames.{posted_as}
use Rattle.model.proofs.Growing.{along}
use Rattle.model.proofs.Handing.{Counts, post_small, sent_within, move_counts, heeded_pair, heeded_ack, handed_counts}
use Rattle.model.proofs.Heard.{read_posted, pair_epoch, ack_epoch, was_read, was_written}
use Rattle.model.proofs.Invariants.{views, history, issued_as, stamp_number, SeatRule, Holds}
use Rattle.model.proofs.Parties.{client_numbered, replica_numbered}
use Rattle.model.proofs.RunKeeps.{sealed_at, holds_at, unforged_at}
use Rattle.model.proofs.SeatTurns.{begun_seat, Onward, onward_same, onward_trans, SeatTurn, seat_turn, turn_onward, Staying, stays_open, is_ended, is_called_off, turn_staying}
use Rattle.model.proofs.Trace.{slip_answered, slips_there, collects_over, ended_valued, opening_stays}
use Rattle.model.proofs.Stages.{in_stage}
use Rattle.model.proofs.Ways.{not_some}

module _ {V : Type 0} (kind : RecordKind V) (v : V) (start : World) (lawful : Lawful kind) (opened : Opened kind v start.hall) (run : Run kind start) (unforged : Unforged run) where
  abbrev hall_at : ℕ → Hall
  hall_at i = (run.world i).hall

  holds : (i : ℕ) (le : i ≤ run.calls) → Holds kind.number (sealed_at kind v start lawful opened run unforged i) (run.world i)
  holds i le = holds_at kind v start lawful opened run unforged i le

  did : (j : ℕ) (lt : j < run.calls) → Effect kind (run.world j) (run.steps j lt).given (run.call j) (run.answer j) (hall_at (j + 1)) (run.steps j lt).sealed
  did j lt = effect_of kind (run.world j) (run.steps j lt).given (run.answer j) (hall_at (j + 1)) (run.steps j lt).sealed (run.call j) (sym (run.steps j lt).outcome)

  turn_at : (j c : ℕ) → j < run.calls → 1 ≤ c → c ≤ start.hall.rules.clients → SeatTurn kind (run.world j) (run.call j) (run.answer j) (hall_at (j + 1)) c
  turn_at j c lt low high =
      let le : j ≤ run.calls = omega arith in
      seat_turn kind _ (run.world j) (holds j le) (run.call j) (run.answer j) (hall_at (j + 1)) c low (subst (λ r. c ≤ r.clients) (sym (opening_stays kind v start lawful opened run unforged j le)) high) (did j lt)

  -- a client's line goes on from each position to each later one
  goes_on : (c : ℕ) → 1 ≤ c → c ≤ start.hall.rules.clients → (i j : ℕ) → i ≤ j → j ≤ run.calls → Onward (seat_of (hall_at i) c).line (seat_of (hall_at j) c).line
  goes_on c low high =
      along (λ i j. Onward (seat_of (hall_at i) c).line (seat_of (hall_at j) c).line) run.calls (λ i. onward_same _) (λ i j o lt. onward_trans o (turn_onward (turn_at j c lt low high)))

  -- the client's seat before position i: a round of operation k is open
  record OpenSeat (i c k : ℕ) : Type 0 where
    low : 1 ≤ c
    high : c ≤ start.hall.rules.clients
    opens : is_open (seat_of (hall_at i) c).line.stage ≡ true
    operation : (seat_of (hall_at i) c).operation ≡ k

  -- while an operation has neither ended nor been called off, a round of its client is open
  open_until : (i c : ℕ) → i ≤ run.calls → (u : UnderWay run i c) → (j : ℕ) → u.position < j → j ≤ i → OpenSeat j c u.place
  open_until i c le u zero lt lj = absurd (omega arith)
  open_until i c le u (suc j) lt lj = by_place (λ before. open_until i c le u j before (omega arith)) (dec_lt u.position j)
    where
      within : j < run.calls
      within = omega arith

      goes : OpenSeat j c u.place → OpenSeat (j + 1) c u.place
      goes s = by_staying (turn_staying s.opens s.operation (turn_at j c within s.low s.high))
        where
          by_staying : Staying (run.call j) (run.answer j) (hall_at (j + 1)) c u.place → OpenSeat (j + 1) c u.place
          by_staying (stays_open o k) = record { low = s.low; high = s.high; opens = o; operation = k }
          by_staying (is_called_off off answer) = absurd (u.not_called_off j (omega arith) off answer)
          by_staying (is_ended over its) =
              let lc : j + 1 ≤ run.calls = omega arith in
              let high_there = subst (λ r. c ≤ r.clients) (sym (opening_stays kind v start lawful opened run unforged (j + 1) lc)) s.high in
              let mine = (holds (j + 1) lc).seats c s.low high_there in
              let o = subst (λ m. 0 < end_of (operation_of (hall_at (j + 1)) m)) its (in_stage mine over).ended in
              let value = ended_valued kind v start lawful opened run unforged (j + 1) u.place lc o in
              not_some (sym (u.not_ended j (omega arith)) ∙ collects_over kind v start lawful opened run unforged (j + 1) c u.place lc s.low high_there over its ∙ value.is)

      base : u.position ≡ j → OpenSeat (j + 1) c u.place
      base here =
          let b = begun_seat (holds j (omega arith)) (subst (λ m. begins_slip (run.call m) (run.answer m) ≡ true) here (slips_there run u.operation))
          (subst (λ m. run.answer m ≡ slip c u.place) here (slip_answered run u.operation)) (did j within) in
          record {
            low = b.low;
            high = subst (λ r. c ≤ r.clients) (opening_stays kind v start lawful opened run unforged j (omega arith)) b.high;
            opens = ap is_open b.stage;
            operation = b.operation;
          }

      by_place : (u.position < j → OpenSeat j c u.place) → Dec (u.position < j) → OpenSeat (suc j) c u.place
      by_place before (yes earlier) = subst (λ m. OpenSeat m c u.place) (add-one j) (goes (before earlier))
      by_place before (no late) = subst (λ m. OpenSeat m c u.place) (add-one j) (base (omega arith))

  -- the entry asks in this kind, of client c in round r
  record Asking (c r asked : ℕ) (x : Entry) : Type 0 where
    client : c < 100
    sender : x.sender ≡ c
    kind_asked : x.kind ≡ asked
    round : x.round ≡ r

  asks_in : {c r asked : ℕ} (x : Entry) → Asks asked → Asking c r asked x → AsksIn c r x
  asks_in x (inl read) a = by_read {e = x.epoch} (record { client = a.client; sender = a.sender; kind = a.kind_asked ∙ read; round = a.round; epoch = refl })
  asks_in x (inr write) a = by_write {e = x.epoch} {s = x.count * 256 + x.writer} (record { client = a.client; sender = a.sender; kind = a.kind_asked ∙ write; round = a.round; epoch = refl; stamp = refl })

  -- what the client's line says of its open round
  data OpenLine (i c r asked : ℕ) : Type 0 where
    reads : asked ≡ 1 → (seat_of (hall_at i) c).line.stage ≡ Reading → r ≡ (seat_of (hall_at i) c).line.round → OpenLine i c r asked
    writes : asked ≡ 2 → ((seat_of (hall_at i) c).line.stage ≡ Writing) ⊎ ((seat_of (hall_at i) c).line.stage ≡ WritingBack) → r ≡ (seat_of (hall_at i) c).line.round → OpenLine i c r asked

  module _ (i c r asked : ℕ) (le : i ≤ run.calls) (o : Open run i c r asked) where
    open_seat : OpenSeat i c o.under_way.place
    open_seat = open_until i c le o.under_way i o.under_way.began (omega arith)

    high_here : c ≤ (hall_at i).rules.clients
    high_here = subst (λ r. c ≤ r.clients) (sym (opening_stays kind v start lawful opened run unforged i le)) open_seat.high

    small : c < 100
    small = omega (arith, open_seat.high, opened.clients)

    mine : SeatRule kind.number (run.world i) c (seat_of (hall_at i) c)
    mine = (holds i le).seats c open_seat.low high_here

    last : LastAsked run i c r asked
    last = o.asked_last

    -- no round that was asked for is above the line's
    not_above : r ≤ (seat_of (hall_at i) c).line.round
    not_above = by_kind last.asks
      where
        by_kind : Asks asked → r ≤ (seat_of (hall_at i) c).line.round
        by_kind (inl read) = mine.reads {e = (entry_of (hall_at i) last.number).epoch}
            (posted_as (hall_at i) last.number last.posted (record { client = small; sender = last.sender; kind = last.kind_asked ∙ read; round = last.round; epoch = refl }))
        by_kind (inr write) = mine.writes {e = (entry_of (hall_at i) last.number).epoch} {s = (entry_of (hall_at i) last.number).count * 256 + (entry_of (hall_at i) last.number).writer}
            (posted_as (hall_at i) last.number last.posted (record { client = small; sender = last.sender; kind = last.kind_asked ∙ write; round = last.round; epoch = refl; stamp = refl }))

    -- what the client has asked in the round of its line is what it asked last
    record SameAsk (k : ℕ) : Type 0 where
      kind_same : asked ≡ k
      round_same : r ≡ (seat_of (hall_at i) c).line.round

    same_ask : (k : ℕ) → Asks k → Posted (Asking c (seat_of (hall_at i) c).line.round k) (history (hall_at i)) → SameAsk k
    same_ask k is posted = by_order (ℕ_discrete own.number last.number) (dec_lt own.number last.number)
      where
        own : NumberOf (Asking c (seat_of (hall_at i) c).line.round k) (hall_at i)
        own = posted_number (hall_at i) posted

        by_order : Dec (own.number ≡ last.number) → Dec (own.number < last.number) → SameAsk k
        by_order (yes same) d =
            let there = subst (λ n. Asking c (seat_of (hall_at i) c).line.round k (entry_of (hall_at i) n)) same own.holds in
            record { kind_same = sym last.kind_asked ∙ there.kind_asked; round_same = sym last.round ∙ there.round }
        by_order (no other) (yes earlier) =
            let rises = asked_rise (hall_at i) own.number last.number earlier last.posted (holds i le).good (asks_in _ is own.holds)
            (asks_in _ last.asks (record { client = small; sender = last.sender; kind_asked = last.kind_asked; round = last.round })) in
            absurd (omega (arith, rises, not_above))
        by_order (no other) (no late) = absurd (last.last own.number (omega arith) own.posted own.holds.sender (subst Asks (sym own.holds.kind_asked) is))

    -- a WRITE in flight
    sent_line : (stage : ((seat_of (hall_at i) c).line.stage ≡ Writing) ⊎ ((seat_of (hall_at i) c).line.stage ≡ WritingBack)) → {e s : ℕ} → Posted (WriteEntry c (seat_of (hall_at i) c).line.round e s) (history (hall_at i)) → OpenLine i c r asked
    sent_line stage posted =
        let s = same_ask 2 (inr refl) (posted_map (λ y a. record { client = a.client; sender = a.sender; kind_asked = a.kind; round = a.round }) posted) in
        writes s.kind_same stage s.round_same

    open_line : OpenLine i c r asked
    open_line = by_stage (seat_of (hall_at i) c).line.stage refl open_seat.opens
      where
        by_stage : (s : Stage) → (seat_of (hall_at i) c).line.stage ≡ s → is_open (seat_of (hall_at i) c).line.stage ≡ true → OpenLine i c r asked
        by_stage Idle is opens = absurd (clash (sym (ap is_open is) ∙ opens))
        by_stage Reading is opens =
            let s = same_ask 1 (inl refl) (posted_map (λ y a. record { client = a.client; sender = a.sender; kind_asked = a.kind; round = a.round }) (read_posted (in_stage mine is).read_asked)) in
            reads s.kind_same is s.round_same
        by_stage Writing is opens = sent_line (inl is) (in_stage mine is).asked
        by_stage WritingBack is opens = sent_line (inr is) (in_stage mine is).asked
        by_stage Over is opens = absurd (clash (sym (ap is_open is) ∙ opens))

    -- fewer than 2f+1 are counted
    few_counted : ones (seat_of (hall_at i) c).line.counted.0 < 2 * start.hall.rules.faults + 1
    few_counted = omega (arith, (mine.opens open_seat.opens).few, ap (λ r. r.faults) (opening_stays kind v start lawful opened run unforged i le))

    line_round : r ≡ (seat_of (hall_at i) c).line.round
    line_round = by_line open_line
      where
        by_line : OpenLine i c r asked → r ≡ (seat_of (hall_at i) c).line.round
        by_line (reads k stage r) = r
        by_line (writes k stage r) = r

  -- an answer is PAIR to READ, or ACK to WRITE
  answer_kinds : {asked k : ℕ} → AnswersTo asked k → ((asked ≡ 1) × (k ≡ 4)) ⊎ ((asked ≡ 2) × (k ≡ 5))
  answer_kinds to_read = inl (refl, refl)
  answer_kinds to_write = inr (refl, refl)

  -- what is handed to client c at position p, of an honest replica
  module _ (q c r p : ℕ) (within : p < run.calls) (number asked : ℕ) (call : run.call p ≡ deliver number c) (posted : number < length (hall_at p).post.list)
      (sender : (entry_of (hall_at p) number).sender ≡ 100 + q) (addressee : (entry_of (hall_at p) number).addressee ≡ c) (round : (entry_of (hall_at p) number).round ≡ r)
      (low : 1 ≤ c) (high : c ≤ start.hall.rules.clients) (answers : AnswersTo asked (entry_of (hall_at p) number).kind) (room : is_full (hall_at p).post ≡ false) (unmarked : member (hall_at p).marked q ≡ false) where
    le : p ≤ run.calls
    le = omega arith

    here : Holds kind.number (sealed_at kind v start lawful opened run unforged p) (run.world p)
    here = holds p le

    high_there : c ≤ (hall_at p).rules.clients
    high_there = subst (λ r. c ≤ r.clients) (sym (opening_stays kind v start lawful opened run unforged p le)) high

    rule : SeatRule kind.number (run.world p) c (seat_of (hall_at p) c)
    rule = here.seats c low high_there

    honest : Honest (views (hall_at p)) q
    honest = record { unmarked = unmarked }

    client : Client
    client = client_numbered c low (omega (arith, high, opened.clients))

    -- the client has asked for it: its line has come to the round
    has_asked : r ≤ (seat_of (hall_at p) c).line.round
    has_asked = by_kind (answer_kinds answers)
      where
        by_kind : ((asked ≡ 1) × ((entry_of (hall_at p) number).kind ≡ 4)) ⊎ ((asked ≡ 2) × ((entry_of (hall_at p) number).kind ≡ 5)) → r ≤ (seat_of (hall_at p) c).line.round
        by_kind (inl a) = rule.reads {e = (entry_of (hall_at p) number).epoch} (was_read here number posted sender addressee round honest a.1)
        by_kind (inr a) = let w = was_written here number posted sender addressee round honest a.1 in rule.writes {e = (entry_of (hall_at p) number).epoch} {s = w.0} w.1

    -- for the round that is open there
    module _ (line : OpenLine p c r asked) where
      in_round : (entry_of (hall_at p) number).round ≡ (seat_of (hall_at p) c).line.round
      in_round = round ∙ by_line line
        where
          by_line : OpenLine p c r asked → r ≡ (seat_of (hall_at p) c).line.round
          by_line (reads k stage r) = r
          by_line (writes k stage r) = r

      -- it is of the epoch of the round, and its sender a member of the client's set
      record Member : Type 0 where
        small : q < 64
        inside : member (seat_of (hall_at p) c).line.configuration.set.0 q ≡ true

      member_at : {e : ℕ} → (seat_of (hall_at p) c).line.configuration.epoch ≡ e → member (issued_as (hall_at p) e).set.0 q ≡ true → Member
      member_at {e} is m =
          let lt = subst (λ n. n < length (hall_at p).roll.list) is rule.configuration.issued in
          record {
            small = omega (arith, member_below (hall_at p).rules.replicas (issued_as (hall_at p) e).set.0 q (here.roll.inside e lt) m, here.sized.replicas);
            inside = ap (λ s. member s q) (rule.configuration.set ∙ ap (λ n. (issued_as (hall_at p) n).set.0) is) ∙ m;
          }

      counts_by : Member → Counts (seat_of (hall_at p) c).line (seat_of (hall_at (p + 1)) c).line q
      unfolding client
      counts_by m = by_kind (answer_kinds answers) (line)
        where
          from : Replica
          from = replica_numbered q m.small

          sent : sender_within (seat_of (hall_at p) c).line.configuration.set.0 (entry_of (hall_at p) number).sender ≡ Some from
          sent = sent_within _ _ q from refl sender m.inside (only_if_true _ _ from.ok)

          from_replica : is_replica_number (entry_of (hall_at p) number).sender ≡ true
          from_replica = subst (λ s. is_replica_number s ≡ true) (sym sender) (and_from (leb 100 (100 + q)) (leb (100 + q) 163) (le-leb 100 (100 + q) (omega arith)) (le-leb (100 + q) 163 (omega (arith, m.small))))

          addressed : (is_replica_number (entry_of (hall_at p) number).sender && eqb (entry_of (hall_at p) number).addressee client.number) ≡ true
          addressed = and_from (is_replica_number (entry_of (hall_at p) number).sender) (eqb (entry_of (hall_at p) number).addressee client.number) from_replica (eq-eqb (entry_of (hall_at p) number).addressee client.number addressee)

          outcome : deliver_called (run.world p) (run.steps p within).given kind.number number c ≡ record { answer = run.answer p; hall = hall_at (p + 1); sealed = (run.steps p within).sealed }
          outcome = ap (λ x. called kind (run.steps p within).given x (run.world p)) (sym call) ∙ sym (run.steps p within).outcome

          onward : Onward (seat_of (hall_at p) c).line (seat_of (hall_at (p + 1)) c).line
          onward = turn_onward (turn_at p c within low high)

          by_kind : ((asked ≡ 1) × ((entry_of (hall_at p) number).kind ≡ 4)) ⊎ ((asked ≡ 2) × ((entry_of (hall_at p) number).kind ≡ 5)) → OpenLine p c r asked
              → Counts (seat_of (hall_at p) c).line (seat_of (hall_at (p + 1)) c).line q
          by_kind (inl a) (writes k stage r) = absurd (omega (arith, a.0, k))
          by_kind (inr a) (reads k stage r) = absurd (omega (arith, a.0, k))
          by_kind (inl a) (reads k stage r) =
              handed_counts kind _ (run.world p) here client high_there number posted from room
              (ap (λ n. fits_client (kind_of n) (entry_of (hall_at p) number) client) a.1 ∙ addressed) (run.steps p within).given (run.answer p) (hall_at (p + 1)) (run.steps p within).sealed outcome q onward
              (λ turn move. move_counts kind _ (run.world p) here client high_there number posted from sent in_round (inl a.1) move)
              (heeded_pair kind _ (run.world p) here client high_there number posted from sent in_round a.1 stage
              (ap (λ n. genuine_by_kind (kind_of n) (hall_at p).rules kind.number (run.world p).genuine (entry_of (hall_at p) number)) a.1
              ∙ (here.answers number posted).genuine {q = q} {e = (entry_of (hall_at p) number).epoch} {s = stamp_number (pair_of (entry_of (hall_at p) number))} (record { sender = sender; kind = a.1; epoch = refl; stamp = refl }) honest)
              (count_room a.1 stage))
            where
              count_room : (entry_of (hall_at p) number).kind ≡ 4 → (seat_of (hall_at p) c).line.stage ≡ Reading
                  → member (seat_of (hall_at p) c).line.counted.0 q ≡ false → is_quorum (hall_at p).rules (heard (seat_of (hall_at p) c).line (entry_of (hall_at p) number) from) ≡ true
                  → ltb (max (heard (seat_of (hall_at p) c).line (entry_of (hall_at p) number) from).highest.stamp.count (seat_of (hall_at p) c).line.last_count) 4294967295 ≡ true
              count_room kind_is stage new large = lt-ltb _ 4294967295 small_enough
                where
                  found : FoundPair kind.number (run.world p) (seat_of (hall_at p) c).operation (heard (seat_of (hall_at p) c).line (entry_of (hall_at p) number) from).highest (heard (seat_of (hall_at p) c).line (entry_of (hall_at p) number) from).agree
                  found = pair_closes here lawful.numbered (unforged_at kind v start lawful opened run unforged p le) number posted c addressee (seat_of (hall_at p) c) rule from
                      (record {
                        kind = kind_is;
                        stage = stage;
                        round = in_round;
                        inside = sent;
                        uncounted = new;
                        checks = ap (λ n. genuine_by_kind (kind_of n) (hall_at p).rules kind.number (run.world p).genuine (entry_of (hall_at p) number)) kind_is
                            ∙ (here.answers number posted).genuine {q = q} {e = (entry_of (hall_at p) number).epoch} {s = stamp_number (pair_of (entry_of (hall_at p) number))} (record { sender = sender; kind = kind_is; epoch = refl; stamp = refl }) honest;
                      }) large

                  small_enough : max (heard (seat_of (hall_at p) c).line (entry_of (hall_at p) number) from).highest.stamp.count (seat_of (hall_at p) c).line.last_count < 4294967295
                  small_enough = omega (arith, known_low here _ found.known, rule.count_low, post_small here)
          by_kind (inr a) (writes k stage r) =
              handed_counts kind _ (run.world p) here client high_there number posted from room
              (ap (λ n. fits_client (kind_of n) (entry_of (hall_at p) number) client) a.1 ∙ addressed) (run.steps p within).given (run.answer p) (hall_at (p + 1)) (run.steps p within).sealed outcome q onward
              (λ turn move. move_counts kind _ (run.world p) here client high_there number posted from sent in_round (inr a.1) move)
              (heeded_ack kind _ (run.world p) here client high_there number posted from sent in_round a.1 (writing stage))
            where
              writing : ((seat_of (hall_at p) c).line.stage ≡ Writing) ⊎ ((seat_of (hall_at p) c).line.stage ≡ WritingBack) → is_writing (seat_of (hall_at p) c).line.stage ≡ true
              writing (inl s) = ap is_writing s
              writing (inr s) = ap is_writing s

      -- the answer is counted
      counts : Counts (seat_of (hall_at p) c).line (seat_of (hall_at (p + 1)) c).line q
      counts = counts_by (by_kind (answer_kinds answers) (line))
        where
          by_kind : ((asked ≡ 1) × ((entry_of (hall_at p) number).kind ≡ 4)) ⊎ ((asked ≡ 2) × ((entry_of (hall_at p) number).kind ≡ 5)) → OpenLine p c r asked → Member
          by_kind (inl a) (writes k stage r) = absurd (omega (arith, a.0, k))
          by_kind (inr a) (reads k stage r) = absurd (omega (arith, a.0, k))
          by_kind (inl a) (reads k stage r) =
              member_at (sym (pair_epoch here number posted sender addressee in_round honest a.1 (read_posted (in_stage rule stage).read_asked)))
              ((here.answers number posted).pair {q = q} {e = (entry_of (hall_at p) number).epoch} {s = stamp_number (pair_of (entry_of (hall_at p) number))} (record { sender = sender; kind = a.1; epoch = refl; stamp = refl }) honest)
          by_kind (inr a) (writes k stage r) =
              member_at (sym (⊎_elim
              (λ s. ack_epoch here number posted sender addressee in_round honest a.1 (in_stage {s = Writing} rule s).asked)
              (λ s. ack_epoch here number posted sender addressee in_round honest a.1 (in_stage {s = WritingBack} rule s).asked) stage))
              ((here.answers number posted).ack {q = q} {e = (entry_of (hall_at p) number).epoch} {c = c} {r = (seat_of (hall_at p) c).line.round} (record { sender = sender; kind = a.1; addressee = addressee; round = in_round; epoch = refl }) honest)

  -- who was handed over is counted in the round that is still open
  handed_counted : (i c r asked q : ℕ) → i ≤ run.calls → Open run i c r asked → Handed run i q c r asked → member (seat_of (hall_at i) c).line.counted.0 q ≡ true
  handed_counted i c r asked q le o h =
      let p = h.position in
      let within : p < run.calls = omega (arith, h.earlier) in
      let unmarked = h.unmarked in
      let seat = open_seat i c r asked le o in
      let asked_for : r ≤ (seat_of (hall_at p) c).line.round = has_asked q c r p within h.number asked h.call h.posted h.sender h.addressee h.round seat.low seat.high h.answers h.room unmarked in
      let first = turn_onward (turn_at p c within seat.low seat.high) in
      let rest = goes_on c seat.low seat.high (p + 1) i (omega (arith, h.earlier)) le in
      let whole = goes_on c seat.low seat.high p i (omega (arith, h.earlier)) le in
      let same : (seat_of (hall_at i) c).line.round ≡ (seat_of (hall_at p) c).line.round = omega (arith, line_round i c r asked le o, asked_for, whole.rounds) in
      let middle : (seat_of (hall_at i) c).line.round ≡ (seat_of (hall_at (p + 1)) c).line.round = omega (arith, same, first.rounds, rest.rounds) in
      let one = counts q c r p within h.number asked h.call h.posted h.sender h.addressee h.round seat.low seat.high h.answers h.room unmarked
      (line_before (sym (whole.stage same seat.opens)) same (open_line i c r asked le o)) in
      (rest.counted middle seat.opens).each q
      (one.here (omega (arith, same, middle)) (ap is_open (sym (rest.stage middle seat.opens)) ∙ seat.opens))
    where
      line_before : {p : ℕ} → (seat_of (hall_at p) c).line.stage ≡ (seat_of (hall_at i) c).line.stage → (seat_of (hall_at i) c).line.round ≡ (seat_of (hall_at p) c).line.round → OpenLine i c r asked → OpenLine p c r asked
      line_before stage round (reads k s r) = reads k (stage ∙ s) (r ∙ round)
      line_before stage round (writes k (inl s) r) = writes k (inl (stage ∙ s)) (r ∙ round)
      line_before stage round (writes k (inr s) r) = writes k (inr (stage ∙ s)) (r ∙ round)

  pub responsive : Responsive run
  responsive i c r asked le enough o =
      let all : Within enough.set (seat_of (hall_at i) c).line.counted.0 = record { each = λ q m. handed_counted i c r asked q le o (enough.handed q m) } in
      omega (arith, enough.large, within_ones all, few_counted i c r asked le o)
