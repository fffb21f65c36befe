-- An answer to an open round that an honest replica has posted is counted when it is handed to its client, or the round is over.
-- In one world that meets the rules, in which the post has a free place.
use Rattle.std.proofs.Common.{◌≡◌, ℕ, ◌+◌, ◌-◌, ◌<◌, ◌≤◌, max, Bool, true, false, cond, not, eqb, ltb, leb, ◌⊎◌, List, [], ◌∷◌, length, Some, None, Ok, Err, Option, sym, refl, ap, ◌∙◌, subst, inl, inr, arith, eq-eqb, ne_eqb, le-leb}
use Rattle.std.proofs.lemmas.Bool.{and_from, lt-ltb}
use borrow.Author.Tests.{clash}
use Rattle.kinds.specs.declared.word.Word.{Word}
use Rattle.wire.specs.declared.entry.Entry.{Entry}
use Rattle.wire.specs.declared.pair.Seal.{Seal}
use Rattle.wire.specs.declared.text.Text.{Text}
use Rattle.wire.specs.Entries.{kind_of}
use Rattle.wire.specs.Parties.{Client, Replica, replica_of}
use Rattle.wire.specs.Sets.{member, inserted}
use Rattle.wire.specs.Texts.{pair_text}
use Rattle.rules.specs.declared.objection.Objection.TheVariants.{TooHigh, NotGenuine, AlreadyCounted, NotAwaited}
use Rattle.rules.specs.Genuine.{genuine_entry}
use Rattle.rules.specs.Senders.{sender_within}
use Rattle.clients.specs.declared.line.Line.{Line}
use Rattle.clients.specs.declared.line.Stage.TheVariants.{Reading, WritingBack}
use Rattle.clients.specs.declared.turn.Turn.{Turn}
use Rattle.clients.specs.declared.turn.Turn.TheVariants.{Moves, Stamps}
use Rattle.clients.specs.Steps.{acted, signing}
use Rattle.clients.specs.Lines.{is_open, is_idle, is_reading, is_writing, counting, ended, opened, stamped, sealed_with}
use Rattle.clients.specs.Turns.{Verdict, after, moves, with_write, unsealed, closing, is_quorum, pair_heard, ack_heard, on_pair_from, on_ack_from, writes_next, write_of, decided, decided_by_kind}
use Rattle.sealers.specs.declared.fault.SealerFault.TheVariants.{NoSeal}
use Rattle.sealers.specs.Sealing.{spent}
use Rattle.quorums.proofs.Insertion.{inserted_member}
use Rattle.halls.specs.declared.operation.Operation.{Operation}
use Rattle.model.specs.Tables.{is_full}
use Rattle.kinds.specs.Kinds.{RecordKind}
use Rattle.model.specs.Halls.{Hall, World, seat_of}
use Rattle.model.specs.Answers.{Answer, Outcome, done, has_moment}
use Rattle.model.specs.Delivering.{client_moves, client_done, client_step_of, deliver_called, entry_of, fits_client}
use Rattle.model.proofs.ClientEvents.{not_moves, stamps_line}
use Rattle.model.proofs.ClientMoves.{ClientMove, counts_pair, ends_read, writes_back, takes_stamp, counts_ack, ends_write, goes_on, reads_again, writes_again, replies, heard, client_view}
use Rattle.model.proofs.ClientSteps.{client_low}
use Rattle.model.proofs.Invariants.{ends, SeatRule, Holds}
use Rattle.model.proofs.Effects.{hall_is}
use Rattle.model.proofs.Parties.{client_party}
use Rattle.model.proofs.Tables.{moved_line}
use Rattle.model.proofs.Stages.{in_stage}
use Rattle.model.proofs.SeatTurns.{Onward, next_line}
use Rattle.model.proofs.Ways.{some_same, either}

-- replica n is counted in a round that goes on
pub record Counts (before later : Line) (n : ℕ) : Type 0 where
  pub here : later.round ≡ before.round → is_open later.stage ≡ true → member later.counted.0 n ≡ true

counts_later : {before later : Line} {n : ℕ} → later.round ≡ before.round + 1 → Counts before later n
counts_later up = record { here = λ e o. absurd (omega arith) }

counts_shut : {before later : Line} {n : ℕ} → is_open later.stage ≡ false → Counts before later n
counts_shut shut = record { here = λ e o. absurd (clash (sym shut ∙ o)) }

-- who was counted before is counted still
pub counts_again : {before later : Line} {n : ℕ} → Onward before later → member before.counted.0 n ≡ true → Counts before later n
counts_again {n = n} onward m = record { here = λ e o. (onward.counted e o).each n m }

-- no more operations have ended than have begun
ends_low : (ops : List Operation) → ends ops ≤ length ops
unfolding ends
ends_low [] = omega arith
ends_low (op ∷ ops) = omega (arith, ends_low ops)

-- what is small stays below what 32 bits hold
module _ {kind : ℕ} {sealed : List Text} {w : World} (holds : Holds kind sealed w) where
  pub post_small : length w.hall.post.list ≤ 4096
  post_small = omega (arith, holds.sized.post_limit)

  pub moment_room : has_moment w.hall ≡ true
  moment_room = lt-ltb w.hall.moment 4294967295 (omega (arith, holds.log.moments, ends_low w.hall.log.list, holds.sized.log_limit))

-- replica n of the set has sent the entry
pub sent_within : (set sender n : ℕ) (from : Replica) → from.number ≡ n → sender ≡ 100 + n → member set n ≡ true → replica_of n ≡ Some from → sender_within set sender ≡ Some from
sent_within set sender n from is by inside made =
    let back : 100 + n - 100 ≡ n = omega arith in
    ap (λ s. sender_within set s) by
    ∙ ap (λ b. cond b (replica_of (100 + n - 100)) None) (and_from (leb 100 (100 + n)) (member set (100 + n - 100)) (le-leb 100 (100 + n) (omega arith)) (ap (member set) back ∙ inside))
    ∙ ap replica_of back ∙ made

-- the answer is counted already, or the client turns on it
pub data Heeded (line : Line) (n : ℕ) (v : Verdict) : Type 0 where
  again : member line.counted.0 n ≡ true → Heeded line n v
  heeds : (turn : Turn) → v ≡ Ok turn → Heeded line n v

module _ {V : Type 0} (kind : RecordKind V) (sealed : List Text) (w : World) (holds : Holds kind.number sealed w) (client : Client) (high : client.number ≤ w.hall.rules.clients)
    (number : ℕ) (posted : number < length w.hall.post.list) (from : Replica) where
  abbrev line : Line
  line = (seat_of w.hall client.number).line

  abbrev e : Entry
  e = entry_of w.hall number

  abbrev genuine : Bool
  genuine = genuine_entry w.hall.rules kind.number w.genuine (entry_of w.hall number)

  mine : SeatRule kind.number w client.number (seat_of w.hall client.number)
  mine = holds.seats client.number (client_low client) high

  round_room : ltb line.round 4294967295 ≡ true
  round_room = lt-ltb line.round 4294967295 (omega (arith, mine.round_low, post_small holds))

  module _ (inside : sender_within line.configuration.set.0 e.sender ≡ Some from) (in_round : e.round ≡ line.round) where
    -- every turn on an answer counts it
    pub move_counts : {turn : Turn} → (e.kind ≡ 4) ⊎ (e.kind ≡ 5) → ClientMove w.hall.rules client line e genuine turn → Counts line (next_line turn) from.number
    move_counts k (counts_pair other h few t) = subst (λ z. Counts line (next_line z) from.number) (sym t)
        (record { here = λ r o. subst (λ f. member (inserted line.counted.0 f.number) from.number ≡ true) (some_same (sym inside ∙ h.inside)) (inserted_member line.counted.0 from.number) })
    move_counts k (ends_read other h large none agree t) = subst (λ z. Counts line (next_line z) from.number) (sym t) (counts_shut refl)
    move_counts k (writes_back other h large none t) = subst (λ z. Counts line (next_line z) from.number) (sym t) (counts_later refl)
    move_counts k (takes_stamp other word h large some t) = subst (λ z. Counts line (next_line z) from.number) (sym t) (counts_later refl)
    move_counts k (counts_ack other h few t) = subst (λ z. Counts line (next_line z) from.number) (sym t)
        (record { here = λ r o. subst (λ f. member (inserted line.counted.0 f.number) from.number ≡ true) (some_same (sym inside ∙ h.inside)) (inserted_member line.counted.0 from.number) })
    move_counts k (ends_write other h large t) = subst (λ z. Counts line (next_line z) from.number) (sym t) (counts_shut refl)
    move_counts k (goes_on h shut t) = subst (λ z. Counts line (next_line z) from.number) (sym t) (counts_shut shut)
    move_counts k (reads_again h s t) = subst (λ z. Counts line (next_line z) from.number) (sym t) (counts_later refl)
    move_counts k (writes_again h s t) = subst (λ z. Counts line (next_line z) from.number) (sym t) (counts_later refl)
    move_counts (inl pair) (replies k t) = absurd (omega arith)
    move_counts (inr ack) (replies k t) = absurd (omega arith)

    -- ACK while writing or writing back
    pub heeded_ack : e.kind ≡ 5 → is_writing line.stage ≡ true → Heeded line from.number (decided w.hall.rules client line e genuine)
    heeded_ack kind_is stage =
        let to_ack : decided w.hall.rules client line e genuine ≡ on_ack_from (Some from) w.hall.rules line =
        ap (λ k. decided_by_kind (kind_of k) w.hall.rules client line e genuine) kind_is
        ∙ ap (λ b. cond (not b) (Err NotAwaited) (on_ack_from (sender_within line.configuration.set.0 e.sender) w.hall.rules line)) (and_from (is_writing line.stage) (eqb e.round line.round) stage (eq-eqb e.round line.round in_round))
        ∙ ap (λ o. on_ack_from o w.hall.rules line) inside in
        either (member line.counted.0 from.number) (λ m. again m)
        (λ new. either (is_quorum w.hall.rules (counting line from))
        (λ large. heeds _ (to_ack ∙ ap (λ b. cond b (Err AlreadyCounted) (ack_heard w.hall.rules (counting line from))) new ∙ ap (λ b. cond b (moves (ended (counting line from)) None) (moves (counting line from) None)) large))
        (λ few. heeds _ (to_ack ∙ ap (λ b. cond b (Err AlreadyCounted) (ack_heard w.hall.rules (counting line from))) new ∙ ap (λ b. cond b (moves (ended (counting line from)) None) (moves (counting line from) None)) few)))

    -- PAIR while reading: a closing is never refused
    module _ (kind_is : e.kind ≡ 4) (stage : line.stage ≡ Reading) (good : genuine ≡ true)
        (count_room : member line.counted.0 from.number ≡ false → is_quorum w.hall.rules (heard line e from) ≡ true → ltb (max (heard line e from).highest.stamp.count line.last_count) 4294967295 ≡ true) where
      closed : (o : Option Word) → ltb (max (heard line e from).highest.stamp.count line.last_count) 4294967295 ≡ true
          → decided w.hall.rules client line e genuine ≡ closing o client (heard line e from) → Heeded line from.number (decided w.hall.rules client line e genuine)
      closed None count p = either (heard line e from).agree
          (λ agree. heeds _ (p ∙ ap (λ b. cond b (moves (ended (heard line e from)) None) (writes_next WritingBack client (heard line e from))) agree))
          (λ differ. heeds _ (p ∙ ap (λ b. cond b (moves (ended (heard line e from)) None) (writes_next WritingBack client (heard line e from))) differ
          ∙ ap (λ b. cond b (with_write client (opened (heard line e from) WritingBack (line.round + 1) (heard line e from).highest)) (Err TooHigh)) round_room))
      closed (Some word) count p =
          let top = max (heard line e from).highest.stamp.count line.last_count in
          heeds _ (p ∙ ap (λ b. cond b (after line.round (λ round. Ok (Stamps (stamped (heard line e from) round (unsealed client (top + 1) word))))) (Err TooHigh)) count
          ∙ ap (λ b. cond b (Ok (Stamps (stamped (heard line e from) (line.round + 1) (unsealed client (top + 1) word)))) (Err TooHigh)) round_room)

      pub heeded_pair : Heeded line from.number (decided w.hall.rules client line e genuine)
      heeded_pair =
          let to_pair : decided w.hall.rules client line e genuine ≡ on_pair_from (Some from) w.hall.rules client line e genuine =
          ap (λ k. decided_by_kind (kind_of k) w.hall.rules client line e genuine) kind_is
          ∙ ap (λ b. cond (not b) (Err NotAwaited) (on_pair_from (sender_within line.configuration.set.0 e.sender) w.hall.rules client line e genuine)) (and_from (is_reading line.stage) (eqb e.round line.round) (ap is_reading stage) (eq-eqb e.round line.round in_round))
          ∙ ap (λ o. on_pair_from o w.hall.rules client line e genuine) inside in
          either (member line.counted.0 from.number) (λ m. again m)
          (λ new. let p = to_pair ∙ ap (λ b. cond b (Err AlreadyCounted) (cond (not genuine) (Err NotGenuine) (pair_heard w.hall.rules client (heard line e from)))) new
          ∙ ap (λ b. cond (not b) (Err NotGenuine) (pair_heard w.hall.rules client (heard line e from))) good in
          either (is_quorum w.hall.rules (heard line e from))
          (λ large. closed line.word (count_room new large) (p ∙ ap (λ b. cond b (closing line.word client (heard line e from)) (moves (heard line e from) None)) large))
          (λ few. heeds _ (p ∙ ap (λ b. cond b (closing line.word client (heard line e from)) (moves (heard line e from) None)) few)))

  -- what comes of a turn: the seat has the line of the turn
  turned_seat : {a : Answer V} {h' : Hall} {text : Option Text} (next : Line) (post : Option Entry) (seals : ℕ → ℕ) (sealed : Option Text)
      → ◌≡◌ {A = Outcome V} (record { answer = done; hall = client_moves w.hall client.number (seat_of w.hall client.number) next post seals; sealed = sealed }) (record { answer = a; hall = h'; sealed = text }) → (seat_of h' client.number).line ≡ next
  turned_seat next post seals sealed p = subst (λ h. (seat_of h client.number).line ≡ next) (hall_is p) (moved_line w.hall client.number next post seals holds.sized (client_low client) high)

  -- a write that takes its stamp has a seal for it
  stamps_sealed : {turn : Turn} (next : Line) → ClientMove w.hall.rules client line e genuine turn → turn ≡ Stamps next → eqb (w.hall.seals (pair_text kind.number next.highest).party) 0 ≡ false
  stamps_sealed next (counts_pair other h few t) is = not_moves (sym is ∙ t)
  stamps_sealed next (ends_read other h large none agree t) is = not_moves (sym is ∙ t)
  stamps_sealed next (writes_back other h large none t) is = not_moves (sym is ∙ t)
  stamps_sealed next (takes_stamp other word h large some t) is =
      subst (λ l. eqb (w.hall.seals (pair_text kind.number l.highest).party) 0 ≡ false) (stamps_line (sym t ∙ is))
      (ne_eqb (w.hall.seals client.number) 0 (λ none. omega (arith, none, (in_stage mine h.stage).seal_left ((mine.own (ap is_idle h.stage)).writes word some))))
  stamps_sealed next (counts_ack other h few t) is = not_moves (sym is ∙ t)
  stamps_sealed next (ends_write other h large t) is = not_moves (sym is ∙ t)
  stamps_sealed next (goes_on h shut t) is = not_moves (sym is ∙ t)
  stamps_sealed next (reads_again h s t) is = not_moves (sym is ∙ t)
  stamps_sealed next (writes_again h s t) is = not_moves (sym is ∙ t)
  stamps_sealed next (replies k t) is = not_moves (sym is ∙ t)

  module _ (room : is_full w.hall.post ≡ false) (fits : fits_client (kind_of e.kind) e client ≡ true) (given : Seal) (a : Answer V) (h' : Hall) (text : Option Text)
      (outcome : deliver_called w given kind.number number client.number ≡ record { answer = a; hall = h'; sealed = text }) where
    -- the call is the client's step
    told : client_done (client_step_of w given kind.number client e) number w.hall client ≡ record { answer = a; hall = h'; sealed = text }
    told = sym (rw (holds.sized.tables, lt-ltb number (length w.hall.post.list) posted, client_party w.hall.rules client high, room, moment_room holds, fits) refl) ∙ outcome

    -- the line that a turn leaves
    turn_line : (turn : Turn) → ClientMove w.hall.rules client line e genuine turn → decided w.hall.rules client line e genuine ≡ Ok turn → (n : ℕ) → Counts line (next_line turn) n → Counts line (seat_of h' client.number).line n
    turn_line (Moves next post) move is n counts =
        subst (λ l. Counts line l n)
        (sym (turned_seat next post w.hall.seals None (sym (ap (λ v. client_done (acted v kind.number w.hall.seals given client line) number w.hall client) is) ∙ told))) counts
    turn_line (Stamps next) move is n counts =
        let mine = pair_text kind.number next.highest in
        subst (λ l. Counts line l n)
        (sym (turned_seat (sealed_with next given) (Some (write_of client (sealed_with next given))) (spent w.hall.seals mine.party) (Some mine)
        (sym (ap (λ v. client_done (acted v kind.number w.hall.seals given client line) number w.hall client) is
        ∙ ap (λ b. client_done (signing (cond b (record { answer = Err (NoSeal mine.party); seals = w.hall.seals }) (record { answer = Ok given; seals = spent w.hall.seals mine.party })) mine client line next) number w.hall client)
        (stamps_sealed next move refl)) ∙ told)))
        (record { here = counts.here })

    pub handed_counts : (n : ℕ) → Onward line (seat_of h' client.number).line → ((turn : Turn) → ClientMove w.hall.rules client line e genuine turn → Counts line (next_line turn) n)
        → Heeded line n (decided w.hall.rules client line e genuine) → Counts line (seat_of h' client.number).line n
    handed_counts n onward by_move (again m) = counts_again onward m
    handed_counts n onward by_move (heeds turn is) =
        let move = client_view w.hall.rules client line e genuine turn is in
        turn_line turn move is n (by_move turn move)
