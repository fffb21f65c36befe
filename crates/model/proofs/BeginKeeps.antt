-- A begin keeps every rule: READ is posted in the next round, and the operation is logged with the next moment.
-- The client is idle, log and post have room, and a write has a seal left.
use Rattle.std.proofs.Common.{◌≡◌, ℕ, ◌+◌, ◌-◌, ◌<◌, ◌≤◌, min, true, false, List, [], ◌∷◌, ◌++◌, length, is_some, Option, sym, refl, ap, ◌∙◌, subst, arith, length-append, length-set}
use borrow.Author.Tests.{clash}
use Rattle.kinds.specs.declared.word.Word.{Word}
use Rattle.wire.specs.declared.entry.Entry.{Entry}
use Rattle.wire.specs.declared.text.Text.{Text}
use Rattle.wire.specs.Parties.{Client}
use Rattle.clients.specs.Steps.{reading_next}
use Rattle.clients.specs.Turns.{read_of}
use Rattle.quorums.proofs.Insertion.{none_in_empty, empty_within}
use Rattle.quorums.proofs.Sizes.{ones_empty}
use Rattle.histories.specs.Places.{Posted, here, there, done, next}
use Rattle.histories.specs.Shapes.{ReadEntry, WriteEntry}
use Rattle.histories.specs.Histories.{Good}
use Rattle.histories.proofs.Posting.{justified_read}
use Rattle.halls.specs.declared.operation.Operation.{Operation}
use Rattle.halls.specs.declared.seat.Seat.{Seat}
use Rattle.model.specs.Tables.{is_full, added}
use Rattle.model.specs.Halls.{LeftOpen, World, no_operation, seat_of, operation_of, with_post, with_seat, with_log, end_of}
use Rattle.model.specs.Beginning.{new_operation, word_or_none}
use Rattle.model.proofs.Frames.{history_added, card_stays, quiet_below, later_configuration, later_seat, later_text}
use Rattle.model.proofs.Invariants.{views, history, stamp_number, StampedWrite, OverBefore, SettledSomewhere, OperationRule, ReadingRule, SeatRule, LogRule, ends, Holds, Later}
use Rattle.model.proofs.Posts.{roll_stays, post_added, answers_posted, no_answer, operation_later}
use Rattle.model.proofs.Tables.{before_end, at_end, places_added, seats_with, each_with, ended_logged}

-- one more operation that has not ended
pub ends_begun : (ops : List Operation) (op : Operation) → end_of op ≡ 0 → ends (ops ++ (op ∷ [])) ≡ ends ops
unfolding ends
ends_begun [] op e = omega arith
ends_begun (o ∷ ops) op e = ap (λ n. min 1 (end_of o) + n) (ends_begun ops op e)

abbrev pub begin_seat : World → ℕ → Option Word → Seat
begin_seat w c word = record { line = reading_next (seat_of w.hall c).line word; operation = length w.hall.log.list; lodged = (seat_of w.hall c).lodged }

abbrev pub begin_world : World → Client → Option Word → LeftOpen → World
begin_world w client word left_open = record {
  hall = with_log
      (with_seat (with_post w.hall (added w.hall.post (read_of client (reading_next (seat_of w.hall client.number).line word)))) client.number (begin_seat w client.number word))
      (added w.hall.log (new_operation client.number word (w.hall.moment + 1)))
      (w.hall.moment + 1);
  genuine = w.genuine;
  left_open = left_open;
}

module _ (kind : ℕ) (sealed : List Text) (w : World) (holds : Holds kind sealed w) (client : Client) (word : Option Word) (left_open : LeftOpen)
    (low : 1 ≤ client.number) (high : client.number ≤ w.hall.rules.clients)
    (log_room : is_full w.hall.log ≡ false) (post_room : is_full w.hall.post ≡ false)
    (seal : is_some word ≡ true → 0 < w.hall.seals client.number) where
  abbrev op : Operation
  op = new_operation client.number word (w.hall.moment + 1)

  abbrev world : World
  world = begin_world w client word left_open

  read : Entry
  read = read_of client (reading_next (seat_of w.hall client.number).line word)

  -- operations of the log with one more behind it
  old_op : (k : ℕ) → k < length w.hall.log.list → operation_of world.hall k ≡ operation_of w.hall k
  old_op k lt = before_end w.hall.log.list op no_operation k lt

  new_op : operation_of world.hall (length w.hall.log.list) ≡ op
  new_op = at_end w.hall.log.list op no_operation

  -- what holds of each old operation, and of the new one
  each_op : (P : ℕ → Operation → Type 0) → ((k : ℕ) → k < length w.hall.log.list → P k (operation_of w.hall k)) → P (length w.hall.log.list) op
      → (k : ℕ) → k < length world.hall.log.list → P k (operation_of world.hall k)
  each_op P = each_with P w.hall.log.list op no_operation

  -- what has ended or is stamped is old
  ended_old : (k : ℕ) → 0 < end_of (operation_of world.hall k) → k < length w.hall.log.list
  ended_old k o = each_op (λ j y. 0 < end_of y → j < length w.hall.log.list) (λ j lt z. lt) (λ z. absurd (omega arith)) k (ended_logged world.hall k o) o

  stamped_old : (k : ℕ) → StampedWrite world.hall k → StampedWrite w.hall k
  stamped_old k s = each_op (λ j y. y.writes ≡ true → 0 < y.pair.stamp.count → StampedWrite w.hall j)
      (λ j lt writes stamped. record { logged = lt; writes = writes; stamped = stamped }) (λ writes stamped. absurd (omega arith)) k s.logged s.writes s.stamped

  later_begun : Later w world
  unfolding post_added read
  later_begun = record {
    rolls = roll_stays w.hall;
    posts = post_added w.hall read;
    logs = record {
      moment = omega arith;
      logged = simp length-append (omega arith);
      client = λ k lt. ap (λ z. z.client) (old_op k lt);
      writes = λ k lt. ap (λ z. z.writes) (old_op k lt);
      began = λ k lt. ap (λ z. z.began) (old_op k lt);
      stamp = λ k s. ap (λ z. z.pair) (old_op k s.logged);
      ended = λ k o. old_op k (ended_logged w.hall k o);
      ending = λ k z o. absurd (omega (arith, z, o, ap (λ p. end_of p) (old_op k (ended_old k o))));
    };
    genuine = λ t s g. g;
  }

  log_begun : LogRule world
  unfolding later_begun history
  log_begun = record {
    moments = moments;
    each = each_op (λ k y. OperationRule world k)
        (λ k o. operation_later w world later_begun k o later_begun.moment (old_op k o) (holds.log.each k o)) new_rule;
    rising = λ j k lt lk. each_op (λ m y. j < m → (operation_of world.hall j).began < y.began)
        (λ m o less. let lj : j < length w.hall.log.list = omega arith in rw (old_op j lj) (holds.log.rising j m less o))
        (λ less. rw (old_op j less) (omega (arith, (holds.log.each j less).began_by))) k lk lt;
    own_stamp = λ j k sj sk e. holds.log.own_stamp j k (stamped_old j sj) (stamped_old k sk) (sym (number j (stamped_old j sj).logged) ∙ e ∙ number k (stamped_old k sk).logged);
    falls_not = λ j k o lk y z. rw (number j (ended_old j o.over), number k (ended_old k z))
        (holds.log.falls_not j k (over j k (ended_old k z) o) (ended_old k z) (sym (ap (λ p. p.writes) (old_op k (ended_old k z))) ∙ y) (rw (old_op k (ended_old k z)) at z));
    rises = λ j k o s. rw (number j (ended_old j o.over), number k (stamped_old k s).logged) (holds.log.rises j k (over j k (stamped_old k s).logged o) (stamped_old k s));
  }
    where
      moments : w.hall.moment + 1 ≡ length (w.hall.log.list ++ (op ∷ [])) + ends (w.hall.log.list ++ (op ∷ []))
      moments = rw (ends_begun w.hall.log.list op refl) (simp length-append (omega (arith, holds.log.moments)))

      number : (k : ℕ) → k < length w.hall.log.list → stamp_number (operation_of world.hall k).pair ≡ stamp_number (operation_of w.hall k).pair
      number k lt = ap (λ z. stamp_number z.pair) (old_op k lt)

      over : (j k : ℕ) → k < length w.hall.log.list → OverBefore world.hall j k → OverBefore w.hall j k
      over j k lk o = let lj = ended_old j o.over in record { logged = lj; over = rw (old_op j lj) at o.over; before = rw (old_op j lj, old_op k lk) at o.before }

      new_rule : OperationRule world (length w.hall.log.list)
      new_rule = record {
        client_low = rw new_op low;
        client_high = rw new_op high;
        began = rw new_op (omega arith);
        began_by = rw new_op (omega arith);
        ended_after = rw new_op (λ o. absurd (omega arith));
        ended_by = rw new_op (omega arith);
        settled = rw new_op (λ o. absurd (omega arith));
        known = rw new_op (λ o. absurd (omega arith));
        writer = rw new_op (λ y o. absurd (omega arith));
        stamped = rw new_op (λ y o. absurd (omega arith));
        low = rw new_op (λ y. omega arith);
      }

  -- the rounds of this client that are posted
  read_rounds : {k e : ℕ} → Posted (ReadEntry client.number k e) (read ∷ history w.hall) → k ≤ (seat_of w.hall client.number).line.round + 1
  unfolding read
  read_rounds (here s) = omega (arith, s.round)
  read_rounds (there s) = omega (arith, (holds.seats client.number low high).reads s)

  write_rounds : {k e t : ℕ} → Posted (WriteEntry client.number k e t) (read ∷ history w.hall) → k ≤ (seat_of w.hall client.number).line.round + 1
  unfolding read
  write_rounds (here s) = absurd (wrong s.kind)
    where
      wrong : ◌≡◌ {A = ℕ} 1 2 → ⊥
      wrong e = omega arith
  write_rounds (there s) = omega (arith, (holds.seats client.number low high).writes s)

  seat_begun : SeatRule kind world client.number (begin_seat w client.number word)
  unfolding later_begun history read
  seat_begun = record {
    base = record {
      configuration = later_configuration later_begun _ mine.configuration;
      past = record {
        reads = λ {k} {e} p. read_rounds (subst (λ h. Posted (ReadEntry client.number k e) h) (history_added w.hall read) p);
        writes = λ {k} {e} {s} p. write_rounds (subst (λ h. Posted (WriteEntry client.number k e s) h) (history_added w.hall read) p);
        round_low = simp length-append (omega (arith, mine.round_low));
        count_low = simp length-append (omega (arith, mine.count_low));
        counts = λ k s is. rw (old_op k (stamped_old k s).logged) (mine.counts k (stamped_old k s) (sym (ap (λ z. z.client) (old_op k (stamped_old k s).logged)) ∙ is));
        newest = λ k lt is. omega (arith, simp length-append at lt);
      };
      own = λ busy. record {
        logged = simp length-append (omega arith);
        client = ap (λ z. z.client) new_op;
        reads = λ e. ap (λ z. z.writes) new_op ∙ ap (λ z. is_some z) e;
        writes = λ x e. ap (λ z. z.writes) new_op ∙ ap (λ z. is_some z) e;
        word = λ x e. ap (λ z. z.pair.word) new_op ∙ ap word_or_none e;
      };
      opens = λ o. record { unended = ap (λ z. end_of z) new_op; within = empty_within _; few = omega (arith, ones_empty) };
    };
    stage = reading;
  }
    where
      mine : SeatRule kind w client.number (seat_of w.hall client.number)
      mine = holds.seats client.number low high

      before : (k : ℕ) → OverBefore world.hall k (length w.hall.log.list)
          → SettledSomewhere (views w.hall) (history w.hall) (stamp_number (operation_of world.hall k).pair)
      before k o = let lk = ended_old k o.over in rw (old_op k lk) ((holds.log.each k lk).settled (rw (old_op k lk) at o.over))

      reading : ReadingRule kind world client.number (begin_seat w client.number word).line (length w.hall.log.list)
      reading = record {
        read_asked = record {
          newer = [];
          read = read_of client (reading_next (seat_of w.hall client.number).line word);
          older = history w.hall;
          splits = history_added w.hall (read_of client (reading_next (seat_of w.hall client.number).line word));
          asked = record { client = omega (arith, holds.sized.clients); sender = refl; kind = refl; round = refl; epoch = refl };
          before = before;
          unstamped = λ y. ap (λ z. z.pair.stamp.count) new_op;
          seal_left = λ y. seal (sym (ap (λ z. z.writes) new_op) ∙ y);
        };
        answered = λ n m honest. absurd (clash (sym (none_in_empty n) ∙ m));
        agreed = λ a n m honest. absurd (clash (sym (none_in_empty n) ∙ m));
        highest = λ ne. absurd (ne refl);
        genuine = λ ne. absurd (ne refl);
      }

  pub begin_keeps : Holds kind sealed (begin_world w client word left_open)
  unfolding later_begun history read
  begin_keeps = record {
    sized = let s = holds.sized in record {
      tables = rw (
        places_added w.hall.post read post_room,
        places_added w.hall.log op log_room,
        length-set w.hall.seats (client.number - 1) (begin_seat w client.number word),
      ) s.tables;
      limits = s.limits;
      post_limit = rw (places_added w.hall.post read post_room) s.post_limit;
      log_limit = rw (places_added w.hall.log op log_room) s.log_limit;
    };
    roll = holds.roll;
    good = subst (λ h. Good (views w.hall) h) (sym (history_added w.hall read))
        (next (justified_read shape (record { reads = λ p. fresh ((holds.seats client.number low high).reads p); writes = λ p. fresh ((holds.seats client.number low high).writes p) })) holds.good);
    answers = answers_posted kind w world read later_begun refl (no_answer kind _ _ (λ e. omega arith) (λ e. omega arith)) holds.answers;
    cards = λ q lt. card_stays kind q later_begun refl (next (quiet_below (omega (arith, holds.sized.clients))) done) (holds.cards q lt);
    seats = seats_with client.number (begin_seat w client.number word) holds.sized low high seat_begun others;
    log = log_begun;
    texts = λ t m. later_text kind later_begun t (holds.texts t m);
  }
    where
      shape : ReadEntry client.number ((seat_of w.hall client.number).line.round + 1) (seat_of w.hall client.number).line.configuration.epoch read
      shape = record { client = omega (arith, holds.sized.clients); sender = refl; kind = refl; round = refl; epoch = refl }

      fresh : {k : ℕ} → k ≤ (seat_of w.hall client.number).line.round → k < (seat_of w.hall client.number).line.round + 1
      fresh le = omega arith

      others : (d : ℕ) → 1 ≤ d → d ≤ w.hall.rules.clients → (d ≡ client.number → ⊥) → SeatRule kind world d (seat_of w.hall d)
      others d low' high' ne =
          let s = holds.seats d low' high' in
          later_seat kind d (seat_of w.hall d) later_begun (next (record { not_read = λ e k. ne (sym e); not_write = λ e k. ne (sym e) }) done) holds.log
          (λ busy. old_op _ (s.own busy).logged)
          (λ k old new is. ne (sym is ∙ new_client k old new)) (λ k st is. stamped_old k st) (omega arith) s
        where
          new_client : (k : ℕ) → length w.hall.log.list ≤ k → k < length world.hall.log.list → (operation_of world.hall k).client ≡ client.number
          new_client k old new = ap (λ m. (operation_of world.hall m).client) at_last ∙ ap (λ z. z.client) new_op
            where
              at_last : k ≡ length w.hall.log.list
              at_last = omega (arith, old, simp length-append at new)
