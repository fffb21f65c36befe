-- The world after a step of one client: another seat for it, and what its step changes in the log, in the post and in the seals.
-- From what is said of that seat, of the log and of the new entries, all rules hold of the new world.
use Rattle.std.proofs.Common.{◌≡◌, ℕ, ◌-◌, ◌<◌, ◌≤◌, Bool, true, false, List, [], ◌∷◌, ◌++◌, length, get_or, set, sym, refl, ap, ◌∙◌, subst, ⊎_elim, arith, length-append, length-set}
use mathlib.Core.List.{Memᴰ}
use Rattle.std.proofs.lemmas.Bool.{cases_lt}
use Rattle.wire.specs.declared.entry.Entry.{Entry}
use Rattle.wire.specs.declared.pair.Seal.{Seal}
use Rattle.wire.specs.declared.text.Text.{Text}
use Rattle.histories.specs.Places.{Posted, Everywhere}
use Rattle.histories.specs.Places.Somewhere.{here, there}
use Rattle.histories.specs.Places.Everywhere.{done, next}
use Rattle.histories.specs.Shapes.{ReadEntry, WriteEntry}
use Rattle.histories.specs.Histories.{Good, Justified}
use Rattle.halls.specs.declared.operation.Operation.{Operation}
use Rattle.halls.specs.declared.seat.Seat.{Seat}
use Rattle.model.specs.Tables.{Table, is_full, added, places}
use Rattle.model.specs.Halls.{World, no_entry, no_operation, seat_of, operation_of, end_of}
use Rattle.model.specs.Delivering.{entry_of}
use Rattle.model.proofs.Frames.{later_answer, later_seat, QuietReplica, QuietClient, card_stays, quiet_below}
use Rattle.model.proofs.Invariants.{views, history, StampedWrite, Sized, KnownText, AnswerRule, SeatRule, LogRule, Holds, PostGrows, Later}
use Rattle.model.proofs.Posts.{roll_stays, post_stays, post_added}
use Rattle.model.proofs.Tables.{at_end, places_added, seats_with}

abbrev pub moved : World → ℕ → Seat → List Operation → ℕ → Table Entry → (ℕ → ℕ) → (Text → Seal → Bool) → World
moved w c seat ops moment table seals genuine = record w {
  hall = record w.hall {
    moment = moment;
    post = table;
    log = record w.hall.log { list = ops };
    seats = set w.hall.seats (c - 1) seat;
    seals = seals;
  };
  genuine = genuine;
}

-- where the log and the seals stay as they are
abbrev pub stepped : World → ℕ → Seat → Table Entry → World
stepped w c seat table = moved w c seat w.hall.log.list w.hall.moment table w.hall.seals w.genuine

-- the new entries are of client c, and ask in no round above this one
pub record Posting (w : World) (c round : ℕ) (table : Table Entry) : Type 0 where
  pub grows : PostGrows w.hall table.list
  pub open grows use *
  pub new_entries : (n : ℕ) → length w.hall.post.list ≤ n → n < length table.list → (get_or table.list n no_entry).sender < 100
  pub good : Good (views w.hall) (posted ++ history w.hall)
  pub quiet_replicas : (q : ℕ) → Everywhere (λ x below. QuietReplica q x) posted
  pub quiet_clients : (d : ℕ) → (d ≡ c → ⊥) → Everywhere (λ x below. QuietClient d x) posted
  pub reads : {k e : ℕ} → Posted (ReadEntry c k e) posted → k ≤ round
  pub writes : {k e s : ℕ} → Posted (WriteEntry c k e s) posted → k ≤ round
  pub room : places table ≡ places w.hall.post

-- nothing is posted
unfoldable pub posting_none : {kind : ℕ} {sealed : List Text} {w : World} (c round : ℕ) → Holds kind sealed w → Posting w c round w.hall.post
unfolding post_stays
posting_none {w = w} c round holds = record {
  grows = post_stays w.hall;
  new_entries = λ n new lt. absurd (omega arith);
  good = holds.good;
  quiet_replicas = λ q. done;
  quiet_clients = λ d ne. done;
  reads = λ p. elim p [ ];
  writes = λ p. elim p [ ];
  room = refl;
}

-- one entry is posted
unfoldable pub posting_one : {kind : ℕ} {sealed : List Text} {w : World} (c round : ℕ) (x : Entry) → Holds kind sealed w → is_full w.hall.post ≡ false
    → c < 100 → x.sender ≡ c → x.round ≤ round
    → Justified (views w.hall) x (history w.hall)
    → Posting w c round (added w.hall.post x)
unfolding post_added
posting_one {kind} {sealed} {w} c round x holds room small by low justified = record {
  grows = post_added w.hall x;
  new_entries = λ n new lt. subst (λ (y : Entry). y.sender < 100) (last n new lt) (omega arith);
  good = next justified holds.good;
  quiet_replicas = λ q. next (quiet_below (omega arith)) done;
  quiet_clients = λ d ne. next (record { not_read = λ e k. ne (omega arith); not_write = λ e k. ne (omega arith) }) done;
  reads = only_reads;
  writes = only_writes;
  room = places_added w.hall.post x room;
}
  where
    last : (n : ℕ) → length w.hall.post.list ≤ n → n < length (added w.hall.post x).list → x ≡ get_or (w.hall.post.list ++ (x ∷ [])) n no_entry
    last n new lt = sym (at_end w.hall.post.list x no_entry) ∙ ap (λ m. get_or (w.hall.post.list ++ (x ∷ [])) m no_entry) is
      where
        is : length w.hall.post.list ≡ n
        is = omega (arith, simp length-append at lt)

    only_reads : {k e : ℕ} → Posted (ReadEntry c k e) (x ∷ []) → k ≤ round
    only_reads (here r) = omega (arith, r.round)
    only_reads (there p) = elim p [ ]

    only_writes : {k e s : ℕ} → Posted (WriteEntry c k e s) (x ∷ []) → k ≤ round
    only_writes (here r) = omega (arith, r.round)
    only_writes (there p) = elim p [ ]

-- the log stays as it is but for an operation of client c, of which what was said stands
pub record Logging (w : World) (c : ℕ) (ops : List Operation) (moment : ℕ) : Type 0 where
  pub same_length : length ops ≡ length w.hall.log.list
  pub others : (j : ℕ) → ((operation_of w.hall j).client ≡ c → ⊥) → get_or ops j no_operation ≡ operation_of w.hall j
  pub moments : w.hall.moment ≤ moment
  pub client : (j : ℕ) → (get_or ops j no_operation).client ≡ (operation_of w.hall j).client
  pub writes : (j : ℕ) → (get_or ops j no_operation).writes ≡ (operation_of w.hall j).writes
  pub began : (j : ℕ) → (get_or ops j no_operation).began ≡ (operation_of w.hall j).began
  pub stamp : (j : ℕ) → StampedWrite w.hall j → (get_or ops j no_operation).pair ≡ (operation_of w.hall j).pair
  pub ended : (j : ℕ) → 0 < end_of (operation_of w.hall j) → get_or ops j no_operation ≡ operation_of w.hall j
  pub ending : (j : ℕ) → end_of (operation_of w.hall j) ≡ 0 → 0 < end_of (get_or ops j no_operation) → w.hall.moment < end_of (get_or ops j no_operation)

-- nothing is logged
pub logging_none : (w : World) (c : ℕ) → Logging w c w.hall.log.list w.hall.moment
logging_none w c = record {
  same_length = refl;
  others = λ j ne. refl;
  moments = omega arith;
  client = λ j. refl;
  writes = λ j. refl;
  began = λ j. refl;
  stamp = λ j s. refl;
  ended = λ j o. refl;
  ending = λ j z o. absurd (omega arith);
}

unfoldable pub later_moved : {w : World} {c round : ℕ} (seat : Seat) {ops : List Operation} {moment : ℕ} {table : Table Entry} (seals : ℕ → ℕ) (genuine : Text → Seal → Bool)
    → Posting w c round table → Logging w c ops moment → ((t : Text) (s : Seal) → w.genuine t s ≡ true → genuine t s ≡ true)
    → Later w (moved w c seat ops moment table seals genuine)
later_moved {w = w} seat seals genuine p g grows = record {
  rolls = roll_stays w.hall;
  posts = p.grows;
  logs = record {
    moment = g.moments;
    logged = omega (arith, g.same_length);
    client = λ k lt. g.client k;
    writes = λ k lt. g.writes k;
    began = λ k lt. g.began k;
    stamp = g.stamp;
    ended = g.ended;
    ending = g.ending;
  };
  genuine = grows;
}

abbrev pub later_stepped : {w : World} {c round : ℕ} (seat : Seat) {table : Table Entry} → Posting w c round table → Later w (stepped w c seat table)
later_stepped {w} {c} seat p = later_moved seat w.hall.seals w.genuine p (logging_none w c) (λ t s e. e)

module _ {kind : ℕ} {sealed : List Text} {w : World} (holds : Holds kind sealed w) {c round : ℕ} (low : 1 ≤ c) (high : c ≤ w.hall.rules.clients)
    (seat : Seat) {ops : List Operation} {moment : ℕ} {table : Table Entry} (seals : ℕ → ℕ) (genuine : Text → Seal → Bool)
    (p : Posting w c round table) (g : Logging w c ops moment) (grows : (t : Text) (s : Seal) → w.genuine t s ≡ true → genuine t s ≡ true) where
  sized_moved : Sized (moved w c seat ops moment table seals genuine).hall
  sized_moved = let s = holds.sized in record {
    tables = rw (p.room, g.same_length, length-set w.hall.seats (c - 1) seat) s.tables;
    limits = s.limits;
    post_limit = rw p.room s.post_limit;
    log_limit = rw g.same_length s.log_limit;
  }

  answers_moved : (n : ℕ) → n < length table.list → AnswerRule kind (moved w c seat ops moment table seals genuine) (get_or table.list n no_entry)
  answers_moved n lt = ⊎_elim
      (λ old. subst (λ y. AnswerRule kind (moved w c seat ops moment table seals genuine) y) (sym (p.same_entries n old))
      (later_answer kind (later_moved seat seals genuine p g grows) (entry_of w.hall n) (holds.answers n old)))
      (λ new. let by = p.new_entries n new lt in record {
        pair = λ s honest. absurd (omega (arith, s.sender));
        ack = λ s honest. absurd (omega (arith, s.sender));
        genuine = λ s honest. absurd (omega (arith, s.sender));
      })
      (cases_lt n (length w.hall.post.list))

  other_seat : (d : ℕ) → 1 ≤ d → d ≤ w.hall.rules.clients → (d ≡ c → ⊥) → w.hall.seals d ≤ seals d
      → SeatRule kind (moved w c seat ops moment table seals genuine) d (seat_of w.hall d)
  unfolding later_moved
  other_seat d dlow dhigh ne enough =
      let s = holds.seats d dlow dhigh in
      later_seat kind d (seat_of w.hall d) (later_moved seat seals genuine p g grows) (p.quiet_clients d ne) holds.log
      (λ busy. g.others (seat_of w.hall d).operation (λ e. ne (sym (s.own busy).client ∙ e)))
      (λ k old new is. absurd (omega (arith, g.same_length)))
      (λ k st is. old_stamped k st (sym (g.client k) ∙ is))
      enough s
    where
      old_stamped : (k : ℕ) → StampedWrite (moved w c seat ops moment table seals genuine).hall k → (operation_of w.hall k).client ≡ d → StampedWrite w.hall k
      old_stamped k st is =
          let same = g.others k (λ e. ne (sym is ∙ e)) in
          record { logged = omega (arith, st.logged, g.same_length); writes = sym (g.writes k) ∙ st.writes; stamped = omega (arith, st.stamped, ap (λ (op : Operation). op.pair.stamp.count) same) }

  -- the rule of the client's own seat, that of the log, and that of the sealed texts are left to be proved
  pub moved_keeps : (after : List Text)
      → ((d : ℕ) → (d ≡ c → ⊥) → w.hall.seals d ≤ seals d)
      → SeatRule kind (moved w c seat ops moment table seals genuine) c seat
      → LogRule (moved w c seat ops moment table seals genuine)
      → ((t : Text) → Memᴰ t after → KnownText kind (moved w c seat ops moment table seals genuine).hall t)
      → Holds kind after (moved w c seat ops moment table seals genuine)
  unfolding later_moved history
  moved_keeps after enough own log texts = record {
    sized = sized_moved;
    roll = holds.roll;
    good = subst (Good (views w.hall)) (sym p.past) p.good;
    answers = answers_moved;
    cards = λ q lt. card_stays kind q (later_moved seat seals genuine p g grows) refl (p.quiet_replicas q) (holds.cards q lt);
    seats = seats_with c seat holds.sized low high own (λ d dlow dhigh ne. other_seat d dlow dhigh ne (enough d ne));
    log = log;
    texts = texts;
  }
