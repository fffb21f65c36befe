-- Posting an entry, and putting a card in a store: what each asks for so that all rules still hold.
-- The lemmas build the world that comes of it.
use Rattle.std.proofs.Common.{◌≡◌, ℕ, ◌-◌, ◌<◌, ◌≤◌, false, cond, List, [], ◌∷◌, ◌++◌, length, get_or, Some, Option, sym, refl, ap, ◌∙◌, subst, arith, length-append, eq-eqb, ne_eqb}
use native.Mathlib.Decide.{ℕ_discrete}
use Rattle.wire.specs.declared.entry.Entry.{Entry}
use Rattle.wire.specs.declared.text.Text.{Text}
use Rattle.stores.specs.declared.card.Card.{Card}
use Rattle.stores.specs.Saved.{put}
use Rattle.quorums.specs.Quorums.{Honest}
use Rattle.histories.specs.Places.{done, next}
use Rattle.histories.specs.Histories.{Good, Justified}
use Rattle.histories.proofs.Extension.{settled_extends}
use Rattle.histories.proofs.Growth.{settled_grows}
use Rattle.halls.specs.declared.seat.Seat.{Seat}
use Rattle.model.specs.Tables.{is_full, added}
use Rattle.model.specs.Halls.{Hall, LeftOpen, World, no_entry, no_operation, no_seat, seat_of, operation_of, with_post, with_store}
use Rattle.model.specs.Delivering.{entry_of}
use Rattle.model.proofs.Frames.{card_kept, history_added, later_past, later_pair, later_text, later_views, later_answer, seat_stays, QuietClient}
use Rattle.model.proofs.Invariants.{views, history, stamp_number, StampedWrite, OverBefore, Sized, CardRule, CardOf, AnswerRule, OperationRule, SettledSomewhere, SeatRule, LogRule, Holds, RollGrows, PostGrows, LogGrows, Later}
use Rattle.model.proofs.Tables.{before_end, places_added, each_with}

-- the world with one more entry in its post
abbrev pub posted_in : World → Entry → World
posted_in w x = record w { hall = with_post w.hall (added w.hall.post x) }

-- the world with another card for replica n
abbrev pub saved_in : World → (ℕ → Option Card) → Option ℕ → World
saved_in w place saves = record w { hall = with_store w.hall place saves }

-- nothing is issued
pub roll_stays : (h : Hall) → RollGrows h h.rules h.marked h.roll.list
roll_stays h = record { rules = refl; marked = refl; issued = omega arith; roll = λ e lt. refl }

-- nothing is posted
unfoldable pub post_stays : (h : Hall) → PostGrows h h.post.list
unfolding history
post_stays h = record { posted = []; past = refl; entries = omega arith; same_entries = λ n lt. refl }

-- one entry is posted
unfoldable pub post_added : (h : Hall) (x : Entry) → PostGrows h (h.post.list ++ (x ∷ []))
unfolding history
post_added h x = record {
  posted = x ∷ [];
  past = history_added h x;
  entries = simp length-append (omega arith);
  same_entries = λ n lt. before_end h.post.list x no_entry n lt;
}

-- nothing is logged, and no moment is taken
pub log_stays : (h : Hall) → LogGrows h h.log.list h.moment
log_stays h = record {
  moment = omega arith;
  logged = omega arith;
  client = λ k lt. refl;
  writes = λ k lt. refl;
  began = λ k lt. refl;
  stamp = λ k s. refl;
  ended = λ k o. refl;
  ending = λ k z o. absurd (omega arith);
}

unfoldable pub later_posted : (w : World) (x : Entry) → Later w (posted_in w x)
unfolding post_added
later_posted w x = record { rolls = roll_stays w.hall; posts = post_added w.hall x; logs = log_stays w.hall; genuine = λ t s g. g }

-- what the log says of an operation stands in a later world with the same log
pub operation_later : (w w' : World) → Later w w' → (k : ℕ) → k < length w.hall.log.list → w.hall.moment ≤ w'.hall.moment
    → operation_of w'.hall k ≡ operation_of w.hall k → OperationRule w k → OperationRule w' k
operation_later w w' l k lt by same r = record {
  client_low = rw same r.client_low;
  client_high = rw (same, l.rules) r.client_high;
  began = rw same r.began;
  began_by = rw same (omega (arith, r.began_by));
  ended_after = rw same r.ended_after;
  ended_by = rw same (omega (arith, r.ended_by));
  settled = rw same (λ o. settled_later (r.settled o));
  known = rw same (λ o. later_pair l _ (r.known o));
  writer = rw same r.writer;
  stamped = rw same r.stamped;
  low = rw same (λ y. more (r.low y));
}
  where
    settled_later : {t : ℕ} → SettledSomewhere (views w.hall) (history w.hall) t → SettledSomewhere (views w'.hall) (history w'.hall) t
    settled_later s = record { epoch = s.epoch; settled = settled_extends (later_views l) (settled_grows (later_past l) s.settled) }

    more : {n : ℕ} → n ≤ length w.hall.post.list → n ≤ length w'.hall.post.list
    more le = omega (arith, l.entries)

-- the log stays as it is, at the same moment
pub log_later : (w w' : World) → Later w w' → w'.hall.log.list ≡ w.hall.log.list → w'.hall.moment ≡ w.hall.moment → LogRule w → LogRule w'
log_later w w' l same at r = record {
  moments = rw (same, at) r.moments;
  each = λ k lt. operation_later w w' l k (back k lt) l.moment (op k) (r.each k (back k lt));
  rising = λ j k lt lk. rw (op j, op k) (r.rising j k lt (back k lk));
  own_stamp = λ j k sj sk e. r.own_stamp j k (stamped j sj) (stamped k sk) (sym (number j) ∙ e ∙ number k);
  falls_not = λ j k o lk y z. rw (number j, number k) (r.falls_not j k (over j k o) (back k lk) (sym (ap (λ x. x.writes) (op k)) ∙ y) (rw (op k) at z));
  rises = λ j k o sk. rw (number j, number k) (r.rises j k (over j k o) (stamped k sk));
}
  where
    op : (k : ℕ) → operation_of w'.hall k ≡ operation_of w.hall k
    op k = ap (λ x. get_or x k no_operation) same

    back : (k : ℕ) → k < length w'.hall.log.list → k < length w.hall.log.list
    back k lt = rw same at lt

    number : (k : ℕ) → stamp_number (operation_of w'.hall k).pair ≡ stamp_number (operation_of w.hall k).pair
    number k = ap (λ x. stamp_number x.pair) (op k)

    stamped : (k : ℕ) → StampedWrite w'.hall k → StampedWrite w.hall k
    stamped k s = record { logged = back k s.logged; writes = sym (ap (λ x. x.writes) (op k)) ∙ s.writes; stamped = rw (op k) at s.stamped }

    over : (j k : ℕ) → OverBefore w'.hall j k → OverBefore w.hall j k
    over j k o = record { logged = back j o.logged; over = rw (op j) at o.over; before = rw (op j, op k) at o.before }

-- the tables are as long as they were
pub sized_posted : (w : World) (x : Entry) → is_full w.hall.post ≡ false → Sized w.hall → Sized (posted_in w x).hall
sized_posted w x room s = record {
  tables = rw (places_added w.hall.post x room) s.tables;
  limits = s.limits;
  post_limit = rw (places_added w.hall.post x room) s.post_limit;
  log_limit = s.log_limit;
}

-- the answers in the post, with one more entry behind them
pub answers_posted : (kind : ℕ) (w w' : World) (x : Entry) → Later w w' → w'.hall.post.list ≡ w.hall.post.list ++ (x ∷ []) → AnswerRule kind w' x
    → ((n : ℕ) → n < length w.hall.post.list → AnswerRule kind w (entry_of w.hall n))
    → (n : ℕ) → n < length w'.hall.post.list → AnswerRule kind w' (entry_of w'.hall n)
answers_posted kind w w' x l posts answer old =
    subst (λ list. (n : ℕ) → n < length list → AnswerRule kind w' (get_or list n no_entry)) (sym posts)
    (each_with (λ n y. AnswerRule kind w' y) w.hall.post.list x no_entry (λ n before. later_answer kind l (entry_of w.hall n) (old n before)) answer)

-- an entry that is neither PAIR nor ACK
pub no_answer : (kind : ℕ) (w : World) (x : Entry) → (x.kind ≡ 4 → ⊥) → (x.kind ≡ 5 → ⊥) → AnswerRule kind w x
no_answer kind w x not_pair not_ack = record {
  pair = λ s honest. absurd (not_pair s.kind);
  ack = λ s honest. absurd (not_ack s.kind);
  genuine = λ s honest. absurd (not_pair s.kind);
}

-- an entry is posted: it is justified, no client asks in it, and a replica that answers in it keeps its rule
pub post_keeps : (kind : ℕ) (sealed : List Text) (w : World) (x : Entry) → Holds kind sealed w → is_full w.hall.post ≡ false
    → Justified (views w.hall) x (history w.hall)
    → AnswerRule kind (posted_in w x) x
    → ((q : ℕ) (card : Card) → Honest (views w.hall) q → CardRule kind w q card → w.hall.place q ≡ Some card → CardRule kind (posted_in w x) q card)
    → ((c : ℕ) → 1 ≤ c → c ≤ w.hall.rules.clients → QuietClient c x)
    → Holds kind sealed (posted_in w x)
unfolding later_posted
post_keeps kind sealed w x holds room justified answer cards quiet = record {
  sized = sized_posted w x room holds.sized;
  roll = holds.roll;
  good = subst (λ h. Good (views w.hall) h) (sym (history_added w.hall x)) (next justified holds.good);
  answers = answers_posted kind w (posted_in w x) x l refl answer holds.answers;
  cards = λ q lt. let c = holds.cards q lt in record { card = c.card; kept = c.kept; rule = λ honest. cards q c.card honest (c.rule honest) c.kept };
  seats = λ c low high. seat_stays kind c (seat_of w.hall c) l refl (next (quiet c low high) done) holds.log (omega arith) (holds.seats c low high);
  log = log_later w (posted_in w x) l refl refl holds.log;
  texts = λ t m. later_text kind l t (holds.texts t m);
}
  where
    l : Later w (posted_in w x)
    l = later_posted w x

-- the world with other seats, another store, other seals left, and what is open otherwise
abbrev pub aside : World → List Seat → (ℕ → Option Card) → Option ℕ → (ℕ → ℕ) → LeftOpen → World
aside w seats place saves seals left_open = record {
  hall = record w.hall { seats = seats; place = place; saves = saves; seals = seals };
  genuine = w.genuine;
  left_open = left_open;
}

unfoldable pub later_aside : (w : World) (seats : List Seat) (place : ℕ → Option Card) (saves : Option ℕ) (seals : ℕ → ℕ) (left_open : LeftOpen) → Later w (aside w seats place saves seals left_open)
unfolding post_stays
later_aside w seats place saves seals left_open = record { rolls = roll_stays w.hall; posts = post_stays w.hall; logs = log_stays w.hall; genuine = λ t s g. g }

-- seats, cards and seals change, each of them by its rule; nothing is posted or logged
pub aside_keeps : (kind : ℕ) (sealed : List Text) (w : World) (seats : List Seat) (place : ℕ → Option Card) (saves : Option ℕ) (seals : ℕ → ℕ) (left_open : LeftOpen)
    → Holds kind sealed w → length seats ≡ length w.hall.seats
    → ((q : ℕ) → q < w.hall.rules.replicas → CardOf kind (aside w seats place saves seals left_open) q)
    → ((c : ℕ) → 1 ≤ c → c ≤ w.hall.rules.clients → SeatRule kind (aside w seats place saves seals left_open) c (get_or seats (c - 1) no_seat))
    → Holds kind sealed (aside w seats place saves seals left_open)
unfolding later_aside history
aside_keeps kind sealed w seats place saves seals left_open holds same cards rules = record {
  sized = let s = holds.sized in record { tables = rw same s.tables; limits = s.limits; post_limit = s.post_limit; log_limit = s.log_limit };
  roll = holds.roll;
  good = holds.good;
  answers = λ n lt. later_answer kind l (entry_of w.hall n) (holds.answers n lt);
  cards = cards;
  seats = rules;
  log = log_later w (aside w seats place saves seals left_open) l refl refl holds.log;
  texts = λ t m. later_text kind l t (holds.texts t m);
}
  where
    l : Later w (aside w seats place saves seals left_open)
    l = later_aside w seats place saves seals left_open

-- a seat that stays, of a client that keeps its seals
pub seat_aside : (kind : ℕ) (sealed : List Text) (w : World) (seats : List Seat) (place : ℕ → Option Card) (saves : Option ℕ) (seals : ℕ → ℕ) (left_open : LeftOpen)
    → Holds kind sealed w → (c : ℕ) → 1 ≤ c → c ≤ w.hall.rules.clients → w.hall.seals c ≤ seals c
    → SeatRule kind (aside w seats place saves seals left_open) c (seat_of w.hall c)
unfolding later_aside history
seat_aside kind sealed w seats place saves seals left_open holds c low high more =
    seat_stays kind c (seat_of w.hall c) (later_aside w seats place saves seals left_open) refl done holds.log more (holds.seats c low high)

-- a card that stays
pub card_aside : (kind : ℕ) (w : World) (seats : List Seat) (place : ℕ → Option Card) (saves : Option ℕ) (seals : ℕ → ℕ) (left_open : LeftOpen)
    (q : ℕ) (card : Card) → CardRule kind w q card → CardRule kind (aside w seats place saves seals left_open) q card
unfolding later_aside history
card_aside kind w seats place saves seals left_open q card rule =
    card_kept (later_aside w seats place saves seals left_open) (λ e t s. rule.served s) (λ r a s t. rule.stocked t) rule

-- one card is replaced
pub card_keeps : (kind : ℕ) (sealed : List Text) (w : World) (q : ℕ) (card : Card) (saves : Option ℕ) → Holds kind sealed w
    → (Honest (views w.hall) q → CardRule kind w q card) → Holds kind sealed (saved_in w (put w.hall.place q card) saves)
card_keeps kind sealed w q card saves holds rule =
    aside_keeps kind sealed w w.hall.seats (put w.hall.place q card) saves w.hall.seals w.left_open holds refl
    (λ n lt. by_number n lt (ℕ_discrete n q))
    (λ c low high. seat_aside kind sealed w w.hall.seats (put w.hall.place q card) saves w.hall.seals w.left_open holds c low high (omega arith))
  where
    carried : (n : ℕ) (other : Card) → CardRule kind w n other → CardRule kind (saved_in w (put w.hall.place q card) saves) n other
    carried n other r = card_aside kind w w.hall.seats (put w.hall.place q card) saves w.hall.seals w.left_open n other r

    by_number : (n : ℕ) → n < w.hall.rules.replicas → Dec (n ≡ q) → CardOf kind (saved_in w (put w.hall.place q card) saves) n
    by_number n lt (yes e) = record {
      card = card;
      kept = ap (λ b. cond b (Some card) (w.hall.place n)) (eq-eqb n q e);
      rule = λ honest. carried n card (subst (λ x. CardRule kind w x card) (sym e) (rule (subst (λ x. Honest (views w.hall) x) e honest)));
    }
    by_number n lt (no ne) = let c = holds.cards n lt in record {
      card = c.card;
      kept = ap (λ b. cond b (Some card) (w.hall.place n)) (ne_eqb n q ne) ∙ c.kept;
      rule = λ honest. carried n c.card (c.rule honest);
    }

-- seats change, each by its rule, and what is open is otherwise
pub seats_keep : (kind : ℕ) (sealed : List Text) (w : World) (seats : List Seat) (left_open : LeftOpen)
    → Holds kind sealed w → length seats ≡ length w.hall.seats
    → ((c : ℕ) → 1 ≤ c → c ≤ w.hall.rules.clients → SeatRule kind (aside w seats w.hall.place w.hall.saves w.hall.seals left_open) c (get_or seats (c - 1) no_seat))
    → Holds kind sealed (aside w seats w.hall.place w.hall.saves w.hall.seals left_open)
seats_keep kind sealed w seats left_open holds same rules =
    aside_keeps kind sealed w seats w.hall.place w.hall.saves w.hall.seals left_open holds same
    (λ q lt. let c = holds.cards q lt in record { card = c.card; kept = c.kept; rule = λ honest. card_aside kind w seats w.hall.place w.hall.saves w.hall.seals left_open q c.card (c.rule honest) })
    rules

-- what store and sealer leave open does not matter
pub open_keeps : (kind : ℕ) (sealed : List Text) (w : World) (left_open : LeftOpen) → Holds kind sealed w
    → Holds kind sealed (record w { left_open = left_open })
open_keeps kind sealed w left_open holds =
    seats_keep kind sealed w w.hall.seats left_open holds refl
    (λ c low high. seat_aside kind sealed w w.hall.seats w.hall.place w.hall.saves w.hall.seals left_open holds c low high (omega arith))
