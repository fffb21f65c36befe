-- What stays when a world grows: known pairs and texts, cards of replicas and seats of clients that did nothing.
-- The lemmas take two worlds of which the second is later.
use Rattle.std.proofs.Common.{◌≡◌, ℕ, zero, suc, ◌+◌, ◌-◌, ◌<◌, ◌≤◌, Bool, true, false, ◌&&◌, List, [], ◌∷◌, ◌++◌, reverse, length, get_or, Option, sym, refl, ap, ◌∙◌, subst, ⊎_elim, append_assoc, arith}
use mathlib.Core.List.{reverse-append}
use lib.ListN.{length-reverse}
use Rattle.std.proofs.lemmas.List.{get_or-reverse, get_or_past}
use Rattle.std.proofs.lemmas.Bool.{cases_lt, both_ways, or_cases, or_left, or_right, and_parts, and_from}
use Rattle.kinds.specs.declared.word.Word.{Word}
use Rattle.wire.specs.declared.entry.Entry.{Entry}
use Rattle.wire.specs.declared.pair.Configuration.{Configuration}
use Rattle.wire.specs.declared.pair.Pair.{Pair}
use Rattle.wire.specs.declared.text.Text.{Text}
use Rattle.wire.specs.Entries.{pair_of}
use Rattle.wire.specs.Sets.{member}
use Rattle.wire.specs.Texts.{pair_text, configuration_text}
use Rattle.rules.specs.Genuine.{genuine_pair, same_pair, opening_pair, is_client}
use Rattle.stores.specs.declared.card.Card.{Card}
use Rattle.clients.specs.declared.line.Line.{Line}
use Rattle.clients.specs.declared.line.Stage.{Stage}
use Rattle.clients.specs.declared.line.Stage.TheVariants.{Idle, Reading, Writing, WritingBack, Over}
use Rattle.clients.specs.Lines.{is_idle}
use Rattle.quorums.specs.Quorums.{Extends, Within}
use Rattle.quorums.proofs.Meeting.{honest_before}
use Rattle.quorums.proofs.Insertion.{none_in_empty}
use Rattle.histories.specs.Places.{Posted, Everywhere}
use Rattle.histories.specs.Places.Somewhere.{here, there}
use Rattle.histories.specs.Places.Everywhere.{done, next}
use Rattle.histories.specs.Shapes.{ReadEntry, WriteEntry}
use Rattle.histories.specs.Histories.{Served, Stocked, Evidence}
use Rattle.histories.specs.Histories.Serves.{by_pair, by_ack}
use Rattle.histories.proofs.Places.{Beneath, beneath_append, somewhere_grows, posted_map, posted_split, found}
use Rattle.histories.proofs.Growth.{stocked_to_grows, evidence_grows, answered_grows}
use Rattle.histories.proofs.Extension.{evidence_extends, settled_extends}
use Rattle.halls.specs.declared.seat.Seat.{Seat}
use Rattle.model.specs.Tables.{added}
use Rattle.model.specs.Halls.{Hall, World, no_entry, no_configuration, no_operation, operation_of, with_post, end_of}
use Rattle.model.specs.Delivering.{entry_of}
use Rattle.model.proofs.Invariants.{views, issued_as, history, stamp_number, KnownConfiguration, StampedWrite, KnownPair, KnownText, Genuine, CardRule, AnswerRule, OverBefore, SettledSomewhere, ReadingRule, EndPair, SendingRule, OverRule, OpenRule, OwnRule, InStage, SeatRule, LogRule, Later, CardOf}
use Rattle.model.proofs.Invariants.KnownPair.{the_opening, a_write}
use Rattle.model.proofs.Invariants.KnownText.{of_configuration, of_write}
use Rattle.model.proofs.StageTests.{opens_busy}
use Rattle.model.proofs.Tables.{ended_logged}

-- the entry that is posted stands at the head of the history
pub history_added : (h : Hall) (x : Entry) → history (with_post h (added h.post x)) ≡ x ∷ history h
unfolding history
history_added h x = reverse-append h.post.list (x ∷ [])

-- what stands at a place of a history was posted
pub posted_at : (h : List Entry) (i : ℕ) (d : Entry) → i < length h → Posted (λ y. y ≡ get_or h i d) h
posted_at [] i d lt = absurd (omega arith)
posted_at (x ∷ h) zero d lt = here refl
posted_at (x ∷ h) (suc i) d lt = there (posted_at h i d (omega arith))

-- the entry of a number stands as far from the front of the history as from the end of the post
pub history_at : (h : Hall) (n : ℕ) → n < length h.post.list → get_or (history h) (length h.post.list - 1 - n) no_entry ≡ entry_of h n
unfolding history
history_at h n lt =
    let place : ℕ = length h.post.list - 1 - n in
    let back : length h.post.list - 1 - place ≡ n = omega arith in
    get_or-reverse h.post.list place no_entry (omega arith) ∙ ap (λ m. get_or h.post.list m no_entry) back

-- every entry of the post stands in the history
pub posted_entry : (h : Hall) (n : ℕ) → n < length h.post.list → Posted (λ y. y ≡ entry_of h n) (history h)
unfolding history
posted_entry h n lt = posted_map (λ x e. e ∙ history_at h n lt) (posted_at (reverse h.post.list) (length h.post.list - 1 - n) no_entry (omega (arith, length-reverse h.post.list)))

-- and one of a shape stands there as such
pub posted_as : {P : Entry → Type 0} (h : Hall) (n : ℕ) → n < length h.post.list → P (entry_of h n) → Posted P (history h)
posted_as {P} h n lt p = posted_map (λ y is. subst P (sym is) p) (posted_entry h n lt)

pub later_views : {w w' : World} → Later w w' → Extends (views w.hall) (views w'.hall)
later_views l = record {
  faults = ap (λ rules. rules.faults) l.rules;
  marked = l.marked;
  issued = l.issued;
  sets = λ e lt. ap (λ c. c.set.0) (l.roll e lt);
}

pub later_history : {w w' : World} (l : Later w w') → history w'.hall ≡ l.posted ++ history w.hall
unfolding history
later_history l = l.past

pub later_past : {w w' : World} → Later w w' → Beneath (history w.hall) (history w'.hall)
later_past {w} l = subst (Beneath (history w.hall)) (sym (later_history l)) (beneath_append l.posted (history w.hall))

pub later_stamped : {w w' : World} → Later w w' → (k : ℕ) → StampedWrite w.hall k → StampedWrite w'.hall k
later_stamped l k s = record {
  logged = omega (arith, s.logged, l.logged);
  writes = l.writes k s.logged ∙ s.writes;
  stamped = omega (arith, s.stamped, ap (λ p. p.stamp.count) (l.stamp k s));
}

pub later_pair : {w w' : World} → Later w w' → (p : Pair) → KnownPair w.hall p → KnownPair w'.hall p
later_pair l p (the_opening count writer word) = the_opening count writer (word ∙ sym (ap (λ rules. rules.opening) l.rules))
later_pair l p (a_write k s stamp word) =
    a_write k (later_stamped l k s) (ap (λ q. q.stamp) (l.stamp k s) ∙ stamp) (ap (λ q. q.word) (l.stamp k s) ∙ word)

pub later_configuration : {w w' : World} → Later w w' → (c : Configuration) → KnownConfiguration w.hall c → KnownConfiguration w'.hall c
later_configuration l c known = record {
  issued = omega (arith, known.issued, l.issued);
  set = known.set ∙ sym (ap (λ d. d.set.0) (l.roll c.epoch known.issued));
}

pub later_text : {w w' : World} (kind : ℕ) → Later w w' → (t : Text) → KnownText kind w.hall t → KnownText kind w'.hall t
later_text kind l t (of_configuration e lt same) =
    of_configuration e (omega (arith, l.issued)) (same ∙ sym (ap configuration_text (l.roll e lt)))
later_text kind l t (of_write k s same) = of_write k (later_stamped l k s) (same ∙ sym (ap (pair_text kind) (l.stamp k s)))

pub later_genuine : {w w' : World} (kind : ℕ) → Later w w' → (p : Pair) → Genuine kind w p → Genuine kind w' p
later_genuine {w} {w'} kind l p g =
    let opening = same_pair p (opening_pair w.hall.rules) in
    let client = is_client w.hall.rules p.stamp.writer in
    let text = pair_text kind p in
    let checked = w.genuine text p.seal in
    let checks = w'.genuine text p.seal in
    subst (λ rules. genuine_pair rules kind w'.genuine p ≡ true) (sym l.rules)
    (⊎_elim
    (λ opens. or_left opening (client && checks) opens)
    (λ seals. let parts = and_parts client checked seals in or_right opening (client && checks) (and_from client checks parts.0 (l.genuine text p.seal parts.1)))
    (or_cases opening (client && checked) g))

-- what ended before an old operation began had ended before already
pub later_over : {w w' : World} → Later w w' → (k j : ℕ) → j < length w.hall.log.list → (operation_of w.hall j).began ≤ w.hall.moment → OverBefore w'.hall k j → OverBefore w.hall k j
later_over {w} {w'} l k j lt by over =
    let ended : 0 < end_of (operation_of w.hall k) =
    ⊎_elim (λ before. before) (λ unended. absurd (omega (arith, l.ending k (omega arith) over.over, over.before, l.began j lt))) (cases_lt 0 (end_of (operation_of w.hall k))) in
    record {
      logged = ended_logged w.hall k ended;
      over = ended;
      before = omega (arith, over.before, ap (λ op. end_of op) (l.ended k ended), l.began j lt);
    }

-- nothing among the entries is an answer of replica q
pub record QuietReplica (q : ℕ) (x : Entry) : Type 0 where
  pub not_pair : x.sender ≡ 100 + q → x.kind ≡ 4 → ⊥
  pub not_ack : x.sender ≡ 100 + q → x.kind ≡ 5 → ⊥
  pub not_stock : x.sender ≡ 100 + q → x.kind ≡ 6 → ⊥

-- what a client or the source posts is none
pub quiet_below : {q : ℕ} {x : Entry} → x.sender < 100 → QuietReplica q x
quiet_below low = record { not_pair = λ e k. omega arith; not_ack = λ e k. omega arith; not_stock = λ e k. omega arith }

-- nothing among the entries asks in the name of client c
pub record QuietClient (c : ℕ) (x : Entry) : Type 0 where
  pub not_read : x.sender ≡ c → x.kind ≡ 1 → ⊥
  pub not_write : x.sender ≡ c → x.kind ≡ 2 → ⊥

-- what is posted now was posted before, where nothing new is of that shape
old_posted : {P Q : Entry → Type 0} (new : List Entry) {h : List Entry} → ((x : Entry) → Q x → P x → ⊥) → Everywhere (λ x below. Q x) new → Posted P (new ++ h) → Posted P h
old_posted new clash quiet s = ⊎_elim (λ i. let f = found i quiet in absurd (clash f.entry f.ruled f.seen)) (λ old. old) (posted_split new s)

old_served : {q e t : ℕ} (new : List Entry) {h : List Entry} → Everywhere (λ x below. QuietReplica q x) new → Served (new ++ h) q e t → Served h q e t
old_served [] done s = s
old_served (x ∷ new) (next quiet rest) (here (by_pair p)) = absurd (quiet.not_pair p.sender p.kind)
old_served (x ∷ new) (next quiet rest) (here (by_ack p asked)) = absurd (quiet.not_ack p.sender p.kind)
old_served (x ∷ new) (next quiet rest) (there s) = old_served new rest s

-- a later world, in which it has served nothing higher and given no stock of its present epoch
pub card_kept : {w w' : World} {kind q : ℕ} {card : Card} (l : Later w w')
    → ((e t : ℕ) → Served (history w'.hall) q e t → t ≤ stamp_number card.pair)
    → ((r a s : ℕ) → Stocked (history w'.hall) q r a s → a < card.epoch)
    → CardRule kind w q card → CardRule kind w' q card
card_kept {w} {w'} {kind} {q} {card} l serves stocks r = record {
  issued = more r.issued;
  set = r.set ∙ sym (ap (λ x. x.set.0) (l.roll card.epoch r.issued));
  previous = λ a e. r.previous a e ∙ sym (ap (λ x. x.set.0) (l.roll a (earlier a e)));
  served = λ s. serves _ _ s;
  stocked = λ s. stocks _ _ _ s;
  left = λ e lt m. grown (r.left e lt (sym (ap (λ x. member x.set.0 q) (l.roll e (under e lt))) ∙ m));
  ready = λ y. grown (r.ready y);
  heard = λ n a m e. stocked_to_grows (later_past l) (r.heard n a m e);
  heard_within = λ a e. subst (λ x. Within card.heard.0 x.set.0) (sym (l.roll a (earlier a e))) (r.heard_within a e);
  known = later_pair l card.pair r.known;
  genuine = later_genuine kind l card.pair r.genuine;
}
  where
    more : card.epoch < length w.hall.roll.list → card.epoch < length w'.hall.roll.list
    more lt = omega (arith, l.issued)

    earlier : (a : ℕ) → card.epoch ≡ a + 1 → a < length w.hall.roll.list
    earlier a e = omega (arith, r.issued)

    under : (e : ℕ) → e < card.epoch → e < length w.hall.roll.list
    under e lt = omega (arith, r.issued)

    grown : {e : ℕ} → Evidence (views w.hall) (history w.hall) q e (stamp_number card.pair) → Evidence (views w'.hall) (history w'.hall) q e (stamp_number card.pair)
    grown ev = evidence_extends (later_views l) (evidence_grows (later_past l) ev)

-- a card whose replica has answered nothing new
pub later_card : {w w' : World} (kind q : ℕ) (card : Card) (l : Later w w') → Everywhere (λ x below. QuietReplica q x) l.posted → CardRule kind w q card → CardRule kind w' q card
later_card kind q card l quiet rule = card_kept l
    (λ e t s. rule.served (old_served l.posted quiet (subst (λ h. Served h q e t) (later_history l) s)))
    (λ r a s k. rule.stocked (old_posted l.posted (λ x still p. still.not_stock p.sender p.kind) quiet (subst (λ h. Stocked h q r a s) (later_history l) k)))
    rule

pub card_stays : {w w' : World} (kind q : ℕ) (l : Later w w') → w'.hall.place ≡ w.hall.place → Everywhere (λ x below. QuietReplica q x) l.posted → CardOf kind w q → CardOf kind w' q
card_stays kind q l same quiet c = record {
  card = c.card;
  kept = ap (λ place. place q) same ∙ c.kept;
  rule = λ honest. later_card kind q c.card l quiet (c.rule (honest_before (later_views l) honest));
}

-- a member of an epoch's set stays one; the set of an epoch that was not issued has none
pub later_member : {w w' : World} → Later w w' → (e q : ℕ) → member (issued_as w.hall e).set.0 q ≡ true → member (issued_as w'.hall e).set.0 q ≡ true
later_member {w} l e q m = ⊎_elim
    (λ old. ap (λ s. member s q) ((later_views l).sets e old) ∙ m)
    (λ new. absurd (both_ways (member 0 q) (none_in_empty q) (ap (λ c. member c.set.0 q) (sym (get_or_past w.hall.roll.list e no_configuration new)) ∙ m)))
    (cases_lt e (length w.hall.roll.list))

pub later_answer : {w w' : World} (kind : ℕ) → Later w w' → (x : Entry) → AnswerRule kind w x → AnswerRule kind w' x
later_answer kind l x rule = record {
  pair = λ {q} {e} {s} p honest. later_member l e q (rule.pair p (honest_before (later_views l) honest));
  ack = λ {q} {e} {c} {r} p honest. later_member l e q (rule.ack p (honest_before (later_views l) honest));
  genuine = λ p honest. later_genuine kind l (pair_of x) (rule.genuine p (honest_before (later_views l) honest));
}

-- of an operation that stays as it is
module _ {w w' : World} (l : Later w w') (operation : ℕ) (same : operation_of w'.hall operation ≡ operation_of w.hall operation) where
  later_own : {c : ℕ} {to_write : Option Word} → OwnRule w c to_write operation → OwnRule w' c to_write operation
  later_own rule = record {
    logged = omega (arith, rule.logged, l.logged);
    client = ap (λ op. op.client) same ∙ rule.client;
    reads = λ e. ap (λ op. op.writes) same ∙ rule.reads e;
    writes = λ word e. ap (λ op. op.writes) same ∙ rule.writes word e;
    word = λ word e. ap (λ op. op.pair.word) same ∙ rule.word word e;
  }

  later_open : {counted set : ℕ} → OpenRule w counted set operation → OpenRule w' counted set operation
  later_open rule = record {
    unended = ap (λ op. end_of op) same ∙ rule.unended;
    within = rule.within;
    few = omega (arith, rule.few, ap (λ rules. rules.faults) l.rules);
  }

  later_ended : {pair : Pair} → OverRule w pair operation → OverRule w' pair operation
  later_ended rule = record { ended = omega (arith, rule.ended, ap (λ op. end_of op) same); with_pair = ap (λ op. op.pair) same ∙ rule.with_pair }

  module _ (logged : operation < length w.hall.log.list) (by : (operation_of w.hall operation).began ≤ w.hall.moment) where
    later_settled : {h : List Entry}
        → ((k : ℕ) → OverBefore w.hall k operation → SettledSomewhere (views w.hall) h (stamp_number (operation_of w.hall k).pair))
        → (k : ℕ) → OverBefore w'.hall k operation → SettledSomewhere (views w'.hall) h (stamp_number (operation_of w'.hall k).pair)
    later_settled {h} rule k over =
        let old = later_over l k operation logged by over in
        let i = rule k old in
        subst (λ op. SettledSomewhere (views w'.hall) h (stamp_number op.pair)) (sym (l.ended k old.over))
        (record { epoch = i.epoch; settled = settled_extends (later_views l) i.settled })

    later_after : {t : ℕ}
        → ((k : ℕ) → OverBefore w.hall k operation → stamp_number (operation_of w.hall k).pair ≤ t)
        → (k : ℕ) → OverBefore w'.hall k operation → stamp_number (operation_of w'.hall k).pair ≤ t
    later_after rule k over =
        let old = later_over l k operation logged by over in
        omega (arith, rule k old, ap (λ op. stamp_number op.pair) (l.ended k old.over))

    pub later_end_pair : {pair : Pair} {writes : Bool} → EndPair w pair operation writes → EndPair w' pair operation writes
    later_end_pair {pair} rule = record {
      known = later_pair l pair rule.known;
      writes_is = ap (λ op. op.writes) same ∙ rule.writes_is;
      stamped = λ y. later_stamped l operation (rule.stamped y);
      own_pair = λ y. ap (λ op. op.pair) same ∙ rule.own_pair y;
      after = λ r. later_after (rule.after r);
    }

    later_reading : (kind c : ℕ) (line : Line) → w.hall.seals c ≤ w'.hall.seals c → ReadingRule kind w c line operation → ReadingRule kind w' c line operation
    later_reading kind c line seals rule = record {
      read_asked = record {
        newer = l.posted ++ rule.newer;
        read = rule.read;
        older = rule.older;
        splits = later_history l ∙ ap (λ h. l.posted ++ h) rule.splits ∙ sym (append_assoc l.posted rule.newer (rule.read ∷ rule.older));
        asked = rule.asked;
        before = later_settled rule.before;
        unstamped = λ e. ap (λ op. op.pair.stamp.count) same ∙ rule.unstamped (ap (λ op. op.writes) (sym same) ∙ e);
        seal_left = λ e. omega (arith, seals, rule.seal_left (ap (λ op. op.writes) (sym same) ∙ e));
      };
      answered = λ n m honest. answered_grows (beneath_append l.posted rule.newer) (rule.answered n m (honest_before (later_views l) honest));
      agreed = λ e n m honest. somewhere_grows (later_past l) (rule.agreed e n m (honest_before (later_views l) honest));
      highest = λ some. later_pair l line.highest (rule.highest some);
      genuine = λ some. later_genuine kind l line.highest (rule.genuine some);
    }

    later_sending : {writes : Bool} (kind c : ℕ) (line : Line) → SendingRule kind w c line operation writes → SendingRule kind w' c line operation writes
    later_sending kind c line rule = record {
      asked = somewhere_grows (later_past l) rule.asked;
      served = λ n m honest. somewhere_grows (later_past l) (rule.served n m (honest_before (later_views l) honest));
      genuine = later_genuine kind l line.highest rule.genuine;
      ends_with = later_end_pair rule.ends_with;
    }

-- the seat's operation stays as it is, and its client keeps its seals
pub later_seat : {w w' : World} (kind c : ℕ) (seat : Seat) (l : Later w w')
    → Everywhere (λ x below. QuietClient c x) l.posted
    → LogRule w
    → (is_idle seat.line.stage ≡ false → operation_of w'.hall seat.operation ≡ operation_of w.hall seat.operation)
    → ((k : ℕ) → length w.hall.log.list ≤ k → k < length w'.hall.log.list → (operation_of w'.hall k).client ≡ c → ⊥)
    → ((k : ℕ) → StampedWrite w'.hall k → (operation_of w'.hall k).client ≡ c → StampedWrite w.hall k)
    → w.hall.seals c ≤ w'.hall.seals c
    → SeatRule kind w c seat → SeatRule kind w' c seat
later_seat {w} {w'} kind c seat l quiet log same none stamps seals rule = record {
  base = record {
    configuration = later_configuration l seat.line.configuration rule.configuration;
    past = record {
      reads = λ {k} {e} p. rule.reads (old_posted l.posted (λ x still a. still.not_read a.sender a.kind) quiet (subst (Posted (ReadEntry c k e)) (later_history l) p));
      writes = λ {k} {e} {s} p. rule.writes (old_posted l.posted (λ x still a. still.not_write a.sender a.kind) quiet (subst (Posted (WriteEntry c k e s)) (later_history l) p));
      round_low = omega (arith, rule.round_low, l.entries);
      count_low = omega (arith, rule.count_low, l.entries);
      counts = λ k s e. let old = stamps k s e in omega (arith, rule.counts k old (sym (l.client k old.logged) ∙ e), ap (λ p. p.stamp.count) (l.stamp k old));
      newest = λ k lt e. ⊎_elim (λ old. rule.newest k old (sym (l.client k old) ∙ e)) (λ new. absurd (none k new lt e)) (cases_lt k (length w.hall.log.list));
    };
    own = λ busy. later_own l seat.operation (same busy) (rule.own busy);
    opens = λ o. later_open l seat.operation (same (opens_busy seat.line.stage o)) (rule.opens o);
  };
  stage = by_stage seat.line.stage refl rule.stage;
}
  where
    logged : is_idle seat.line.stage ≡ false → seat.operation < length w.hall.log.list
    logged busy = (rule.own busy).logged

    by : is_idle seat.line.stage ≡ false → (operation_of w.hall seat.operation).began ≤ w.hall.moment
    by busy = (log.each seat.operation (logged busy)).began_by

    by_stage : (s : Stage) → seat.line.stage ≡ s → InStage kind w c seat.line seat.operation s → InStage kind w' c seat.line seat.operation s
    by_stage Idle is r = tt
    by_stage Reading is r = let busy = ap is_idle is in later_reading l seat.operation (same busy) (logged busy) (by busy) kind c seat.line seals r
    by_stage Writing is r = let busy = ap is_idle is in later_sending l seat.operation (same busy) (logged busy) (by busy) kind c seat.line r
    by_stage WritingBack is r = let busy = ap is_idle is in later_sending l seat.operation (same busy) (logged busy) (by busy) kind c seat.line r
    by_stage Over is r = later_ended l seat.operation (same (ap is_idle is)) r

-- the same, where the log is the old one
pub seat_stays : {w w' : World} (kind c : ℕ) (seat : Seat) (l : Later w w') → w'.hall.log.list ≡ w.hall.log.list
    → Everywhere (λ x below. QuietClient c x) l.posted
    → LogRule w → w.hall.seals c ≤ w'.hall.seals c
    → SeatRule kind w c seat → SeatRule kind w' c seat
seat_stays kind c seat l same quiet log =
    later_seat kind c seat l quiet log (λ busy. ap (λ ops. get_or ops seat.operation no_operation) same)
    (λ k old new is. absurd (omega (arith, old, new, ap length same)))
    (λ k s is. record {
      logged = omega (arith, s.logged, ap length same);
      writes = ap (λ ops. (get_or ops k no_operation).writes) (sym same) ∙ s.writes;
      stamped = subst (λ ops. 0 < (get_or ops k no_operation).pair.stamp.count) same s.stamped;
    })
