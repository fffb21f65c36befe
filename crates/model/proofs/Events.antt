-- What a call does to the log: nothing begins or ends, or one operation begins, or one ends.
-- Told from the calls' definitions, in a world that meets the rules.
use Rattle.std.proofs.Common.{◌≡◌, ℕ, ◌+◌, ◌-◌, ◌<◌, ◌≤◌, Bool, true, false, cond, List, length, get_or, set, Some, None, Option, sym, refl, ap, ◌∙◌, subst, arith, length-append, length-set, get_or-set_other, get_or-set_same}
use Rattle.kinds.specs.declared.word.Word.{Word}
use Rattle.wire.specs.declared.entry.Entry.{Entry}
use Rattle.wire.specs.declared.pair.Pair.{Pair}
use Rattle.wire.specs.declared.pair.Seal.{Seal}
use Rattle.wire.specs.declared.text.Text.{Text}
use Rattle.wire.specs.Parties.{Client}
use Rattle.clients.specs.declared.line.Line.{Line}
use Rattle.clients.specs.declared.line.Stage.TheVariants.{Over}
use Rattle.clients.specs.Lines.{is_open}
use Rattle.halls.specs.declared.fault.HallFault.{HallFault}
use Rattle.halls.specs.declared.operation.Operation.{Operation}
use Rattle.halls.specs.declared.seat.Seat.{Seat}
use Rattle.model.specs.Tables.{Table}
use Rattle.kinds.specs.Kinds.{RecordKind}
use Rattle.model.specs.Halls.{Hall, World, no_operation, no_seat, seat_of, operation_of, end_of, with_post}
use Rattle.model.specs.Answers.{Answer, done, slip, pair, refused}
use Rattle.model.specs.Beginning.{new_operation}
use Rattle.model.specs.Calls.{Call, issue, begin_read, begin_write, deliver, call_off, collect, lodge, redeem, meddle, Step}
use Rattle.model.specs.Delivering.{client_moves, entry_of, has_ended, logged}
use Rattle.model.proofs.Effects.{Effect, stands, issues, starts, client_steps, replica_steps, calls_off, collects_it, lodges, redeems, meddles, BeginCall, answer_is, hall_is, effect_of}
use Rattle.model.proofs.ClientEvents.{turned, LineChange, unchanged, stamps_now, ends_now, line_change}
use Rattle.model.proofs.Invariants.{OwnRule, SeatRule, Holds}
use Rattle.model.proofs.Tables.{before_end, at_end, set_keeps, seat_same, table_after, posting_is}
use Rattle.model.proofs.StageTests.{opens_busy}

-- nothing began or ended
pub record SameLog (h h' : Hall) : Type 0 where
  pub rules_same : h'.rules ≡ h.rules
  pub marked_same : h'.marked ≡ h.marked
  pub same_length : length h'.log.list ≡ length h.log.list
  pub same_moment : h'.moment ≡ h.moment
  pub client : (k : ℕ) → (operation_of h' k).client ≡ (operation_of h k).client
  pub writes : (k : ℕ) → (operation_of h' k).writes ≡ (operation_of h k).writes
  pub began : (k : ℕ) → (operation_of h' k).began ≡ (operation_of h k).began
  pub ended : (k : ℕ) → end_of (operation_of h' k) ≡ end_of (operation_of h k)
  -- a write keeps its word, an ended operation its pair
  pub word : (k : ℕ) → (operation_of h k).writes ≡ true → (operation_of h' k).pair.word ≡ (operation_of h k).pair.word
  pub over : (k : ℕ) → 0 < end_of (operation_of h k) → (operation_of h' k).pair ≡ (operation_of h k).pair

-- client c began an operation
pub record BegunLog (h h' : Hall) (c : ℕ) (word : Option Word) : Type 0 where
  pub rules_same : h'.rules ≡ h.rules
  pub marked_same : h'.marked ≡ h.marked
  pub longer : length h'.log.list ≡ length h.log.list + 1
  pub next_moment : h'.moment ≡ h.moment + 1
  pub old : (k : ℕ) → k < length h.log.list → operation_of h' k ≡ operation_of h k
  pub new : operation_of h' (length h.log.list) ≡ new_operation c word (h.moment + 1)

-- the operation at place k, of client c, ended
pub record EndedLog (h h' : Hall) (c k : ℕ) : Type 0 where
  pub rules_same : h'.rules ≡ h.rules
  pub marked_same : h'.marked ≡ h.marked
  pub same_length : length h'.log.list ≡ length h.log.list
  pub next_moment : h'.moment ≡ h.moment + 1
  pub logged : k < length h.log.list
  pub others : (j : ℕ) → (j ≡ k → ⊥) → operation_of h' j ≡ operation_of h j
  pub unended : end_of (operation_of h k) ≡ 0
  pub now : end_of (operation_of h' k) ≡ h.moment + 1
  pub by : (operation_of h k).client ≡ c
  pub client : (operation_of h' k).client ≡ (operation_of h k).client
  pub writes : (operation_of h' k).writes ≡ (operation_of h k).writes
  pub began : (operation_of h' k).began ≡ (operation_of h k).began
  pub word : (operation_of h k).writes ≡ true → (operation_of h' k).pair.word ≡ (operation_of h k).pair.word
  pub over : (seat_of h' c).line.stage ≡ Over
  pub seat : (seat_of h' c).operation ≡ k

-- a begin that was answered by a slip
abbrev pub slips : {V : Type 0} → Answer V → Bool
slips done = false
slips (slip c k) = true
slips (pair p v) = false
slips (refused f) = false

-- a slip tells its client and its place
pub slip_same : {V : Type 0} {c d k j : ℕ} → ◌≡◌ {A = Answer V} (slip c k) (slip d j) → (c ≡ d) × (k ≡ j)
slip_same p = (cc, cc)

abbrev pub begins_slip : {V : Type 0} → Call V → Answer V → Bool
begins_slip (issue set) a = false
begins_slip (begin_read c) a = slips a
begins_slip (begin_write c v) a = slips a
begins_slip (deliver number party) a = false
begins_slip (call_off c k) a = false
begins_slip (collect c k) a = false
begins_slip (lodge c k) a = false
begins_slip (redeem c) a = false
begins_slip (meddle party e) a = false

pub data Event {V : Type 0} (kind : RecordKind V) (h h' : Hall) (call : Call V) (a : Answer V) : Type 0 where
  nothing : begins_slip call a ≡ false → SameLog h h' → Event kind h h' call a
  begins : (c : ℕ) (word : Option Word) → BeginCall kind call c word → a ≡ slip c (length h.log.list) → BegunLog h h' c word → Event kind h h' call a
  ends : (c k : ℕ) → 1 ≤ c → c ≤ h.rules.clients → begins_slip call a ≡ false → EndedLog h h' c k → Event kind h h' call a

-- a hall with the same log
kept_log : (h h' : Hall) → h'.rules ≡ h.rules → h'.marked ≡ h.marked → h'.log ≡ h.log → h'.moment ≡ h.moment → SameLog h h'
kept_log h h' rules marked log moment = record {
  rules_same = rules;
  marked_same = marked;
  same_length = ap (λ l. length l.list) log;
  same_moment = moment;
  client = λ k. ap (λ op. op.client) (at k);
  writes = λ k. ap (λ op. op.writes) (at k);
  began = λ k. ap (λ op. op.began) (at k);
  ended = λ k. ap (λ op. end_of op) (at k);
  word = λ k y. ap (λ op. op.pair.word) (at k);
  over = λ k o. ap (λ op. op.pair) (at k);
}
  where
    at : (k : ℕ) → operation_of h' k ≡ operation_of h k
    at k = ap (λ l. get_or l.list k no_operation) log

pub same_log : (h : Hall) → SameLog h h
same_log h = kept_log h h refl refl refl refl

module _ (kind : ℕ) (sealed : List Text) (w : World) (holds : Holds kind sealed w) (client : Client) (low : 1 ≤ client.number) (high : client.number ≤ w.hall.rules.clients)
    (line : Line) (seals : ℕ → ℕ) where
  abbrev seat : Seat
  seat = seat_of w.hall client.number

  -- the operation of the seat, before and after
  abbrev op : Operation
  op = operation_of w.hall (seat_of w.hall client.number).operation

  abbrev put_op : Operation
  put_op = logged op seat.line line (w.hall.moment + 1)

  -- the hall after the step, whatever stands in its post
  abbrev after : Table Entry → Hall
  after table = with_post (client_moves w.hall client.number seat line None seals) table

  -- what the step does to the log
  data LogTurn (h' : Hall) : Type 0 where
    stays : SameLog w.hall h' → LogTurn h'
    closes : EndedLog w.hall h' client.number seat.operation → LogTurn h'

  -- the operation gets no more than another pair, of the same word
  another_pair : (table : Table Entry) (p : Pair) → has_ended seat.line line ≡ false → put_op ≡ record op { pair = p } → p.word ≡ op.pair.word → (0 < end_of op → p ≡ op.pair)
      → SameLog w.hall (after table)
  another_pair table p going is word over = record {
    rules_same = refl;
    marked_same = refl;
    same_length = length-set w.hall.log.list _ _;
    same_moment = ap (λ b. cond b (w.hall.moment + 1) w.hall.moment) going;
    client = kept (λ o. o.client) (ap (λ o. o.client) is);
    writes = kept (λ o. o.writes) (ap (λ o. o.writes) is);
    began = kept (λ o. o.began) (ap (λ o. o.began) is);
    ended = kept (λ o. end_of o) (ap (λ o. end_of o) is);
    word = λ j y. kept (λ o. o.pair.word) (ap (λ o. o.pair.word) is ∙ word) j;
    over = λ j o. set_keeps (λ x. x.pair) w.hall.log.list seat.operation j put_op (λ e. ap (λ x. x.pair) is ∙ over (subst (λ m. 0 < end_of (operation_of w.hall m)) e o));
  }
    where
      kept : {X : Type 0} (f : Operation → X) → f put_op ≡ f op → (j : ℕ) → f (get_or (set w.hall.log.list seat.operation put_op) j no_operation) ≡ f (operation_of w.hall j)
      kept f same j = set_keeps f w.hall.log.list seat.operation j put_op (λ e. same)

  log_turn : (table : Table Entry) → LineChange op seat.line line → LogTurn (after table)
  log_turn table (unchanged going not_stamping) = stays (another_pair table op.pair going (rw (going, not_stamping)) refl (λ o. refl))
  log_turn table (stamps_now going stamping reading word) = stays (another_pair table line.highest going (rw (going, stamping)) word
      (λ o. absurd (omega (arith, o, ((holds.seats client.number low high).opens (ap is_open reading)).unended))))
  log_turn table (ends_now ended over busy word) = closes (record {
    rules_same = refl;
    marked_same = refl;
    same_length = length-set w.hall.log.list _ _;
    next_moment = ap (λ b. cond b (w.hall.moment + 1) w.hall.moment) ended;
    logged = own_op.logged;
    others = λ j ne. get_or-set_other w.hall.log.list seat.operation j _ no_operation ne;
    unended = (mine.opens busy).unended;
    now = ap (λ o. end_of o) put;
    by = own_op.client;
    client = ap (λ o. o.client) put;
    writes = ap (λ o. o.writes) put;
    began = ap (λ o. o.began) put;
    word = λ y. ap (λ o. o.pair.word) put ∙ word y;
    over = ap (λ s. s.line.stage) there ∙ over;
    seat = ap (λ s. s.operation) there;
  })
    where
      mine : SeatRule kind w client.number seat
      mine = holds.seats client.number low high

      own_op : OwnRule w client.number seat.line.word seat.operation
      own_op = mine.own (opens_busy _ busy)

      there : get_or (set w.hall.seats (client.number - 1) (record seat { line = line })) (client.number - 1) no_seat ≡ record seat { line = line }
      there = seat_same w.hall client.number _ holds.sized low high

      put : get_or (set w.hall.log.list seat.operation put_op) seat.operation no_operation ≡ record op { ended = Some (w.hall.moment + 1); pair = line.highest }
      put = get_or-set_same w.hall.log.list seat.operation _ no_operation own_op.logged ∙ rw ended

  -- whatever is posted
  log_turned : (post : Option Entry) → LineChange op seat.line line → LogTurn (client_moves w.hall client.number seat line post seals)
  log_turned post change = subst LogTurn (sym (posting_is _ post)) (log_turn (table_after w.hall.post post) change)

-- nothing that is refused begins
pub refused_begins_none : {V : Type 0} (call : Call V) (f : HallFault) → begins_slip call (refused f) ≡ false
refused_begins_none (issue set) f = refl
refused_begins_none (begin_read c) f = refl
refused_begins_none (begin_write c v) f = refl
refused_begins_none (deliver number party) f = refl
refused_begins_none (call_off c k) f = refl
refused_begins_none (collect c k) f = refl
refused_begins_none (lodge c k) f = refl
refused_begins_none (redeem c) f = refl
refused_begins_none (meddle party e) f = refl

module _ {V : Type 0} (kind : RecordKind V) (sealed : List Text) (w : World) (holds : Holds kind.number sealed w) (call : Call V) (a : Answer V) (h' : Hall) where
  -- another hall with this log
  same_event : {other : Call V} (h : Hall) → call ≡ other → begins_slip other a ≡ false → h ≡ h' → SameLog w.hall h → Event kind w.hall h' call a
  same_event h is none e same = nothing (ap (λ c. begins_slip c a) is ∙ none) (subst (λ z. SameLog w.hall z) e same)

  event_by : {given : Seal} {s : Option Text} → Effect kind w given call a h' s → Event kind w.hall h' call a
  event_by (stands f is e none) = same_event w.hall refl (ap (begins_slip call) is ∙ refused_begins_none call f) e (same_log w.hall)
  event_by (issues set is allowed p) = same_event _ is refl (hall_is p) (kept_log _ _ refl refl refl refl)
  event_by (starts client word is allowed p) = begins client.number word is (answer_is p)
      (subst (λ h. BegunLog w.hall h client.number word) (hall_is p)
      (record {
        rules_same = refl;
        marked_same = refl;
        longer = length-append w.hall.log.list _;
        next_moment = refl;
        old = λ k lt. before_end w.hall.log.list _ no_operation k lt;
        new = at_end w.hall.log.list _ no_operation;
      }))
  event_by (client_steps number client is seated room fits line post seals step answer e) =
      by_turn (log_turned kind.number sealed w holds client seated.low seated.high line seals post
      (line_change client (seat_of w.hall client.number) (holds.seats client.number seated.low seated.high)
      (turned w _ kind.number client (entry_of w.hall number) line post seals _ step)))
    where
      by_turn : LogTurn kind.number sealed w holds client seated.low seated.high line seals (client_moves w.hall client.number (seat_of w.hall client.number) line post seals) → Event kind w.hall h' call a
      by_turn (stays same) = same_event _ is refl e same
      by_turn (closes closed) = ends client.number (seat_of w.hall client.number).operation seated.low seated.high (ap (λ c. begins_slip c a) is)
          (subst (λ h. EndedLog w.hall h client.number (seat_of w.hall client.number).operation) e closed)
  event_by (replica_steps number party r is inside room fits place saves post step answer e none) = same_event _ is refl (sym (posting_is _ post) ∙ e) (kept_log _ _ refl refl refl refl)
  event_by (calls_off c k is its unended answer e none) = same_event _ is refl e (kept_log _ _ refl refl refl refl)
  event_by (collects_it c k u is its over answer e none) = same_event _ is refl e (kept_log _ _ refl refl refl refl)
  event_by (lodges c k is its answer e none) = same_event _ is refl e (kept_log _ _ refl refl refl refl)
  event_by (redeems c k is seated answer e none) = same_event _ is refl e (kept_log _ _ refl refl refl refl)
  event_by (meddles party x r is inside marked room answer e none) = same_event _ is refl e (kept_log _ _ refl refl refl refl)

-- what any call does to the log
pub event_of : {V : Type 0} (kind : RecordKind V) (sealed : List Text) (w w' : World) (call : Call V) (a : Answer V) → Holds kind.number sealed w → Step kind w call a w' → Event kind w.hall w'.hall call a
event_of kind sealed w w' call a holds step = event_by kind sealed w holds call a w'.hall (effect_of kind w step.given a w'.hall step.sealed call (sym step.outcome))
