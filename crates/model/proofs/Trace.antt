-- Where in a run each operation of the log began and ended.
-- By the events of the calls, along the positions of the run.
use Rattle.std.proofs.Common.{◌≡◌, ℕ, zero, suc, ◌+◌, ◌<◌, ◌≤◌, true, cond, not, ◌⊎◌, length, is_some, is_none, Some, None, Option, sym, refl, ap, ◌∙◌, subst, inl, inr, add-one, arith, eq-eqb, le-leb}
use Rattle.std.proofs.lemmas.Bool.{not-false}
use native.Mathlib.Decide.{ℕ_discrete, dec_lt}
use borrow.Author.Tests.{clash}
use Rattle.kinds.specs.declared.fault.KindFault.TheVariants.{NoValue}
use Rattle.kinds.specs.declared.word.Word.{Word}
use Rattle.wire.specs.declared.pair.Pair.{Pair}
use Rattle.clients.specs.declared.line.Stage.TheVariants.{Over}
use Rattle.halls.specs.declared.fault.HallFault.TheVariants.{Kind as OfKind}
use Rattle.kinds.specs.Kinds.{RecordKind}
use Rattle.model.specs.Halls.{Hall, World, seat_of, operation_of, has_its_tables, end_of}
use Rattle.model.specs.Answers.{slip, Outcome, refuses}
use Rattle.model.specs.Beginning.{new_operation, word_or_none}
use Rattle.model.specs.Delivering.{is_over}
use Rattle.model.specs.Order.{Operation, a_read, a_write, Ended, collects, value_answered}
use Rattle.model.specs.Runs.{Lawful, Opened, Run, Unforged}
use Rattle.model.specs.Slips.{collecting, is_its_slip}
use Rattle.model.proofs.Effects.{BeginCall, by_read, by_write, its_slip}
use Rattle.model.proofs.Events.{slip_same, Event, nothing, begins, ends, BegunLog, EndedLog, begins_slip, slips, event_of}
use Rattle.model.proofs.Growing.{Grows, grows_same, grows_trans, event_grows, along}
use Rattle.model.proofs.Invariants.{KnownPair, the_opening, a_write as of_a_write, Holds}
use Rattle.model.proofs.RunKeeps.{sealed_at, holds_at}
use Rattle.model.proofs.Ways.{way_in, not_some}
use Rattle.model.proofs.Tables.{ended_logged}
use Rattle.model.proofs.Stages.{in_stage}
use Rattle.model.proofs.StageTests.{over_is}

-- a begin is a call that is answered by a slip
pub slip_answered : {V : Type 0} {kind : RecordKind V} {start : World} (run : Run kind start) {o c k : ℕ} → Operation run o c k → run.answer o ≡ slip c k
slip_answered run (a_read lt call answer) = answer
slip_answered run (a_write lt u call answer) = answer

pub slips_there : {V : Type 0} {kind : RecordKind V} {start : World} (run : Run kind start) {o c k : ℕ} → Operation run o c k → begins_slip (run.call o) (run.answer o) ≡ true
slips_there run {o} (a_read lt call answer) = ap (λ x. begins_slip x (run.answer o)) call ∙ ap slips answer
slips_there run {o} (a_write lt u call answer) = ap (λ x. begins_slip x (run.answer o)) call ∙ ap slips answer

module _ {V : Type 0} (kind : RecordKind V) (v : V) (start : World) (lawful : Lawful kind) (opened : Opened kind v start.hall) (run : Run kind start) (unforged : Unforged run) where
  abbrev hall_at : ℕ → Hall
  hall_at i = (run.world i).hall

  holds : (i : ℕ) → i ≤ run.calls → Holds kind.number (sealed_at kind v start lawful opened run unforged i) (run.world i)
  holds i le = holds_at kind v start lawful opened run unforged i le

  pub event : (i : ℕ) → i < run.calls → Event kind (hall_at i) (hall_at (i + 1)) (run.call i) (run.answer i)
  event i lt = let le : i ≤ run.calls = omega arith in event_of kind _ (run.world i) (run.world (i + 1)) (run.call i) (run.answer i) (holds i le) (run.steps i lt)

  -- the log goes on from each position to each later one
  pub grows : (i j : ℕ) → i ≤ j → j ≤ run.calls → Grows (hall_at i) (hall_at j)
  grows = along (λ i j. Grows (hall_at i) (hall_at j)) run.calls (λ i. grows_same (hall_at i)) (λ i j g lt. grows_trans g (event_grows (event j lt)))

  -- what the call at position o began: the operation at place k, of client c, with this word
  pub record StartOf (o c k : ℕ) (word : Option Word) : Type 0 where
    pub within : o < run.calls
    pub call : BeginCall kind (run.call o) c word
    pub answer : run.answer o ≡ slip c k
    pub place : k ≡ length (hall_at o).log.list
    pub log : BegunLog (hall_at o) (hall_at (o + 1)) c word

  pub record Started (o c k : ℕ) : Type 0 where
    pub word : Option Word
    pub start_of : StartOf o c k word

  -- an operation of the run is one that its position began
  pub started : (o c k : ℕ) → Operation run o c k → Started o c k
  started o c k op = by_event op (event o (within op))
    where
      within : Operation run o c k → o < run.calls
      within (a_read lt call answer) = lt
      within (a_write lt u call answer) = lt

      by_event : Operation run o c k → Event kind (hall_at o) (hall_at (o + 1)) (run.call o) (run.answer o) → Started o c k
      by_event op (nothing none s) = absurd (clash (sym none ∙ slips_there run op))
      by_event op (ends d j low high none e) = absurd (clash (sym none ∙ slips_there run op))
      by_event op (begins d word call answer b) =
          let same = slip_same (sym answer ∙ slip_answered run op) in
          record {
            word = word;
            start_of = record {
              within = within op;
              call = subst (λ m. BeginCall kind (run.call o) m word) same.0 call;
              answer = slip_answered run op;
              place = sym same.1;
              log = subst (λ m. BegunLog (hall_at o) (hall_at (o + 1)) m word) same.0 b;
            };
          }

  -- and the other way round
  pub operation_started : (o c k : ℕ) (word : Option Word) → StartOf o c k word → Operation run o c k
  operation_started o c k word s = by_call s.call
    where
      by_call : BeginCall kind (run.call o) c word → Operation run o c k
      by_call (by_read call none) = a_read s.within call s.answer
      by_call (by_write u call some) = a_write s.within u call s.answer

  -- what the log says of it later on
  pub record Told (i o c k : ℕ) (word : Option Word) : Type 0 where
    pub logged : k < length (hall_at i).log.list
    pub client : (operation_of (hall_at i) k).client ≡ c
    pub writes : (operation_of (hall_at i) k).writes ≡ is_some word
    pub began : (operation_of (hall_at i) k).began ≡ (hall_at o).moment + 1
    pub word_is : (x : Word) → word ≡ Some x → (operation_of (hall_at i) k).pair.word ≡ x

  pub told : (i o c k : ℕ) (word : Option Word) → StartOf o c k word → o < i → i ≤ run.calls → Told i o c k word
  told i o c k word s lt le = record {
    logged = omega (arith, g.longer, s.log.longer, s.place);
    client = g.client k new ∙ ap (λ z. z.client) new_op;
    writes = g.writes k new ∙ ap (λ z. z.writes) new_op;
    began = g.began k new ∙ ap (λ z. z.began) new_op;
    word_is = λ x e. g.word k new (ap (λ z. z.writes) new_op ∙ ap (λ z. is_some z) e) ∙ ap (λ z. z.pair.word) new_op ∙ ap word_or_none e;
  }
    where
      g : Grows (hall_at (o + 1)) (hall_at i)
      g = grows (o + 1) i (omega arith) le

      new : k < length (hall_at (o + 1)).log.list
      new = omega (arith, s.log.longer, s.place)

      new_op : operation_of (hall_at (o + 1)) k ≡ new_operation c word ((hall_at o).moment + 1)
      new_op = subst (λ m. operation_of (hall_at (o + 1)) m ≡ new_operation c word ((hall_at o).moment + 1)) (sym s.place) s.log.new

  -- every operation of the log was begun somewhere
  pub record FoundStart (i k : ℕ) : Type 0 where
    pub position : ℕ
    pub client : ℕ
    pub word : Option Word
    pub earlier : position < i
    pub start_of : StartOf position client k word

  pub found_start : (i : ℕ) → i ≤ run.calls → (k : ℕ) → k < length (hall_at i).log.list → FoundStart i k
  found_start zero le k lt = absurd (omega (arith, lt, ap (λ w. length w.hall.log.list) run.opens, ap length opened.log))
  found_start (suc i) le k lt = by_event (λ old. found_start i (omega arith) k old) (event i (omega arith))
    where
      later : FoundStart i k → FoundStart (suc i) k
      later f = record { position = f.position; client = f.client; word = f.word; earlier = omega (arith, f.earlier); start_of = f.start_of }

      now : k < length (hall_at (i + 1)).log.list
      now = subst (λ m. k < length (hall_at m).log.list) (sym (add-one i)) lt

      by_event : (k < length (hall_at i).log.list → FoundStart i k) → Event kind (hall_at i) (hall_at (i + 1)) (run.call i) (run.answer i) → FoundStart (suc i) k
      by_event before (nothing none s) = later (before (omega (arith, now, s.same_length)))
      by_event before (ends d j low high none e) = later (before (omega (arith, now, e.same_length)))
      by_event before (begins d word call answer b) = by_place (dec_lt k (length (hall_at i).log.list))
        where
          by_place : Dec (k < length (hall_at i).log.list) → FoundStart (suc i) k
          by_place (yes old) = later (before old)
          by_place (no new) = record {
            position = i;
            client = d;
            word = word;
            earlier = omega arith;
            start_of = record {
              within = omega arith;
              call = call;
              answer = answer ∙ ap (λ m. slip d m) (sym here);
              place = here;
              log = b;
            };
          }
            where
              here : k ≡ length (hall_at i).log.list
              here = omega (arith, new, now, b.longer)

  -- with the call at position i the operation at place k ends
  pub record EndsHere (i k : ℕ) : Type 0 where
    pub client : ℕ
    pub low : 1 ≤ client
    pub high : client ≤ (hall_at i).rules.clients
    pub log : EndedLog (hall_at i) (hall_at (i + 1)) client k

  -- where it ended
  pub record FoundEnd (i k : ℕ) : Type 0 where
    pub position : ℕ
    pub earlier : position < i
    pub here_ends : EndsHere position k

  -- with the call at i the operation at place k ends, or it had ended before
  pub ended_now : (i k : ℕ) → i < run.calls → 0 < end_of (operation_of (hall_at (i + 1)) k) → (0 < end_of (operation_of (hall_at i) k)) ⊎ EndsHere i k
  ended_now i k lt o = by_event (event i lt)
    where
      by_event : Event kind (hall_at i) (hall_at (i + 1)) (run.call i) (run.answer i) → (0 < end_of (operation_of (hall_at i) k)) ⊎ EndsHere i k
      by_event (nothing none s) = inl (omega (arith, o, s.ended k))
      by_event (begins d word call answer b) = by_place (dec_lt k (length (hall_at i).log.list))
        where
          by_place : Dec (k < length (hall_at i).log.list) → (0 < end_of (operation_of (hall_at i) k)) ⊎ EndsHere i k
          by_place (yes old) = inl (omega (arith, o, ap (λ z. end_of z) (b.old k old)))
          by_place (no new) = absurd (omega (arith, o, ap (λ z. end_of z) (subst (λ m. operation_of (hall_at (i + 1)) m ≡ new_operation d word ((hall_at i).moment + 1)) here b.new)))
            where
              here : length (hall_at i).log.list ≡ k
              here = let l = ended_logged (hall_at (i + 1)) k o in omega (arith, new, b.longer)
      by_event (ends d j low high none e) = by_place (ℕ_discrete k j)
        where
          by_place : Dec (k ≡ j) → (0 < end_of (operation_of (hall_at i) k)) ⊎ EndsHere i k
          by_place (yes same) = inr (record { client = d; low = low; high = high; log = subst (λ m. EndedLog (hall_at i) (hall_at (i + 1)) d m) (sym same) e })
          by_place (no other) = inl (omega (arith, o, ap (λ z. end_of z) (e.others k other)))

  pub found_end : (i : ℕ) → i ≤ run.calls → (k : ℕ) → 0 < end_of (operation_of (hall_at i) k) → FoundEnd i k
  found_end zero le k o = absurd (omega (arith, ended_logged (hall_at 0) k o, ap (λ w. length w.hall.log.list) run.opens, ap length opened.log))
  found_end (suc i) le k o = by_case (λ before. found_end i (omega arith) k before) (ended_now i k (omega arith) (subst (λ m. 0 < end_of (operation_of (hall_at m) k)) (sym (add-one i)) o))
    where
      by_case : (0 < end_of (operation_of (hall_at i) k) → FoundEnd i k) → (0 < end_of (operation_of (hall_at i) k)) ⊎ EndsHere i k → FoundEnd (suc i) k
      by_case before (inl old) = let f = before old in record { position = f.position; earlier = omega (arith, f.earlier); here_ends = f.here_ends }
      by_case before (inr f) = record { position = i; earlier = omega arith; here_ends = f }

  -- every word that the log knows is a value's
  pub record Valued (word : Word) : Type 0 where
    pub value : V
    pub is : kind.value word ≡ Some value

  valued_word : (u : V) (word : Word) → word ≡ kind.word u → Valued word
  valued_word u word e = record { value = u; is = ap kind.value e ∙ lawful.kept u }

  -- the opening value stays the opening value
  pub opening_stays : (i : ℕ) → i ≤ run.calls → (hall_at i).rules ≡ start.hall.rules
  opening_stays i le = (grows 0 i (omega arith) le).rules ∙ ap (λ w. w.hall.rules) run.opens

  -- the pair of an operation that has ended, or of a stamped write, is a value's
  pub known_valued : (i : ℕ) (le : i ≤ run.calls) (p : Pair) → KnownPair (hall_at i) p → Valued p.word
  known_valued i le p (the_opening count writer word) = valued_word v p.word (word ∙ ap (λ r. r.opening) (opening_stays i le) ∙ opened.opening)
  known_valued i le p (of_a_write k s stamp word) = by_word f.word refl f.start_of.call
    where
      f : FoundStart i k
      f = found_start i le k s.logged

      t : Told i f.position f.client k f.word
      t = told i f.position f.client k f.word f.start_of f.earlier le

      by_word : (o : Option Word) → f.word ≡ o → BeginCall kind (run.call f.position) f.client f.word → Valued p.word
      by_word o is (by_read call none) = absurd (clash (sym (t.writes ∙ ap (λ z. is_some z) none) ∙ s.writes))
      by_word o is (by_write u call some) = valued_word u p.word (sym word ∙ t.word_is (kind.word u) some)

  -- what collect answers by this value, once its other tests have passed
  abbrev given_value : Option V → Hall → ℕ → Outcome V
  given_value o h c = cond (is_none o) (refuses h (OfKind NoValue)) (collecting o h c (seat_of h c).line.highest)

  -- what collect would answer, from the seat
  pub collects_over : (i c k : ℕ) → i ≤ run.calls → 1 ≤ c → c ≤ (hall_at i).rules.clients → (seat_of (hall_at i) c).line.stage ≡ Over → (seat_of (hall_at i) c).operation ≡ k
      → collects kind (run.world i) c k ≡ kind.value (operation_of (hall_at i) k).pair.word
  collects_over i c k le low high over its =
      rw ((holds i le).sized.tables, le-leb 1 c low, le-leb c (hall_at i).rules.clients high, over, eq-eqb (seat_of (hall_at i) c).operation k its)
      (collected_value (kind.value (seat_of (hall_at i) c).line.highest.word)
      ∙ ap (λ p. kind.value p.word) (sym (in_stage ((holds i le).seats c low high) over).with_pair) ∙ ap (λ m. kind.value (operation_of (hall_at i) m).pair.word) its)
    where
      collected_value : (o : Option V) → value_answered (given_value o (hall_at i) c).answer ≡ o
      collected_value None = refl
      collected_value (Some u) = refl

  -- what it is for collect to answer a value
  pub record Collected (i c k : ℕ) (u : V) : Type 0 where
    pub low : 1 ≤ c
    pub high : c ≤ (hall_at i).rules.clients
    pub over : 0 < end_of (operation_of (hall_at i) k)
    pub value : kind.value (operation_of (hall_at i) k).pair.word ≡ Some u

  pub collected : (i c k : ℕ) (u : V) → i ≤ run.calls → collects kind (run.world i) c k ≡ Some u → Collected i c k u
  collected i c k u le p =
      way_in (λ (o : Outcome V). value_answered o.answer) (not (has_its_tables (hall_at i))) p
      (λ t q. not_some q)
      (λ t q. way_in (λ (o : Outcome V). value_answered o.answer) (not (is_its_slip (hall_at i) c k)) q
      (λ n s. not_some s)
      (λ its s. way_in (λ (o : Outcome V). value_answered o.answer) (not (is_over (seat_of (hall_at i) c).line.stage)) s
      (λ n z. not_some z)
      (λ over z. by_value (not-false _ its) (not-false _ over) (kind.value (seat_of (hall_at i) c).line.highest.word) refl z)))
    where
      by_value : is_its_slip (hall_at i) c k ≡ true → is_over (seat_of (hall_at i) c).line.stage ≡ true → (o : Option V) → kind.value (seat_of (hall_at i) c).line.highest.word ≡ o
          → value_answered (given_value o (hall_at i) c).answer ≡ Some u → Collected i c k u
      by_value its over None is z = not_some z
      by_value its over (Some x) is z =
          let slip_is = its_slip (run.world i) c k its in
          let mine = in_stage ((holds i le).seats c slip_is.seated.low slip_is.seated.high) (over_is _ over) in
          record {
            low = slip_is.seated.low;
            high = slip_is.seated.high;
            over = subst (λ m. 0 < end_of (operation_of (hall_at i) m)) slip_is.operation mine.ended;
            value = ap (λ m. kind.value (operation_of (hall_at i) m).pair.word) (sym slip_is.operation) ∙ ap (λ p. kind.value p.word) mine.with_pair ∙ is ∙ z;
          }

  -- collect answers nothing as long as the operation has not ended
  pub collects_none : (i c k : ℕ) → i ≤ run.calls → end_of (operation_of (hall_at i) k) ≡ 0 → collects kind (run.world i) c k ≡ None
  collects_none i c k le unended = by_answer (collects kind (run.world i) c k) refl
    where
      by_answer : (o : Option V) → collects kind (run.world i) c k ≡ o → o ≡ None
      by_answer None is = refl
      by_answer (Some u) is = absurd (omega (arith, (collected i c k u le is).over, unended))

  -- the operation ended with the call at p, and this is the moment
  pub record EndAt (p c k : ℕ) (u : V) : Type 0 where
    pub within : p < run.calls
    pub low : 1 ≤ c
    pub high : c ≤ (hall_at p).rules.clients
    pub log : EndedLog (hall_at p) (hall_at (p + 1)) c k
    pub value : kind.value (operation_of (hall_at (p + 1)) k).pair.word ≡ Some u

  -- an end that the log tells is one that collect would answer first
  pub ended_told : (o c k p : ℕ) (u : V) → Operation run o c k → EndAt p c k u → Ended run o p u
  ended_told o c k p u op e = record {
    client = c;
    place = k;
    operation = op;
    within = e.within;
    answers = collects_over (p + 1) c k (omega (arith, e.within)) e.low (subst (λ r. c ≤ r.clients) (sym e.log.rules_same) e.high) e.log.over e.log.seat ∙ e.value;
    first = λ q lt. collects_none (q + 1) c k (omega (arith, e.within)) (unended q lt (end_of (operation_of (hall_at (q + 1)) k)) refl);
  }
    where
      unended : (q : ℕ) → q < p → (n : ℕ) → end_of (operation_of (hall_at (q + 1)) k) ≡ n → end_of (operation_of (hall_at (q + 1)) k) ≡ 0
      unended q lt zero is = is
      unended q lt (suc n) is =
          let some : 0 < end_of (operation_of (hall_at (q + 1)) k) = omega arith in
          absurd (omega (arith, some, (grows (q + 1) p (omega arith) (omega (arith, e.within))).ended k some, e.log.unended))

  -- the client of an operation that ends is the one that began it
  pub end_client : (i o c k : ℕ) → i < run.calls → Operation run o c k → (f : EndsHere i k) → f.client ≡ c
  end_client i o c k lt op f = sym f.log.by ∙ (told i o c k s.word s.start_of begun (omega arith)).client
    where
      s : Started o c k
      s = started o c k op

      begun : o < i
      begun = by_order (dec_lt o i)
        where
          by_order : Dec (o < i) → o < i
          by_order (yes before) = before
          by_order (no after) = absurd (omega (arith, f.log.logged, (grows i o (omega arith) (omega (arith, s.start_of.within))).longer, s.start_of.place))

  -- what has ended is a value's
  pub ended_valued : (i k : ℕ) → i ≤ run.calls → 0 < end_of (operation_of (hall_at i) k) → Valued (operation_of (hall_at i) k).pair.word
  ended_valued i k le o = known_valued i le _ (((holds i le).log.each k (ended_logged (hall_at i) k o)).known o)

  -- and the other way round
  pub ended_at : (o p : ℕ) (u : V) (e : Ended run o p u) → EndAt p e.client e.place u
  ended_at o p u e = by_case (ended_now p e.place e.within c.over)
    where
      le : p + 1 ≤ run.calls
      le = omega (arith, e.within)

      c : Collected (p + 1) e.client e.place u
      c = collected (p + 1) e.client e.place u le e.answers

      too_early : FoundEnd p e.place → ⊥
      too_early f = not_some (sym (e.first f.position f.earlier) ∙ collects_over (f.position + 1) e.client e.place (omega (arith, f.earlier, e.within))
          c.low (subst (λ r. e.client ≤ r.clients) (grows (f.position + 1) (p + 1) (omega (arith, f.earlier)) le).rules c.high) over its ∙ valued.is)
        where
          here_ends : EndsHere f.position e.place
          here_ends = f.here_ends

          same : here_ends.client ≡ e.client
          same = end_client f.position o e.client e.place (omega (arith, f.earlier, e.within)) e.operation here_ends

          over : (seat_of (hall_at (f.position + 1)) e.client).line.stage ≡ Over
          over = subst (λ m. (seat_of (hall_at (f.position + 1)) m).line.stage ≡ Over) same here_ends.log.over

          its : (seat_of (hall_at (f.position + 1)) e.client).operation ≡ e.place
          its = subst (λ m. (seat_of (hall_at (f.position + 1)) m).operation ≡ e.place) same here_ends.log.seat

          valued : Valued (operation_of (hall_at (f.position + 1)) e.place).pair.word
          valued = ended_valued (f.position + 1) e.place (omega (arith, f.earlier, e.within)) (omega (arith, here_ends.log.now))

      by_case : (0 < end_of (operation_of (hall_at p) e.place)) ⊎ EndsHere p e.place → EndAt p e.client e.place u
      by_case (inl before) = absurd (too_early (found_end p (omega (arith, e.within)) e.place before))
      by_case (inr f) = record {
        within = e.within;
        low = c.low;
        high = subst (λ r. e.client ≤ r.clients) f.log.rules_same c.high;
        log = subst (λ m. EndedLog (hall_at p) (hall_at (p + 1)) m e.place) (end_client p o e.client e.place e.within e.operation f) f.log;
        value = c.value;
      }

  -- what has ended with the call at p, seen in a later world
  pub record EndSeen (i p k : ℕ) (u : V) : Type 0 where
    pub over : 0 < end_of (operation_of (hall_at i) k)
    pub moment : end_of (operation_of (hall_at i) k) ≡ (hall_at (p + 1)).moment
    pub next_moment : (hall_at (p + 1)).moment ≡ (hall_at p).moment + 1
    pub value : kind.value (operation_of (hall_at i) k).pair.word ≡ Some u

  pub end_seen : (i o p : ℕ) (u : V) (e : Ended run o p u) → p < i → i ≤ run.calls → EndSeen i p e.place u
  end_seen i o p u e lt le = record {
    over = omega (arith, then_over, g.ended e.place then_over);
    moment = g.ended e.place then_over ∙ at.log.now ∙ sym at.log.next_moment;
    next_moment = at.log.next_moment;
    value = ap (λ q. kind.value q.word) (g.pair e.place then_over) ∙ at.value;
  }
    where
      at : EndAt p e.client e.place u
      at = ended_at o p u e

      then_over : 0 < end_of (operation_of (hall_at (p + 1)) e.place)
      then_over = omega (arith, at.log.now)

      g : Grows (hall_at (p + 1)) (hall_at i)
      g = grows (p + 1) i (omega arith) le
