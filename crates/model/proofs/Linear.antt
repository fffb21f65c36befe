-- One order for the operations of a run: the order of stamps in the final log, told by positions.
-- The log's rules give the timestamps that the ordering theorem asks for.
use Rattle.std.proofs.Common.{◌≡◌, ℕ, zero, suc, ◌+◌, ◌*◌, ◌<◌, ◌≤◌, Bool, true, false, cond, ◌&&◌, ◌||◌, eqb, ltb, ◌⊎◌, List, [], ◌∷◌, ◌++◌, map, length, is_some, Some, None, Option, sym, refl, ap, ◌∙◌, subst, inl, inr, arith, ltb-true, lt-ltb, eq-eqb, ne_eqb}
use Rattle.std.proofs.lemmas.Bool.{and_parts}
use mathlib.Core.List.Memᴰ.{head as here}
use mathlib.Core.List.Memᴰ.{tail as there}
use native.Mathlib.Decide.{ℕ_discrete}
use borrow.Author.Tests.{clash}
use Rattle.kinds.specs.declared.word.Word.{Word}
use Rattle.orders.specs.Order.{◌∈◌, Operations, Precedes, last_written, Stamped, Order, Origin}
use Rattle.orders.specs.Order.Origin.{the_opening as from_opening, a_write as from_write}
use Rattle.orders.proofs.Theorem.{stamped_operations_have_an_order}
use Rattle.kinds.specs.Kinds.{RecordKind}
use Rattle.model.specs.Halls.{Hall, World, operation_of, end_of}
use Rattle.model.specs.Order.{Operation, Ended, Gives, OneValue, Finished, Writes, value_written, newer, held_after, InOrder, Linearizable}
use Rattle.model.specs.Runs.{Lawful, Opened, Run, Unforged}
use Rattle.model.proofs.Effects.{BeginCall, by_read, by_write}
use Rattle.model.proofs.Events.{EndedLog, begins_slip}
use Rattle.model.proofs.Images.{split_from, map_member, comes_from, below, IsBelow, below_only, below_all, below_distinct, split_at, split_before}
use Rattle.model.proofs.Growing.{Grows}
use Rattle.model.proofs.Invariants.{stamp_number, StampedWrite, KnownPair, the_opening, a_write as of_a_write, OverBefore, Holds}
use Rattle.model.proofs.RunKeeps.{sealed_at, holds_at}
use Rattle.model.proofs.Tables.{ended_logged}
use Rattle.model.proofs.Trace.{slips_there, grows, StartOf, started, operation_started, Told, told, found_start, found_end, opening_stays, end_client, ended_valued, ended_told, end_seen, collected}
use Rattle.wire.specs.declared.text.Text.{Text}
use Rattle.model.proofs.Ways.{some_same, not_some}

-- whether the operation stands in the order: it has ended, or it is a write that has taken its stamp
abbrev pub standing : Hall → ℕ → Bool
standing h k = ltb 0 (end_of (operation_of h k)) || ((operation_of h k).writes && ltb 0 (operation_of h k).pair.stamp.count)

-- the operations of a log, as the ordering theorem takes them
abbrev pub operations : Hall → Operations
operations h = record {
  writes = λ k. (operation_of h k).writes;
  value = λ k. (operation_of h k).pair.word.0;
  stamp = λ k. stamp_number (operation_of h k).pair;
  began = λ k. (operation_of h k).began;
  ended = λ k. end_of (operation_of h k);
}

pub data Stands (h : Hall) (k : ℕ) : Type 0 where
  as_ended : 0 < end_of (operation_of h k) → Stands h k
  as_write : StampedWrite h k → Stands h k

stands : (h : Hall) (k : ℕ) → k < length h.log.list → standing h k ≡ true → Stands h k
stands h k lt t = by_test (ltb 0 (end_of (operation_of h k))) refl t
  where
    by_test : (b : Bool) → ltb 0 (end_of (operation_of h k)) ≡ b → (b || ((operation_of h k).writes && ltb 0 (operation_of h k).pair.stamp.count)) ≡ true → Stands h k
    by_test true is u = as_ended (ltb-true 0 _ is)
    by_test false is u = let p = and_parts (operation_of h k).writes (ltb 0 (operation_of h k).pair.stamp.count) u in as_write (record { logged = lt; writes = p.0; stamped = ltb-true 0 _ p.1 })

ended_stands : (h : Hall) (k : ℕ) → 0 < end_of (operation_of h k) → standing h k ≡ true
ended_stands h k o = rw (lt-ltb 0 (end_of (operation_of h k)) o)

write_stands : (h : Hall) (k : ℕ) → StampedWrite h k → standing h k ≡ true
write_stands h k s = rw (s.writes, lt-ltb 0 (operation_of h k).pair.stamp.count s.stamped) (or_true (ltb 0 (end_of (operation_of h k))))
  where
    or_true : (b : Bool) → (b || true) ≡ true
    or_true true = refl
    or_true false = refl

-- the log's rules are what the ordering theorem asks for
pub log_stamped : (kind : ℕ) (sealed : List Text) (w : World) → Holds kind sealed w
    → Stamped (operations w.hall) w.hall.rules.opening.0 (below (standing w.hall) (length w.hall.log.list))
log_stamped kind sealed w holds = record {
  once = below_distinct (standing h) (length h.log.list);
  above_opening = λ i m y. let s = stamped i m y in omega (arith, s.stamped);
  own_stamp = λ i j mi mj yi yj e. holds.log.own_stamp i j (stamped i mi yi) (stamped j mj yj) e;
  never_falls = λ i j mi mj p. falls_not i j mj (over i j p) (operation_of h j).writes refl;
  rises_at_writes = λ i j mi mj p y. holds.log.rises i j (over i j p) (stamped j mj y);
  begins_first = λ i m o. (holds.log.each i (in_log i m)).ended_after o;
  origin = λ i m reads. origin i ((holds.log.each i (in_log i m)).known (read_ended i m reads));
}
  where
    h : Hall
    h = w.hall

    in_log : (k : ℕ) → k ∈ below (standing w.hall) (length w.hall.log.list) → k < length w.hall.log.list
    in_log k m = (below_only (standing w.hall) (length w.hall.log.list) k m).lower

    how : (k : ℕ) → k ∈ below (standing w.hall) (length w.hall.log.list) → Stands w.hall k
    how k m = stands w.hall k (in_log k m) (below_only (standing w.hall) (length w.hall.log.list) k m).passes

    over : (i j : ℕ) → Precedes (operations w.hall) i j → OverBefore w.hall i j
    over i j p = record { logged = ended_logged w.hall i p.0; over = p.0; before = p.1 }

    stamped : (k : ℕ) → k ∈ below (standing w.hall) (length w.hall.log.list) → (operation_of w.hall k).writes ≡ true → StampedWrite w.hall k
    stamped k m y = by_how (how k m)
      where
        by_how : Stands w.hall k → StampedWrite w.hall k
        by_how (as_ended o) = record { logged = in_log k m; writes = y; stamped = (holds.log.each k (in_log k m)).stamped y o }
        by_how (as_write s) = s

    read_ended : (k : ℕ) → k ∈ below (standing w.hall) (length w.hall.log.list) → (operation_of w.hall k).writes ≡ false → 0 < end_of (operation_of w.hall k)
    read_ended k m reads = by_how (how k m)
      where
        by_how : Stands w.hall k → 0 < end_of (operation_of w.hall k)
        by_how (as_ended o) = o
        by_how (as_write s) = absurd (clash (sym reads ∙ s.writes))

    falls_not : (i j : ℕ) → j ∈ below (standing w.hall) (length w.hall.log.list) → OverBefore w.hall i j → (b : Bool) → (operation_of w.hall j).writes ≡ b
        → stamp_number (operation_of w.hall i).pair ≤ stamp_number (operation_of w.hall j).pair
    falls_not i j mj o true y = omega (arith, holds.log.rises i j o (stamped j mj y))
    falls_not i j mj o false r = holds.log.falls_not i j o (in_log j mj) r (read_ended j mj r)

    origin : (i : ℕ) → KnownPair w.hall (operation_of w.hall i).pair → Origin (operations w.hall) w.hall.rules.opening.0 (below (standing w.hall) (length w.hall.log.list)) i
    origin i (the_opening count writer word) = from_opening (omega (arith, count, writer)) (ap (λ x. x.0) word)
    origin i (of_a_write k s stamp word) =
        from_write k (below_all (standing w.hall) (length w.hall.log.list) k s.logged (write_stands w.hall k s)) s.writes
        (ap (λ t. t.count * 256 + t.writer) stamp) (ap (λ x. x.0) word)

module _ {V : Type 0} (kind : RecordKind V) (v : V) (start : World) (lawful : Lawful kind) (opened : Opened kind v start.hall) (run : Run kind start) (unforged : Unforged run) where
  -- the hall after the last call
  last : Hall
  last = (run.world run.calls).hall

  last_holds : Holds kind.number (sealed_at kind v start lawful opened run unforged run.calls) (run.world run.calls)
  last_holds = holds_at kind v start lawful opened run unforged run.calls (omega arith)

  -- the position before n at which the operation at place k began
  position : ℕ → ℕ → ℕ
  position zero k = 0
  position (suc i) k = cond (eqb (length (run.world i).hall.log.list) k && begins_slip (run.call i) (run.answer i)) i (position i k)

  -- it is where that operation was started
  position_is : (n o c k : ℕ) (word : Option Word) → n ≤ run.calls → o < n → StartOf kind v start lawful opened run unforged o c k word → position n k ≡ o
  unfolding position
  position_is zero o c k word le lt s = absurd (omega arith)
  position_is (suc i) o c k word le lt s = by_place (λ less. position_is i o c k word (omega arith) less s) (ℕ_discrete o i)
    where
      at_o : (eqb (length (run.world o).hall.log.list) k && begins_slip (run.call o) (run.answer o)) ≡ true
      at_o = rw (eq-eqb (length (run.world o).hall.log.list) k (sym s.place), slips_there run (operation_started kind v start lawful opened run unforged o c k word s))

      by_place : (o < i → position i k ≡ o) → Dec (o ≡ i) → cond (eqb (length (run.world i).hall.log.list) k && begins_slip (run.call i) (run.answer i)) i (position i k) ≡ o
      by_place go (yes e) = ap (λ b. cond b i (position i k)) (subst (λ m. (eqb (length (run.world m).hall.log.list) k && begins_slip (run.call m) (run.answer m)) ≡ true) e at_o) ∙ sym e
      by_place go (no ne) = ap (λ b. cond (b && begins_slip (run.call i) (run.answer i)) i (position i k)) (ne_eqb (length (run.world i).hall.log.list) k longer) ∙ go (omega arith)
        where
          longer : length (run.world i).hall.log.list ≡ k → ⊥
          longer e = omega (arith, e, (grows kind v start lawful opened run unforged (o + 1) i (omega arith) (omega arith)).longer, s.log.longer, s.place)

  where_begun : ℕ → ℕ
  where_begun k = position run.calls k

  -- what is known of the operation at place k of the last log
  record KnownStart (k : ℕ) : Type 0 where
    client : ℕ
    word : Option Word
    start_of : StartOf kind v start lawful opened run unforged (where_begun k) client k word
    told_so : Told kind v start lawful opened run unforged run.calls (where_begun k) client k word

  known_start : (k : ℕ) → k < length last.log.list → KnownStart k
  unfolding where_begun last
  known_start k lt =
      let f = found_start kind v start lawful opened run unforged run.calls (omega arith) k lt in
      let at = position_is run.calls f.position f.client k f.word (omega arith) f.earlier f.start_of in
      record {
        client = f.client;
        word = f.word;
        start_of = subst (λ o. StartOf kind v start lawful opened run unforged o f.client k f.word) (sym at) f.start_of;
        told_so = subst (λ o. Told kind v start lawful opened run unforged run.calls o f.client k f.word) (sym at)
            (told kind v start lawful opened run unforged run.calls f.position f.client k f.word f.start_of f.earlier (omega arith));
      }

  operation_at : (k : ℕ) (s : KnownStart k) → Operation run (where_begun k) s.client k
  operation_at k s = operation_started kind v start lawful opened run unforged (where_begun k) s.client k s.word s.start_of

  -- an operation of the run stands at its place in the last log
  place_in : (o c k : ℕ) → Operation run o c k → (k < length last.log.list) × (where_begun k ≡ o)
  unfolding where_begun last
  place_in o c k op =
      let s = started kind v start lawful opened run unforged o c k op in (
        (told kind v start lawful opened run unforged run.calls o c k s.word s.start_of s.start_of.within (omega arith)).logged,
        position_is run.calls o c k s.word (omega arith) s.start_of.within s.start_of,
      )

  -- what ended in the run is ended in the last log, at the moment of its position
  record LastEnd (o p : ℕ) (u : V) (k : ℕ) : Type 0 where
    begun : where_begun k ≡ o
    logged : k < length last.log.list
    over : 0 < end_of (operation_of last k)
    moment : end_of (operation_of last k) ≡ (run.world (p + 1)).hall.moment
    value : kind.value (operation_of last k).pair.word ≡ Some u

  last_end : (o p : ℕ) (u : V) (e : Ended run o p u) → LastEnd o p u e.place
  unfolding last
  last_end o p u e =
      let there = place_in o e.client e.place e.operation in
      let t = end_seen kind v start lawful opened run unforged run.calls o p u e e.within (omega arith) in
      record { begun = there.1; logged = there.0; over = t.over; moment = t.moment; value = t.value }

  -- what collect would answer at some position, seen in the last log
  record LastGiven (o : ℕ) (u : V) (k : ℕ) : Type 0 where
    begun : where_begun k ≡ o
    logged : k < length last.log.list
    value : kind.value (operation_of last k).pair.word ≡ Some u

  last_given : (o i : ℕ) (u : V) (g : Gives run o i u) → LastGiven o u g.place
  unfolding last
  last_given o i u g =
      let there = place_in o g.client g.place g.operation in
      let c = collected kind v start lawful opened run unforged i g.client g.place u g.within g.answers in
      let later = grows kind v start lawful opened run unforged i run.calls g.within (omega arith) in
      record { begun = there.1; logged = there.0; value = ap (λ q. kind.value q.word) (later.pair g.place c.over) ∙ c.value }

  -- what is ended in the last log has ended in the run
  finished : (k : ℕ) → k < length last.log.list → 0 < end_of (operation_of last k) → Finished run (where_begun k)
  unfolding last
  finished k lt o =
      let s = known_start k lt in
      let f = found_end kind v start lawful opened run unforged run.calls (omega arith) k o in
      let within : f.position < run.calls = f.earlier in
      let EndsThere = f.here_ends in
      let same = end_client kind v start lawful opened run unforged f.position (where_begun k) s.client k within (operation_at k s) EndsThere in
      let valued = ended_valued kind v start lawful opened run unforged (f.position + 1) k (omega arith) (omega (arith, EndsThere.log.now)) in
      record {
        position = f.position;
        value = valued.value;
        ended = ended_told kind v start lawful opened run unforged (where_begun k) s.client k f.position valued.value (operation_at k s)
            (record {
              within = within;
              low = subst (λ m. 1 ≤ m) same EndsThere.low;
              high = subst (λ m. m ≤ (run.world f.position).hall.rules.clients) same EndsThere.high;
              log = subst (λ m. EndedLog (run.world f.position).hall (run.world (f.position + 1)).hall m k) same EndsThere.log;
              value = valued.is;
            });
      }

  -- what the call of an operation writes, as the log has it
  written_at : (k : ℕ) (lt : k < length last.log.list) → (operation_of last k).writes ≡ is_some (value_written (run.call (where_begun k)))
  unfolding last
  written_at k lt = by_call (known_start k lt).start_of.call
    where
      by_call : BeginCall kind (run.call (where_begun k)) (known_start k lt).client (known_start k lt).word → (operation_of last k).writes ≡ is_some (value_written (run.call (where_begun k)))
      by_call (by_read call none) = (known_start k lt).told_so.writes ∙ ap (λ z. is_some z) none ∙ sym (ap (λ z. is_some (value_written z)) call)
      by_call (by_write u call some) = (known_start k lt).told_so.writes ∙ ap (λ z. is_some z) some ∙ sym (ap (λ z. is_some (value_written z)) call)

  word_at : (k : ℕ) (lt : k < length last.log.list) (u : V) → value_written (run.call (where_begun k)) ≡ Some u → (operation_of last k).pair.word ≡ kind.word u
  unfolding last
  word_at k lt u w = by_call (known_start k lt).start_of.call
    where
      by_call : BeginCall kind (run.call (where_begun k)) (known_start k lt).client (known_start k lt).word → (operation_of last k).pair.word ≡ kind.word u
      by_call (by_read call none) = not_some (sym (ap value_written call) ∙ w)
      by_call (by_write x call some) = (known_start k lt).told_so.word_is (kind.word x) some ∙ ap kind.word (some_same (sym (ap value_written call) ∙ w))

  -- what the register holds after a list of operations, in words and in values
  held_same : (l : List ℕ) → ((k : ℕ) → k ∈ l → k < length last.log.list) → (u : V)
      → last_written (λ k. (operation_of last k).writes) (λ k. (operation_of last k).pair.word.0) (kind.word u).0 l ≡ (kind.word (held_after run u (map where_begun l))).0
  held_same [] inside u = refl
  held_same (k ∷ l) inside u = by_value (value_written (run.call (where_begun k))) refl (λ x. held_same l (λ j m. inside j (there m)) x)
    where
      by_value : (o : Option V) → value_written (run.call (where_begun k)) ≡ o
          → ((x : V) → last_written (λ k. (operation_of last k).writes) (λ k. (operation_of last k).pair.word.0) (kind.word x).0 l ≡ (kind.word (held_after run x (map where_begun l))).0)
          → last_written (λ k. (operation_of last k).writes) (λ k. (operation_of last k).pair.word.0) (cond (operation_of last k).writes (operation_of last k).pair.word.0 (kind.word u).0) l
          ≡ (kind.word (held_after run (newer run (value_written (run.call (where_begun k))) u) (map where_begun l))).0
      by_value None is go =
          ap (λ b. last_written (λ k. (operation_of last k).writes) (λ k. (operation_of last k).pair.word.0) (cond b (operation_of last k).pair.word.0 (kind.word u).0) l) (written_at k (inside k (here refl)) ∙ ap (λ z. is_some z) is)
          ∙ go u ∙ sym (ap (λ o. (kind.word (held_after run (newer run o u) (map where_begun l))).0) is)
      by_value (Some x) is go =
          ap (λ b. last_written (λ k. (operation_of last k).writes) (λ k. (operation_of last k).pair.word.0) (cond b (operation_of last k).pair.word.0 (kind.word u).0) l) (written_at k (inside k (here refl)) ∙ ap (λ z. is_some z) is)
          ∙ ap (λ y. last_written (λ k. (operation_of last k).writes) (λ k. (operation_of last k).pair.word.0) y.0 l) (word_at k (inside k (here refl)) x is)
          ∙ go x ∙ sym (ap (λ o. (kind.word (held_after run (newer run o u) (map where_begun l))).0) is)

  -- the order by stamps, of places of the log
  by_stamps : (l : List ℕ) × Order (operations last) last.rules.opening.0 (below (standing last) (length last.log.list)) l
  unfolding last
  by_stamps = stamped_operations_have_an_order (operations last) last.rules.opening.0 (below (standing last) (length last.log.list)) (log_stamped kind.number _ (run.world run.calls) last_holds)

  places : List ℕ
  places = by_stamps.0

  ordered : Order (operations last) last.rules.opening.0 (below (standing last) (length last.log.list)) places
  unfolding places
  ordered = by_stamps.1

  in_log : (k : ℕ) → k ∈ places → IsBelow (standing last) (length last.log.list) k
  in_log k m = below_only (standing last) (length last.log.list) k (ordered.only k m)

  -- an ended operation stands among the places
  stands_there : (o p : ℕ) (u : V) (e : Ended run o p u) → e.place ∈ places
  stands_there o p u e = let t = last_end o p u e in
      ordered.all e.place (below_all (standing last) (length last.log.list) e.place t.logged (ended_stands last e.place t.over))

  one_place : (k j : ℕ) → k < length last.log.list → j < length last.log.list → where_begun k ≡ where_begun j → k ≡ j
  one_place k j lk lj e =
      (known_start k lk).start_of.place ∙ ap (λ o. length (run.world o).hall.log.list) e ∙ sym (known_start j lj).start_of.place

  in_order : InOrder run v (map where_begun places)
  unfolding last
  in_order = record {
    all = λ o f. let e = f.ended in subst (λ z. z ∈ map where_begun places) (last_end o f.position f.value e).begun (map_member where_begun (stands_there o f.position f.value e));
    only = λ o m. let c = comes_from where_begun places o m in only_these o c.at c.at_is (in_log c.at c.inside);
    once = λ front back i e m. once front back i e m;
    time = λ front back o p j u is e lt. time front back o p j u is e lt;
    reads = λ front back j p u is none e. reads front back j p u is none e;
  }
    where
      only_these : (o k : ℕ) → where_begun k ≡ o → IsBelow (standing last) (length last.log.list) k → Finished run o ⊎ Writes run o
      only_these o k at b = subst (λ z. Finished run z ⊎ Writes run z) at (by_how (stands last k b.lower b.passes))
        where
          by_how : Stands last k → Finished run (where_begun k) ⊎ Writes run (where_begun k)
          by_how (as_ended o) = inl (finished k b.lower o)
          by_how (as_write s) = inr (by_value (value_written (run.call (where_begun k))) refl)
            where
              by_value : (x : Option V) → value_written (run.call (where_begun k)) ≡ x → Writes run (where_begun k)
              by_value None is = absurd (clash (sym (written_at k b.lower ∙ ap (λ z. is_some z) is) ∙ s.writes))
              by_value (Some u) is = record { client = (known_start k b.lower).client; place = k; value = u; operation = operation_at k (known_start k b.lower); written = is }

      once : (front back : List ℕ) (i : ℕ) → map where_begun places ≡ front ++ (i ∷ back) → i ∈ front → ⊥
      once front back i e m =
          let s = split_from where_begun places front back i e in
          let c = comes_from where_begun s.before i (subst (λ l. i ∈ l) (sym s.front_is) m) in
          let same = one_place c.at s.at (in_log c.at (split_before s c.inside)).lower (in_log s.at (split_at s)).lower (c.at_is ∙ sym s.at_is) in
          ordered.once s.before s.after s.at s.is (subst (λ z. z ∈ s.before) same c.inside)

      time : (front back : List ℕ) (o p j : ℕ) (u : V) → map where_begun places ≡ front ++ (j ∷ back) → Ended run o p u → p < j → o ∈ front
      time front back o p j u is e lt =
          let s = split_from where_begun places front back j is in
          let t = last_end o p u e in
          let k = known_start s.at (in_log s.at (split_at s)).lower in
          subst (λ l. o ∈ l) s.front_is (subst (λ z. z ∈ map where_begun s.before) t.begun
          (map_member where_begun (ordered.time s.before s.after e.place s.at s.is
          (below_all (standing last) (length last.log.list) e.place t.logged (ended_stands last e.place t.over))
          (t.over, earlier s.at e.place e.within t.moment s.at_is k.told_so.began k.start_of.within))))
        where
          earlier : (a k : ℕ) → p < run.calls → end_of (operation_of last k) ≡ (run.world (p + 1)).hall.moment → where_begun a ≡ j
              → (operation_of last a).began ≡ (run.world (where_begun a)).hall.moment + 1 → where_begun a < run.calls → end_of (operation_of last k) < (operation_of last a).began
          earlier a k within ended at began start_within =
              let g : Grows (run.world (p + 1)).hall (run.world (where_begun a)).hall = grows kind v start lawful opened run unforged (p + 1) (where_begun a) (omega arith) (omega arith) in
              omega (arith, ended, began, g.moment)

      reads : (front back : List ℕ) (j p : ℕ) (u : V) → map where_begun places ≡ front ++ (j ∷ back) → value_written (run.call j) ≡ None → Gives run j p u → u ≡ held_after run v front
      reads front back j p u is none e =
          let s = split_from where_begun places front back j is in
          let t = last_given j p u e in
          let lower = (in_log s.at (split_at s)).lower in
          let same = one_place e.place s.at t.logged lower (t.begun ∙ sym s.at_is) in
          let no_write = written_at s.at lower ∙ ap (λ o. is_some (value_written (run.call o))) s.at_is ∙ ap (λ z. is_some z) none in
          let word_is = ordered.reads s.before s.after s.at s.is no_write
          ∙ ap (λ x. last_written (λ k. (operation_of last k).writes) (λ k. (operation_of last k).pair.word.0) x s.before) opening_word
          ∙ held_same s.before (λ k m. (in_log k (split_before s m)).lower) v
          ∙ ap (λ l. (kind.word (held_after run v l)).0) s.front_is in
          sym (some_same (sym (lawful.kept (held_after run v front)) ∙ ap kind.value (sym (word_same word_is)) ∙ ap (λ k. kind.value (operation_of last k).pair.word) (sym same) ∙ t.value))
        where
          opening_word : last.rules.opening.0 ≡ (kind.word v).0
          opening_word = ap (λ r. r.opening.0) (opening_stays kind v start lawful opened run unforged run.calls (omega arith)) ∙ ap (λ x. x.0) opened.opening

          word_same : {a b : Word} → a.0 ≡ b.0 → a ≡ b
          word_same q = λ i. record { 0 = q i }

  pub one_value : OneValue run
  one_value o i j a b first second =
      let x = last_given o i a first in
      let y = last_given o j b second in
      let same = one_place first.place second.place x.logged y.logged (x.begun ∙ sym y.begun) in
      some_same (sym x.value ∙ ap (λ k. kind.value (operation_of last k).pair.word) same ∙ y.value)

  pub linearizable : Linearizable run v
  linearizable = record { order = map where_begun places; in_order = in_order }
