-- What was said of an operation in the log stands from then on.
-- From the events of calls, over as many calls as there are.
use Rattle.std.proofs.Common.{◌≡◌, ℕ, ◌<◌, ◌≤◌, true, length, sym, refl, ap, ◌∙◌, subst, arith, zero, suc, ◌+◌, add-one}
use native.Mathlib.Decide.{ℕ_discrete}
use Rattle.halls.specs.declared.operation.Operation.{Operation}
use Rattle.kinds.specs.Kinds.{RecordKind}
use Rattle.model.specs.Halls.{Hall, operation_of, end_of}
use Rattle.model.specs.Answers.{Answer}
use Rattle.model.specs.Calls.{Call}
use Rattle.model.proofs.Tables.{ended_logged}
use Rattle.model.proofs.Events.{Event, nothing, begins, ends}

-- what holds of each position and the next one holds of each and each later one
pub along : (R : ℕ → ℕ → Type 0) (end : ℕ) → ((i : ℕ) → R i i) → ((i j : ℕ) → R i j → j < end → R i (j + 1)) → (i j : ℕ) → i ≤ j → j ≤ end → R i j
along R end same step i zero le lj = subst (λ m. R m 0) zero_is (same 0)
  where
    zero_is : 0 ≡ i
    zero_is = omega arith
along R end same step i (suc j) le lj = by_place (λ below. along R end same step i j below (omega arith)) (ℕ_discrete i (suc j))
  where
    by_place : (i ≤ j → R i j) → Dec (i ≡ suc j) → R i (suc j)
    by_place before (yes e) = subst (λ m. R m (suc j)) (sym e) (same (suc j))
    by_place before (no ne) = subst (R i) (add-one j) (step i j (before (omega arith)) (omega arith))

-- the log of one hall goes on in another
pub record Grows (h h' : Hall) : Type 0 where
  pub rules : h'.rules ≡ h.rules
  pub marked : h'.marked ≡ h.marked
  pub longer : length h.log.list ≤ length h'.log.list
  pub moment : h.moment ≤ h'.moment
  pub client : (k : ℕ) → k < length h.log.list → (operation_of h' k).client ≡ (operation_of h k).client
  pub writes : (k : ℕ) → k < length h.log.list → (operation_of h' k).writes ≡ (operation_of h k).writes
  pub began : (k : ℕ) → k < length h.log.list → (operation_of h' k).began ≡ (operation_of h k).began
  pub word : (k : ℕ) → k < length h.log.list → (operation_of h k).writes ≡ true → (operation_of h' k).pair.word ≡ (operation_of h k).pair.word
  pub ended : (k : ℕ) → 0 < end_of (operation_of h k) → end_of (operation_of h' k) ≡ end_of (operation_of h k)
  pub pair : (k : ℕ) → 0 < end_of (operation_of h k) → (operation_of h' k).pair ≡ (operation_of h k).pair

pub grows_same : (h : Hall) → Grows h h
grows_same h = record {
  rules = refl;
  marked = refl;
  longer = omega arith;
  moment = omega arith;
  client = λ k lt. refl;
  writes = λ k lt. refl;
  began = λ k lt. refl;
  word = λ k lt y. refl;
  ended = λ k o. refl;
  pair = λ k o. refl;
}

pub grows_trans : {f g h : Hall} → Grows f g → Grows g h → Grows f h
grows_trans {f} {g} {h} a b = record {
  rules = b.rules ∙ a.rules;
  marked = b.marked ∙ a.marked;
  longer = omega (arith, a.longer, b.longer);
  moment = omega (arith, a.moment, b.moment);
  client = λ k lt. b.client k (more k lt) ∙ a.client k lt;
  writes = λ k lt. b.writes k (more k lt) ∙ a.writes k lt;
  began = λ k lt. b.began k (more k lt) ∙ a.began k lt;
  word = λ k lt y. b.word k (more k lt) (a.writes k lt ∙ y) ∙ a.word k lt y;
  ended = λ k o. b.ended k (still k o) ∙ a.ended k o;
  pair = λ k o. b.pair k (still k o) ∙ a.pair k o;
}
  where
    more : (k : ℕ) → k < length f.log.list → k < length g.log.list
    more k lt = omega (arith, a.longer)

    still : (k : ℕ) → 0 < end_of (operation_of f k) → 0 < end_of (operation_of g k)
    still k o = omega (arith, a.ended k o)

pub event_grows : {V : Type 0} {kind : RecordKind V} {h h' : Hall} {call : Call V} {a : Answer V} → Event kind h h' call a → Grows h h'
event_grows {h = h} {h' = h'} (nothing none s) = record {
  rules = s.rules_same;
  marked = s.marked_same;
  longer = omega (arith, s.same_length);
  moment = omega (arith, s.same_moment);
  client = λ k lt. s.client k;
  writes = λ k lt. s.writes k;
  began = λ k lt. s.began k;
  word = λ k lt y. s.word k y;
  ended = λ k o. s.ended k;
  pair = λ k o. s.over k o;
}
event_grows {h = h} {h' = h'} (begins c word call answer b) = record {
  rules = b.rules_same;
  marked = b.marked_same;
  longer = omega (arith, b.longer);
  moment = omega (arith, b.next_moment);
  client = λ k lt. ap (λ z. z.client) (b.old k lt);
  writes = λ k lt. ap (λ z. z.writes) (b.old k lt);
  began = λ k lt. ap (λ z. z.began) (b.old k lt);
  word = λ k lt y. ap (λ z. z.pair.word) (b.old k lt);
  ended = λ k o. ap (λ z. end_of z) (b.old k (ended_logged h k o));
  pair = λ k o. ap (λ z. z.pair) (b.old k (ended_logged h k o));
}
event_grows {h = h} {h' = h'} (ends c k low high none e) = record {
  rules = e.rules_same;
  marked = e.marked_same;
  longer = omega (arith, e.same_length);
  moment = omega (arith, e.next_moment);
  client = λ j lt. kept_at (λ z. z.client) j (λ is. e.client);
  writes = λ j lt. kept_at (λ z. z.writes) j (λ is. e.writes);
  began = λ j lt. kept_at (λ z. z.began) j (λ is. e.began);
  word = λ j lt y. kept_at (λ z. z.pair.word) j (λ is. e.word (subst (λ m. (operation_of h m).writes ≡ true) is y));
  ended = λ j o. ap (λ z. end_of z) (e.others j (not_it j o));
  pair = λ j o. ap (λ z. z.pair) (e.others j (not_it j o));
}
  where
    not_it : (j : ℕ) → 0 < end_of (operation_of h j) → j ≡ k → ⊥
    not_it j o same = omega (arith, subst (λ m. 0 < end_of (operation_of h m)) same o, e.unended)

    kept_at : {X : Type 0} (f : Operation → X) (j : ℕ) → (j ≡ k → f (operation_of h' k) ≡ f (operation_of h k)) → f (operation_of h' j) ≡ f (operation_of h j)
    kept_at f j at = by_place (ℕ_discrete j k)
      where
        by_place : Dec (j ≡ k) → f (operation_of h' j) ≡ f (operation_of h j)
        by_place (yes same) = subst (λ m. f (operation_of h' m) ≡ f (operation_of h m)) (sym same) (at same)
        by_place (no ne) = ap f (e.others j ne)
