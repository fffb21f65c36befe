-- One operation of the log takes its stamp, or ends: what that asks for so that the rule of the log still holds.
-- The world that comes of it is that of a client's step.
use Rattle.std.proofs.Common.{◌≡◌, ℕ, zero, suc, ◌+◌, ◌<◌, ◌≤◌, min, Bool, true, false, List, [], ◌∷◌, length, get_or, set, sym, ap, ◌∙◌, subst, ⊎_elim, arith, length-set, get_or-set_other, get_or-set_same}
use Rattle.std.proofs.lemmas.Bool.{cases_eq}
use Rattle.wire.specs.declared.entry.Entry.{Entry}
use Rattle.wire.specs.declared.pair.Seal.{Seal}
use Rattle.wire.specs.declared.text.Text.{Text}
use Rattle.halls.specs.declared.operation.Operation.{Operation}
use Rattle.halls.specs.declared.seat.Seat.{Seat}
use Rattle.model.specs.Tables.{Table}
use Rattle.model.specs.Halls.{World, no_operation, operation_of, end_of}
use Rattle.model.proofs.Frames.{later_over}
use Rattle.model.proofs.Invariants.{stamp_number, StampedWrite, OverBefore, OperationRule, LogRule, Later, ends}
use Rattle.model.proofs.Moved.{moved, Logging}
use Rattle.model.proofs.Posts.{operation_later}
use Rattle.model.proofs.Tables.{set_keeps}

-- how many have ended, with another operation at place k
pub ends_set : (ops : List Operation) (k : ℕ) (op : Operation) → k < length ops → ends (set ops k op) + min 1 (end_of (get_or ops k no_operation)) ≡ ends ops + min 1 (end_of op)
unfolding ends
ends_set [] k op lt = absurd (omega arith)
ends_set (x ∷ ops) zero op lt = omega arith
ends_set (x ∷ ops) (suc k) op lt = omega (arith, ends_set ops k op (omega arith))

-- the operation of client c at place k, not ended so far, becomes this one at this moment
pub record OpStep (w : World) (c k : ℕ) (op : Operation) (moment : ℕ) : Type 0 where
  pub logged : k < length w.hall.log.list
  pub own : (operation_of w.hall k).client ≡ c
  pub kept : op ≡ record (operation_of w.hall k) { ended = op.ended; pair = op.pair }
  pub unended : end_of (operation_of w.hall k) ≡ 0
  pub stamp : StampedWrite w.hall k → op.pair ≡ (operation_of w.hall k).pair
  pub moments : moment ≡ w.hall.moment + min 1 (end_of op)
  pub ending : 0 < end_of op → w.hall.moment < end_of op

module _ {w : World} {c k : ℕ} {op : Operation} {moment : ℕ} (s : OpStep w c k op moment) where
  pub set_here : get_or (set w.hall.log.list k op) k no_operation ≡ op
  set_here = get_or-set_same w.hall.log.list k op no_operation s.logged

  pub set_there : (j : ℕ) → (j ≡ k → ⊥) → get_or (set w.hall.log.list k op) j no_operation ≡ operation_of w.hall j
  set_there j ne = get_or-set_other w.hall.log.list k j op no_operation ne

  pub logging_set : Logging w c (set w.hall.log.list k op) moment
  logging_set = record {
    same_length = length-set w.hall.log.list k op;
    others = λ j other. set_there j (λ e. other (ap (λ i. (operation_of w.hall i).client) e ∙ s.own));
    moments = omega (arith, s.moments);
    client = λ j. set_keeps (λ x. x.client) w.hall.log.list k j op (λ e. ap (λ x. x.client) s.kept);
    writes = λ j. set_keeps (λ x. x.writes) w.hall.log.list k j op (λ e. ap (λ x. x.writes) s.kept);
    began = λ j. set_keeps (λ x. x.began) w.hall.log.list k j op (λ e. ap (λ x. x.began) s.kept);
    stamp = λ j st. set_keeps (λ x. x.pair) w.hall.log.list k j op (λ e. s.stamp (subst (StampedWrite w.hall) e st));
    ended = λ j o. set_there j (λ e. over j o e);
    ending = λ j z o. ⊎_elim (λ e. at_k j e o) (λ ne. absurd (elsewhere j ne z o)) (cases_eq j k);
  }
    where
      over : (j : ℕ) → 0 < end_of (operation_of w.hall j) → j ≡ k → ⊥
      over j o e = omega (arith, s.unended, ap (λ i. end_of (operation_of w.hall i)) e)

      at_k : (j : ℕ) → j ≡ k → 0 < end_of (get_or (set w.hall.log.list k op) j no_operation) → w.hall.moment < end_of (get_or (set w.hall.log.list k op) j no_operation)
      at_k j e o =
          let is : end_of (get_or (set w.hall.log.list k op) j no_operation) ≡ end_of op = ap (λ i. end_of (get_or (set w.hall.log.list k op) i no_operation)) e ∙ ap (λ x. end_of x) set_here in
          omega (arith, s.ending (omega (arith, is, o)), is)

      elsewhere : (j : ℕ) → (j ≡ k → ⊥) → end_of (operation_of w.hall j) ≡ 0 → 0 < end_of (get_or (set w.hall.log.list k op) j no_operation) → ⊥
      elsewhere j ne z o = omega (arith, o, z, ap (λ (x : Operation). end_of x) (set_there j ne))

  -- of the new operation: its stamp is no other write's, not below what had ended before, and above it for a write
  pub record StampsWell : Type 0 where
    pub own_stamp : (j : ℕ) → (j ≡ k → ⊥) → StampedWrite w.hall j → op.writes ≡ true → 0 < op.pair.stamp.count → stamp_number (operation_of w.hall j).pair ≡ stamp_number op.pair → ⊥
    pub falls_not : (j : ℕ) → OverBefore w.hall j k → op.writes ≡ false → 0 < end_of op → stamp_number (operation_of w.hall j).pair ≤ stamp_number op.pair
    pub rises : (j : ℕ) → OverBefore w.hall j k → op.writes ≡ true → 0 < op.pair.stamp.count → stamp_number (operation_of w.hall j).pair < stamp_number op.pair

  module _ (seat : Seat) (table : Table Entry) (seals : ℕ → ℕ) (genuine : Text → Seal → Bool) (l : Later w (moved w c seat (set w.hall.log.list k op) moment table seals genuine)) where
    pub log_set : OperationRule (moved w c seat (set w.hall.log.list k op) moment table seals genuine) k → StampsWell → LogRule w → LogRule (moved w c seat (set w.hall.log.list k op) moment table seals genuine)
    log_set rule well r = record {
      moments = omega (arith, r.moments, s.moments, s.unended, ends_set w.hall.log.list k op s.logged, length-set w.hall.log.list k op);
      each = λ j lt. ⊎_elim
          (λ e. subst (OperationRule w') (sym e) rule)
          (λ ne. operation_later w w' l j (back j lt) l.moment (set_there j ne) (r.each j (back j lt)))
          (cases_eq j k);
      rising = λ i j lt lj. rises_on i j lt (back j lj);
      own_stamp = λ i j si sj e. ⊎_elim
          (λ ei. ⊎_elim (λ ej. ei ∙ sym ej) (λ nj. absurd (clashes i j ei nj si sj (sym e))) (cases_eq j k))
          (λ ni. ⊎_elim (λ ej. absurd (clashes j i ej ni sj si e)) (λ nj. r.own_stamp i j (before i ni si) (before j nj sj) (sym (number i ni) ∙ e ∙ number j nj)) (cases_eq j k))
          (cases_eq i k);
      falls_not = λ i j o lj y z. ⊎_elim
          (λ e. at_k_falls i j e o y z)
          (λ ne. let old = over i j (back j lj) o in
          omega (arith, number_over i old, number j ne, r.falls_not i j old (back j lj) (sym (ap (λ x. x.writes) (set_there j ne)) ∙ y) (subst (λ (x : Operation). 0 < end_of x) (set_there j ne) z)))
          (cases_eq j k);
      rises = λ i j o sj. ⊎_elim
          (λ e. at_k_rises i j e o sj)
          (λ ne. let old = over i j (back j sj.logged) o in omega (arith, number_over i old, number j ne, r.rises i j old (before j ne sj)))
          (cases_eq j k);
    }
      where
        w' : World
        w' = moved w c seat (set w.hall.log.list k op) moment table seals genuine

        back : (j : ℕ) → j < length (set w.hall.log.list k op) → j < length w.hall.log.list
        back j lt = omega (arith, length-set w.hall.log.list k op)

        number : (j : ℕ) → (j ≡ k → ⊥) → stamp_number (get_or (set w.hall.log.list k op) j no_operation).pair ≡ stamp_number (operation_of w.hall j).pair
        number j ne = ap (λ x. stamp_number x.pair) (set_there j ne)

        number_at : (j : ℕ) → j ≡ k → stamp_number (get_or (set w.hall.log.list k op) j no_operation).pair ≡ stamp_number op.pair
        number_at j e = ap (λ i. stamp_number (get_or (set w.hall.log.list k op) i no_operation).pair) e ∙ ap (λ x. stamp_number x.pair) set_here

        before : (j : ℕ) → (j ≡ k → ⊥) → StampedWrite (moved w c seat (set w.hall.log.list k op) moment table seals genuine).hall j → StampedWrite w.hall j
        before j ne st = record { logged = back j st.logged; writes = sym (ap (λ x. x.writes) (set_there j ne)) ∙ st.writes; stamped = subst (λ (x : Operation). 0 < x.pair.stamp.count) (set_there j ne) st.stamped }

        over : (i j : ℕ) → j < length w.hall.log.list → OverBefore (moved w c seat (set w.hall.log.list k op) moment table seals genuine).hall i j → OverBefore w.hall i j
        over i j lj o = later_over l i j lj (r.each j lj).began_by o

        number_over : (i : ℕ) {j : ℕ} → OverBefore w.hall i j → stamp_number (get_or (set w.hall.log.list k op) i no_operation).pair ≡ stamp_number (operation_of w.hall i).pair
        number_over i o = ap (λ x. stamp_number x.pair) (l.ended i o.over)

        rises_on : (i j : ℕ) → i < j → j < length w.hall.log.list → (get_or (set w.hall.log.list k op) i no_operation).began < (get_or (set w.hall.log.list k op) j no_operation).began
        rises_on i j lt lj = omega (arith, r.rising i j lt lj, logging_set.began i, logging_set.began j)

        op_writes : (j : ℕ) → j ≡ k → StampedWrite (moved w c seat (set w.hall.log.list k op) moment table seals genuine).hall j → op.writes ≡ true
        op_writes j e st = sym (ap (λ x. x.writes) set_here) ∙ subst (λ i. (get_or (set w.hall.log.list k op) i no_operation).writes ≡ true) e st.writes

        op_stamped : (j : ℕ) → j ≡ k → StampedWrite (moved w c seat (set w.hall.log.list k op) moment table seals genuine).hall j → 0 < op.pair.stamp.count
        op_stamped j e st = subst (λ (x : Operation). 0 < x.pair.stamp.count) set_here (subst (λ i. 0 < (get_or (set w.hall.log.list k op) i no_operation).pair.stamp.count) e st.stamped)

        -- i is the changed place, j another
        clashes : (i j : ℕ) → i ≡ k → (j ≡ k → ⊥) → StampedWrite (moved w c seat (set w.hall.log.list k op) moment table seals genuine).hall i → StampedWrite (moved w c seat (set w.hall.log.list k op) moment table seals genuine).hall j
            → stamp_number (get_or (set w.hall.log.list k op) j no_operation).pair ≡ stamp_number (get_or (set w.hall.log.list k op) i no_operation).pair → ⊥
        clashes i j ei nj si sj e = well.own_stamp j nj (before j nj sj) (op_writes i ei si) (op_stamped i ei si) (sym (number j nj) ∙ e ∙ number_at i ei)

        over_k : (i j : ℕ) → j ≡ k → OverBefore (moved w c seat (set w.hall.log.list k op) moment table seals genuine).hall i j → OverBefore w.hall i k
        over_k i j e o = over i k s.logged (subst (OverBefore (moved w c seat (set w.hall.log.list k op) moment table seals genuine).hall i) e o)

        at_k_falls : (i j : ℕ) → j ≡ k → OverBefore (moved w c seat (set w.hall.log.list k op) moment table seals genuine).hall i j
            → (get_or (set w.hall.log.list k op) j no_operation).writes ≡ false → 0 < end_of (get_or (set w.hall.log.list k op) j no_operation)
            → stamp_number (get_or (set w.hall.log.list k op) i no_operation).pair ≤ stamp_number (get_or (set w.hall.log.list k op) j no_operation).pair
        at_k_falls i j e o y z =
            let old = over_k i j e o in
            omega (
              arith,
              number_over i old,
              number_at j e,
              well.falls_not i old
                  (sym (ap (λ x. x.writes) set_here) ∙ subst (λ n. (get_or (set w.hall.log.list k op) n no_operation).writes ≡ false) e y)
                  (subst (λ (x : Operation). 0 < end_of x) set_here (subst (λ n. 0 < end_of (get_or (set w.hall.log.list k op) n no_operation)) e z)),
            )

        at_k_rises : (i j : ℕ) → j ≡ k → OverBefore (moved w c seat (set w.hall.log.list k op) moment table seals genuine).hall i j
            → StampedWrite (moved w c seat (set w.hall.log.list k op) moment table seals genuine).hall j
            → stamp_number (get_or (set w.hall.log.list k op) i no_operation).pair < stamp_number (get_or (set w.hall.log.list k op) j no_operation).pair
        at_k_rises i j e o sj =
            let old = over_k i j e o in
            omega (arith, number_over i old, number_at j e, well.rises i old (op_writes j e sj) (op_stamped j e sj))
