-- The steps of a client that end its operation: a read whose stamps agree, a write, and a write-back.
-- The operation takes the next moment as its end, and the pair in flight.
use Rattle.std.proofs.Common.{Some, ◌≡◌, ℕ, ◌+◌, ◌*◌, ◌<◌, ◌≤◌, Bool, true, false, List, length, set, None, sym, refl, ap, ◌∙◌, subst, ⊎_elim, arith}
use borrow.Author.Tests.{clash}
use lib.Count.{ones}
use Rattle.std.proofs.lemmas.Bool.{cases_eq, leb-true}
use Rattle.wire.specs.declared.pair.Pair.{Pair}
use Rattle.wire.specs.declared.set.ReplicaSet.{ReplicaSet}
use Rattle.wire.specs.declared.text.Text.{Text}
use Rattle.wire.specs.Sets.{inserted}
use Rattle.wire.specs.Parties.{Client, Replica}
use Rattle.rules.specs.Genuine.{quorum_size, genuine_entry}
use Rattle.clients.specs.declared.line.Line.{Line}
use Rattle.clients.specs.declared.line.Stage.TheVariants.{Over}
use Rattle.clients.specs.Lines.{is_idle, is_open, counting}
use Rattle.clients.specs.Turns.{is_quorum}
use Rattle.quorums.specs.Quorums.{Within}
use Rattle.quorums.proofs.Insertion.{inserted_within}
use Rattle.halls.specs.declared.operation.Operation.{Operation}
use Rattle.halls.specs.declared.seat.Seat.{Seat}
use Rattle.model.specs.Halls.{World, operation_of}
use Rattle.model.specs.Delivering.{entry_of}
use Rattle.model.proofs.ClientMoves.{Hears, Acked, heard}
use Rattle.model.proofs.ClientSteps.{client_low}
use Rattle.model.proofs.Closing.{all_served, found_ends, pair_closes}
use Rattle.model.proofs.Frames.{later_pair, later_text}
use Rattle.model.proofs.Heard.{sent_by, counted_sending}
use Rattle.model.proofs.Invariants.{views, history, stamp_number, StampedWrite, SettledSomewhere, EndPair, SendingRule, OwnRule, OperationRule, SeatRule, Holds, UnforgedNow, Later}
use Rattle.model.proofs.LogSteps.{OpStep, set_here, set_there, logging_set, StampsWell, log_set}
use Rattle.model.proofs.Moved.{moved, Posting, posting_none, later_moved, moved_keeps}
use Rattle.model.proofs.Seats.{with_line, base_moved, counts_kept, own_moved}
use Rattle.model.proofs.Stages.{in_stage, seat_in}
use Rattle.model.proofs.StageTests.{writing_cases, writing_opens, opens_busy}

-- the operation of a seat, ended with the pair of this line
abbrev pub ended_op : World → Seat → Line → Operation
ended_op w seat line = record (operation_of w.hall seat.operation) { ended = Some (w.hall.moment + 1); pair = line.highest }

-- the line of a seat whose operation has ended with this pair
abbrev pub over_line : Seat → ReplicaSet → Pair → Bool → Line
over_line seat counted highest agree = record seat.line { stage = Over; counted = counted; highest = highest; agree = agree }

abbrev pub ended_world : World → Client → Seat → Line → World
ended_world w client seat line = moved w client.number (with_line seat line) (set w.hall.log.list seat.operation (ended_op w seat line)) (w.hall.moment + 1) w.hall.post w.hall.seals w.genuine

-- what an end asks for
pub record Ending (w : World) (seat : Seat) (highest : Pair) : Type 0 where
  pub is_write : Bool
  pub opens : is_open seat.line.stage ≡ true
  pub settled : SettledSomewhere (views w.hall) (history w.hall) (stamp_number highest)
  pub ends_with : EndPair w highest seat.operation is_write
  pub open ends_with use *

module _ {kind : ℕ} {sealed : List Text} {w : World} (holds : Holds kind sealed w) (client : Client) (within : client.number ≤ w.hall.rules.clients)
    (seat : Seat) (r : SeatRule kind w client.number seat) where
  module _ (counted : ReplicaSet) (highest : Pair) (agree : Bool) (f : Ending w seat highest) where
    own : OwnRule w client.number seat.line.word seat.operation
    own = r.own (opens_busy seat.line.stage f.opens)

    its_stamp : (operation_of w.hall seat.operation).writes ≡ true → StampedWrite w.hall seat.operation
    its_stamp y = f.stamped (sym f.writes_is ∙ y)

    its_pair : (operation_of w.hall seat.operation).writes ≡ true → (operation_of w.hall seat.operation).pair ≡ highest
    its_pair y = f.own_pair (sym f.writes_is ∙ y)

    step : OpStep w client.number seat.operation (ended_op w seat (over_line seat counted highest agree)) (w.hall.moment + 1)
    step = record {
      logged = own.logged;
      own = own.client;
      kept = refl;
      unended = (r.opens f.opens).unended;
      stamp = λ st. sym (its_pair st.writes);
      moments = omega arith;
      ending = λ o. omega arith;
    }

    none_posted : Posting w client.number seat.line.round w.hall.post
    none_posted = posting_none client.number seat.line.round holds

    grown : Later w (ended_world w client seat (over_line seat counted highest agree))
    grown = later_moved (with_line seat (over_line seat counted highest agree)) w.hall.seals w.genuine none_posted (logging_set step) (λ t s e. e)

    operation_ended : OperationRule (ended_world w client seat (over_line seat counted highest agree)) seat.operation
    unfolding history
    operation_ended = let o = holds.log.each seat.operation own.logged in record {
      client_low = rw (set_here step) o.client_low;
      client_high = rw (set_here step) o.client_high;
      began = rw (set_here step) o.began;
      began_by = rw (set_here step) (omega (arith, o.began_by));
      ended_after = rw (set_here step) (λ z. omega (arith, o.began_by));
      ended_by = rw (set_here step) (omega arith);
      settled = rw (set_here step) (λ z. f.settled);
      known = rw (set_here step) (λ z. later_pair grown highest f.known);
      writer = rw (set_here step) (λ y z. ap (λ p. p.stamp.writer) (sym (its_pair y)) ∙ o.writer y (its_stamp y).stamped);
      stamped = rw (set_here step) (λ y z. subst (λ p. 0 < p.stamp.count) (its_pair y) (its_stamp y).stamped);
      low = rw (set_here step) (λ y. subst (λ p. p.stamp.count ≤ length w.hall.post.list) (its_pair y) (o.low y));
    }

    stamps_well : StampsWell step
    stamps_well = record {
      own_stamp = λ j ne sj y z e. ne (holds.log.own_stamp j seat.operation sj (its_stamp y) (e ∙ ap stamp_number (sym (its_pair y))));
      falls_not = λ j over y z. f.after (sym f.writes_is ∙ y) j over;
      rises = λ j over y z. subst (λ p. stamp_number (operation_of w.hall j).pair < stamp_number p) (its_pair y) (holds.log.rises j seat.operation over (its_stamp y));
    }

    old_stamps : (j : ℕ) → StampedWrite (ended_world w client seat (over_line seat counted highest agree)).hall j → StampedWrite w.hall j
    old_stamps j st = ⊎_elim
        (λ e. subst (StampedWrite w.hall) (sym e) (its_stamp (ap (λ i. (operation_of w.hall i).writes) (sym e) ∙ sym ((logging_set step).writes j) ∙ st.writes)))
        (λ ne. let same = set_there step j ne in record {
          logged = omega (arith, st.logged, (logging_set step).same_length);
          writes = sym (ap (λ x. x.writes) same) ∙ st.writes;
          stamped = subst (λ (x : Operation). 0 < x.pair.stamp.count) same st.stamped;
        })
        (cases_eq j seat.operation)

    pub ends_keeps : Holds kind sealed (ended_world w client seat (over_line seat counted highest agree))
    ends_keeps =
        let line = over_line seat counted highest agree in
        moved_keeps holds (client_low client) within (with_line seat line) w.hall.seals w.genuine none_posted (logging_set step) (λ t s e. e) sealed (λ d ne. omega arith)
        (seat_in
        (base_moved line w.hall.seals w.genuine none_posted (logging_set step) (λ t s e. e) r r.configuration (omega arith) r.round_low r.count_low
        (counts_kept line w.hall.seals w.genuine none_posted (logging_set step) (λ t s e. e) r (omega arith) old_stamps)
        (λ busy. own_moved line w.hall.seals w.genuine none_posted (logging_set step) (λ t s e. e) r own refl
        (λ x e. ap (λ (op : Operation). op.pair.word) (set_here step) ∙ ap (λ p. p.word) (sym (its_pair (own.writes x e))) ∙ own.word x e))
        (λ o. absurd (clash o)))
        refl (record { ended = rw (set_here step) (omega arith); with_pair = ap (λ op. op.pair) (set_here step) }))
        (log_set step (with_line seat line) w.hall.post w.hall.seals w.genuine grown operation_ended stamps_well holds.log)
        (λ t m. later_text kind grown t (holds.texts t m))

  module _ (small : kind ≤ 63) (unforged : UnforgedNow kind sealed w) (n : ℕ) (lt : n < length w.hall.post.list) (to : (entry_of w.hall n).addressee ≡ client.number) (from : Replica) where
    -- a read whose stamps agree
    pub ending_read : Hears seat.line (entry_of w.hall n) (genuine_entry w.hall.rules kind w.genuine (entry_of w.hall n)) from
        → is_quorum w.hall.rules (heard seat.line (entry_of w.hall n) from) ≡ true → seat.line.word ≡ None → (heard seat.line (entry_of w.hall n) from).agree ≡ true
        → Ending w seat (heard seat.line (entry_of w.hall n) from).highest
    ending_read h large reads agree =
        let f = pair_closes holds small unforged n lt client.number to seat r from h large in
        record { is_write = false; opens = ap is_open h.stage; settled = f.settled agree; ends_with = found_ends f ((r.own (ap is_idle h.stage)).reads reads) }

    -- a write, or a write-back
    pub ending_write : Acked seat.line (entry_of w.hall n) from → is_quorum w.hall.rules (counting seat.line from) ≡ true → Ending w seat seat.line.highest
    ending_write h large = ⊎_elim (λ is. sent (in_stage r is)) (λ is. sent (in_stage r is)) (writing_cases seat.line.stage h.stage)
      where
        opens : is_open seat.line.stage ≡ true
        opens = writing_opens seat.line.stage h.stage

        many : 2 * w.hall.rules.faults + 1 ≤ ones (inserted seat.line.counted.0 from.number)
        many = leb-true (quorum_size w.hall.rules) (ones (inserted seat.line.counted.0 from.number)) large

        inside : Within (inserted seat.line.counted.0 from.number) seat.line.configuration.set.0
        inside = inserted_within from.number (r.opens opens).within (sent_by seat.line.configuration.set.0 (entry_of w.hall n).sender from h.inside).inside

        sent : {writes : Bool} → SendingRule kind w client.number seat.line seat.operation writes → Ending w seat seat.line.highest
        sent {writes} s = record {
          is_write = writes;
          opens = opens;
          settled = all_served holds client.number (counting seat.line from) r.configuration inside many (counted_sending holds small unforged n lt client.number to seat from h s).served;
          ends_with = s.ends_with;
        }
