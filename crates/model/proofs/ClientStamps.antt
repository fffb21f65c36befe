-- The step of a client that takes the stamp of a write: one count above all that it has heard and all that it has stamped.
-- The pair is sealed, logged, and sent in a WRITE of the next round.
use Rattle.std.proofs.Common.{◌≡◌, ℕ, ◌+◌, ◌<◌, ◌≤◌, Bool, true, false, ◌&&◌, leb, List, ◌∷◌, length, get_or, set, Some, sym, refl, ap, ◌∙◌, subst, ⊎_elim, arith, length-append}
use mathlib.Core.List.Memᴰ
use Rattle.std.proofs.lemmas.Bool.{both_ways, cases_eq, le-leb, or_right, and_from}
use borrow.Author.Tests.{clash}
use Rattle.kinds.specs.declared.word.Word.{Word}
use Rattle.wire.specs.declared.pair.Pair.{Pair}
use Rattle.wire.specs.declared.pair.Seal.{Seal}
use Rattle.wire.specs.declared.text.Text.{Text}
use Rattle.wire.specs.Texts.{pair_text}
use Rattle.wire.specs.Parties.{Client, Replica}
use Rattle.rules.specs.Genuine.{genuine_entry, same_pair, opening_pair, is_client}
use Rattle.clients.specs.declared.line.Line.{Line}
use Rattle.clients.specs.Lines.{is_idle, is_open, stamped, sealed_with}
use Rattle.clients.specs.Turns.{is_quorum, write_of}
use Rattle.quorums.proofs.Insertion.{empty_within}
use Rattle.quorums.proofs.Sizes.{ones_empty}
use Rattle.halls.specs.declared.operation.Operation.{Operation}
use Rattle.halls.specs.declared.seat.Seat.{Seat}
use Rattle.model.specs.Tables.{is_full, added}
use Rattle.model.specs.Halls.{World, no_operation, operation_of, end_of}
use Rattle.model.specs.Delivering.{entry_of}
use Rattle.model.proofs.ClientAsks.{posting_write, write_posted, none_counted}
use Rattle.model.proofs.ClientMoves.{Hears, heard, forward}
use Rattle.model.proofs.ClientSteps.{client_low, client_high}
use Rattle.model.proofs.Closing.{pair_closes}
use Rattle.model.proofs.Frames.{later_text}
use Rattle.model.proofs.Invariants.{stamp_number, KnownPair, Genuine, StampedWrite, OverBefore, OwnRule, OperationRule, SeatRule, Holds, UnforgedNow, Later}
use Rattle.model.proofs.Invariants.KnownPair.{the_opening, a_write}
use Rattle.model.proofs.Invariants.KnownText.{of_write}
use Rattle.model.proofs.LogSteps.{OpStep, set_here, set_there, logging_set, StampsWell, log_set}
use Rattle.model.proofs.Moved.{moved, Posting, later_moved, moved_keeps}
use Rattle.model.proofs.Seals.{known_writer}
use Rattle.model.proofs.Seats.{with_line, base_moved, own_moved}
use Rattle.model.proofs.Stages.{in_stage, seat_in}
use Rattle.model.proofs.StageTests.{opens_busy}
use Rattle.model.proofs.Ways.{some_same}

-- the operation of a seat, with the pair of this line
abbrev pub stamped_op : World → Seat → Line → Operation
stamped_op w seat line = record (operation_of w.hall seat.operation) { pair = line.highest }

-- no known pair has a count above the number of entries
pub known_low : {kind : ℕ} {sealed : List Text} {w : World} → Holds kind sealed w → (p : Pair) → KnownPair w.hall p → p.stamp.count ≤ length w.hall.post.list
known_low holds p (the_opening count writer word) = omega arith
known_low holds p (a_write k s stamp word) = omega (arith, (holds.log.each k s.logged).low s.writes, ap (λ t. t.count) stamp)

-- the line of a seat whose write has taken its stamp, with this pair
abbrev pub stamped_line : Seat → Pair → Line
stamped_line seat pair = stamped seat.line (seat.line.round + 1) pair

abbrev pub stamped_world : World → Client → Seat → Line → (ℕ → ℕ) → (Text → Seal → Bool) → World
stamped_world w client seat line seals genuine =
    moved w client.number (with_line seat line) (set w.hall.log.list seat.operation (stamped_op w seat line)) w.hall.moment (added w.hall.post (write_of client line)) seals genuine

-- what a stamp asks for: it is above what had ended before and above the client's last
pub record Stamping (w : World) (client : Client) (seat : Seat) (word : Word) (pair : Pair) : Type 0 where
  pub writer : pair.stamp.writer ≡ client.number
  pub word_is : pair.word ≡ word
  pub to_write : seat.line.word ≡ Some word
  pub opens : is_open seat.line.stage ≡ true
  pub unstamped : (operation_of w.hall seat.operation).pair.stamp.count ≡ 0
  pub higher : seat.line.last_count < pair.stamp.count
  pub low : pair.stamp.count ≤ length w.hall.post.list + 1
  pub after : (j : ℕ) → OverBefore w.hall j seat.operation → stamp_number (operation_of w.hall j).pair < stamp_number pair

module _ {kind : ℕ} {sealed : List Text} {w : World} (holds : Holds kind sealed w) (client : Client) (within : client.number ≤ w.hall.rules.clients)
    (seat : Seat) (r : SeatRule kind w client.number seat) where
  module _ (room : is_full w.hall.post ≡ false) (word : Word) (pair : Pair) (f : Stamping w client seat word pair) (seals : ℕ → ℕ) (genuine : Text → Seal → Bool)
      (grows : (t : Text) (s : Seal) → w.genuine t s ≡ true → genuine t s ≡ true) where
    own : OwnRule w client.number seat.line.word seat.operation
    own = r.own (opens_busy seat.line.stage f.opens)

    unended : end_of (operation_of w.hall seat.operation) ≡ 0
    unended = (r.opens f.opens).unended

    writes : (operation_of w.hall seat.operation).writes ≡ true
    writes = own.writes word f.to_write

    step : OpStep w client.number seat.operation (stamped_op w seat (stamped_line seat pair)) w.hall.moment
    step = record {
      logged = own.logged;
      own = own.client;
      kept = refl;
      unended = unended;
      stamp = λ st. absurd (omega (arith, st.stamped, f.unstamped));
      moments = omega (arith, unended);
      ending = λ o. absurd (omega (arith, o, unended));
    }

    posting : Posting w client.number (seat.line.round + 1) (added w.hall.post (write_of client (stamped_line seat pair)))
    posting = posting_write holds client within seat r room (stamped_line seat pair) refl

    grown : Later w (stamped_world w client seat (stamped_line seat pair) seals genuine)
    grown = later_moved (with_line seat (stamped_line seat pair)) seals genuine posting (logging_set step) grows

    operation_stamped : OperationRule (stamped_world w client seat (stamped_line seat pair) seals genuine) seat.operation
    operation_stamped = let o = holds.log.each seat.operation own.logged in record {
      client_low = rw (set_here step) o.client_low;
      client_high = rw (set_here step) o.client_high;
      began = rw (set_here step) o.began;
      began_by = rw (set_here step) o.began_by;
      ended_after = rw (set_here step) o.ended_after;
      ended_by = rw (set_here step) o.ended_by;
      settled = rw (set_here step) (λ z. absurd (omega (arith, z, unended)));
      known = rw (set_here step) (λ z. absurd (omega (arith, z, unended)));
      writer = rw (set_here step) (λ y z. f.writer ∙ sym own.client);
      stamped = rw (set_here step) (λ y z. omega (arith, f.higher));
      low = rw (set_here step) (λ y. simp length-append (omega (arith, f.low)));
    }

    -- no other write has this stamp: the client's own are lower, and the others have other writers
    other_stamp : (j : ℕ) → StampedWrite w.hall j → stamp_number (operation_of w.hall j).pair ≡ stamp_number pair → ⊥
    other_stamp j st e =
        let o = holds.log.each j st.logged in
        let by = o.writer st.writes st.stamped in
        let small : (operation_of w.hall j).client < 256 = omega (arith, o.client_high, holds.sized.clients) in
        let counts : (operation_of w.hall j).pair.stamp.count ≡ pair.stamp.count = omega (arith, e, by, f.writer, client_high client) in
        let writers : (operation_of w.hall j).client ≡ client.number = omega (arith, e, by, f.writer, client_high client, counts) in
        omega (arith, r.counts j st writers, f.higher)

    stamps_well : StampsWell step
    stamps_well = record {
      own_stamp = λ j ne sj y z e. other_stamp j sj e;
      falls_not = λ j over y z. absurd (both_ways true (sym writes ∙ y) refl);
      rises = λ j over y z. f.after j over;
    }

    low_counts : (j : ℕ) → StampedWrite (stamped_world w client seat (stamped_line seat pair) seals genuine).hall j
        → (operation_of w.hall j).client ≡ client.number → (get_or (set w.hall.log.list seat.operation (stamped_op w seat (stamped_line seat pair))) j no_operation).pair.stamp.count ≤ pair.stamp.count
    low_counts j st e = ⊎_elim
        (λ is. subst (λ i. (get_or (set w.hall.log.list seat.operation (stamped_op w seat (stamped_line seat pair))) i no_operation).pair.stamp.count ≤ pair.stamp.count) (sym is)
        (omega (arith, ap (λ (op : Operation). op.pair.stamp.count) (set_here step))))
        (λ ne. let same = set_there step j ne in
        omega (
          arith,
          f.higher,
          ap (λ (op : Operation). op.pair.stamp.count) same,
          r.counts j (record { logged = back j st.logged; writes = sym (ap (λ x. x.writes) same) ∙ st.writes; stamped = subst (λ (x : Operation). 0 < x.pair.stamp.count) same st.stamped }) e,
        ))
        (cases_eq j seat.operation)
      where
        back : (j : ℕ) → j < length (set w.hall.log.list seat.operation (stamped_op w seat (stamped_line seat pair))) → j < length w.hall.log.list
        back j lt = omega (arith, (logging_set step).same_length)

    now_stamped : StampedWrite (stamped_world w client seat (stamped_line seat pair) seals genuine).hall seat.operation
    now_stamped = record {
      logged = omega (arith, own.logged, (logging_set step).same_length);
      writes = ap (λ x. x.writes) (set_here step) ∙ writes;
      stamped = rw (set_here step) (omega (arith, f.higher));
    }

    -- the seal of the new pair checks
    pair_genuine : genuine (pair_text kind pair) pair.seal ≡ true
        → Genuine kind (stamped_world w client seat (stamped_line seat pair) seals genuine) pair
    pair_genuine checks =
        or_right (same_pair pair (opening_pair w.hall.rules)) (is_client w.hall.rules pair.stamp.writer && genuine (pair_text kind pair) pair.seal)
        (and_from (is_client w.hall.rules pair.stamp.writer) (genuine (pair_text kind pair) pair.seal)
        (and_from (leb 1 pair.stamp.writer) (leb pair.stamp.writer w.hall.rules.clients)
        (le-leb 1 pair.stamp.writer (omega (arith, f.writer, client_low client)))
        (le-leb pair.stamp.writer w.hall.rules.clients (omega (arith, f.writer))))
        checks)

    pub stamps_keep : genuine (pair_text kind pair) pair.seal ≡ true → ((d : ℕ) → (d ≡ client.number → ⊥) → w.hall.seals d ≤ seals d)
        → Holds kind (pair_text kind pair ∷ sealed) (stamped_world w client seat (stamped_line seat pair) seals genuine)
    stamps_keep checks enough =
        let line = stamped_line seat pair in
        moved_keeps holds (client_low client) within (with_line seat line) seals genuine posting (logging_set step) grows (pair_text kind pair ∷ sealed) enough
        (seat_in
        (base_moved line seals genuine posting (logging_set step) grows r r.configuration
        (omega arith) (simp length-append (omega (arith, r.round_low))) (simp length-append (omega (arith, f.low)))
        low_counts
        (λ busy. own_moved line seals genuine posting (logging_set step) grows r own refl
        (λ x e. ap (λ (op : Operation). op.pair.word) (set_here step) ∙ f.word_is ∙ some_same (sym f.to_write ∙ e)))
        (λ o. record {
          unended = ap (λ op. end_of op) (set_here step) ∙ unended;
          within = empty_within seat.line.configuration.set.0;
          few = omega (arith, ones_empty);
        }))
        refl
        (record {
          asked = write_posted holds client within seat r room line refl (stamped_world w client seat line seals genuine).hall refl;
          served = λ n m honest. none_counted n m;
          genuine = pair_genuine checks;
          ends_with = record {
            known = a_write seat.operation now_stamped (ap (λ (op : Operation). op.pair.stamp) (set_here step)) (ap (λ (op : Operation). op.pair.word) (set_here step));
            writes_is = now_stamped.writes;
            stamped = λ y. now_stamped;
            own_pair = λ y. ap (λ op. op.pair) (set_here step);
            after = λ r. absurd (clash (sym r));
          };
        }))
        (log_set step (with_line seat line) (added w.hall.post (write_of client line)) seals genuine grown operation_stamped stamps_well holds.log)
        (λ t m. ⊎_elim (λ e. of_write seat.operation now_stamped (e ∙ sym (ap (λ (op : Operation). pair_text kind op.pair) (set_here step)))) (λ old. later_text kind grown t (holds.texts t old)) (Memᴰ.cases_cons m))

  -- the stamp that a closing round gives
  pub stamping : kind ≤ 63 → UnforgedNow kind sealed w → (n : ℕ) → n < length w.hall.post.list → (entry_of w.hall n).addressee ≡ client.number → (from : Replica) (word : Word) (seal : Seal)
      → Hears seat.line (entry_of w.hall n) (genuine_entry w.hall.rules kind w.genuine (entry_of w.hall n)) from
      → is_quorum w.hall.rules (heard seat.line (entry_of w.hall n) from) ≡ true → seat.line.word ≡ Some word
      → Stamping w client seat word (sealed_with (forward client (heard seat.line (entry_of w.hall n) from) word) seal).highest
  stamping small unforged n lt to from word seal h large is =
      let top = (heard seat.line (entry_of w.hall n) from).highest in
      let f = pair_closes holds small unforged n lt client.number to seat r from h large in record {
        writer = refl;
        word_is = refl;
        to_write = is;
        opens = ap is_open h.stage;
        unstamped = (in_stage r h.stage).unstamped ((r.own (ap is_idle h.stage)).writes word is);
        higher = omega arith;
        low = omega (arith, known_low holds top f.known, r.count_low);
        after = λ j over. omega (arith, f.after j over, known_writer kind sealed w holds top f.known);
      }
