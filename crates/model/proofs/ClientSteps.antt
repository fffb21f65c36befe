-- The steps of a client that leave the log as it is and ask for nothing: counting, going on in a new configuration, and answering BEHIND.
-- Each lemma builds the world that comes of one of its moves.
use Rattle.std.proofs.Common.{◌≡◌, ℕ, ◌<◌, ◌≤◌, true, false, leb, List, length, sym, refl, ap, ◌∙◌, subst, ⊎_elim, arith}
use borrow.Author.Tests.{clash}
use lib.Count.{ones}
use Rattle.std.proofs.lemmas.Bool.{leb-false}
use Rattle.wire.specs.declared.text.Text.{Text}
use Rattle.wire.specs.Entries.{kind_of, configuration_of}
use Rattle.wire.specs.Sets.{member, inserted}
use Rattle.wire.specs.Parties.{Client, Replica}
use Rattle.rules.specs.Genuine.{quorum_size, genuine_by_kind, genuine_entry}
use Rattle.rules.specs.Posts.{config_entry}
use Rattle.clients.specs.Lines.{is_open, counting}
use Rattle.clients.specs.Turns.{is_quorum}
use Rattle.quorums.proofs.Insertion.{inserted_within}
use Rattle.histories.specs.Places.Everywhere.{done, next}
use Rattle.histories.proofs.Posting.{justified_unruled, Unruled}
use Rattle.halls.specs.declared.seat.Seat.{Seat}
use Rattle.model.specs.Tables.{is_full, added}
use Rattle.model.specs.Halls.{World}
use Rattle.model.specs.Delivering.{entry_of}
use Rattle.model.specs.Runs.{text_by_kind}
use Rattle.model.proofs.ClientMoves.{Hears, Acked, Configures, heard, moved_on}
use Rattle.model.proofs.Heard.{sent_by, heard_reading, counted_sending}
use Rattle.model.proofs.Invariants.{KnownConfiguration, OpenRule, SeatBase, SeatRule, Holds, UnforgedNow}
use Rattle.model.proofs.Moved.{posting_none, posting_one, stepped}
use Rattle.wire.proofs.Made.{single_within}
use Rattle.model.proofs.Seals.{checked_configuration}
use Rattle.model.proofs.Seats.{with_line, stay_keeps}
use Rattle.model.proofs.Stages.{in_stage, seat_in}
use Rattle.model.proofs.StageTests.{writing_cases, closed_cases}

-- the numbers of clients are 1 and above, and below 100
pub client_low : (client : Client) → 1 ≤ client.number
client_low client = (single_within client).0

pub client_high : (client : Client) → client.number < 100
client_high client = omega (arith, (single_within client).1)

-- one more is counted, and they are still too few
pub open_counted : {w : World} {counted set operation : ℕ} (from : Replica) → member set from.number ≡ true → leb (quorum_size w.hall.rules) (ones (inserted counted from.number)) ≡ false
    → OpenRule w counted set operation → OpenRule w (inserted counted from.number) set operation
open_counted {w} {counted} from inside few o = record {
  unended = o.unended;
  within = inserted_within from.number o.within inside;
  few = leb-false (quorum_size w.hall.rules) (ones (inserted counted from.number)) few;
}

module _ {kind : ℕ} {sealed : List Text} {w : World} (holds : Holds kind sealed w) (small : kind ≤ 63) (unforged : UnforgedNow kind sealed w)
    (n : ℕ) (lt : n < length w.hall.post.list) (client : Client) (within : client.number ≤ w.hall.rules.clients)
    (seat : Seat) (r : SeatRule kind w client.number seat) where
  -- PAIR is counted
  pub keeps_pair : (entry_of w.hall n).addressee ≡ client.number → (from : Replica)
      → Hears seat.line (entry_of w.hall n) (genuine_entry w.hall.rules kind w.genuine (entry_of w.hall n)) from
      → is_quorum w.hall.rules (heard seat.line (entry_of w.hall n) from) ≡ false
      → Holds kind sealed (stepped w client.number (with_line seat (heard seat.line (entry_of w.hall n) from)) w.hall.post)
  unfolding posting_none
  keeps_pair to from h few =
      let line = heard seat.line (entry_of w.hall n) from in
      let sent = sent_by seat.line.configuration.set.0 (entry_of w.hall n).sender from h.inside in
      stay_keeps holds (client_low client) within (with_line seat line) (posting_none client.number seat.line.round holds) done
      (seat_in (record { configuration = r.configuration; past = r.past; own = r.own; opens = λ o. open_counted from sent.inside few (r.opens o) }) h.stage
      (heard_reading holds small unforged n lt client.number to seat from h (in_stage r h.stage)))

  -- ACK is counted
  pub keeps_ack : (entry_of w.hall n).addressee ≡ client.number → (from : Replica) → Acked seat.line (entry_of w.hall n) from
      → is_quorum w.hall.rules (counting seat.line from) ≡ false
      → Holds kind sealed (stepped w client.number (with_line seat (counting seat.line from)) w.hall.post)
  unfolding posting_none
  keeps_ack to from h few =
      let line = counting seat.line from in
      let sent = sent_by seat.line.configuration.set.0 (entry_of w.hall n).sender from h.inside in
      let base : SeatBase w client.number line seat.operation = record { configuration = r.configuration; past = r.past; own = r.own; opens = λ o. open_counted from sent.inside few (r.opens o) } in
      stay_keeps holds (client_low client) within (with_line seat line) (posting_none client.number seat.line.round holds) done
      (⊎_elim
      (λ is. seat_in base is (counted_sending holds small unforged n lt client.number to seat from h (in_stage r is)))
      (λ is. seat_in base is (counted_sending holds small unforged n lt client.number to seat from h (in_stage r is)))
      (writing_cases seat.line.stage h.stage))

  -- what an entry brings in as configuration is known
  pub known_handed : Configures seat.line (entry_of w.hall n) (genuine_entry w.hall.rules kind w.genuine (entry_of w.hall n)) → KnownConfiguration w.hall (configuration_of (entry_of w.hall n))
  known_handed h = checked_configuration kind sealed w small holds unforged n lt (ap (λ k. text_by_kind (kind_of k) kind (entry_of w.hall n)) h.kind)
      (subst (λ k. genuine_by_kind (kind_of k) w.hall.rules kind w.genuine (entry_of w.hall n) ≡ true) h.kind h.checks)

  -- CONFIG with no open round
  pub keeps_config : Configures seat.line (entry_of w.hall n) (genuine_entry w.hall.rules kind w.genuine (entry_of w.hall n)) → is_open seat.line.stage ≡ false
      → Holds kind sealed (stepped w client.number (with_line seat (moved_on seat.line (entry_of w.hall n))) w.hall.post)
  unfolding posting_none
  keeps_config h closed =
      let line = moved_on seat.line (entry_of w.hall n) in
      let base : SeatBase w client.number line seat.operation = record { configuration = known_handed h; past = r.past; own = r.own; opens = λ o. absurd (clash (sym closed ∙ o)) } in
      stay_keeps holds (client_low client) within (with_line seat line) (posting_none client.number seat.line.round holds) done
      (⊎_elim (λ is. seat_in base is tt) (λ is. seat_in base is (in_stage r is)) (closed_cases seat.line.stage closed))

  -- BEHIND: CONFIG is posted
  pub keeps_reply : is_full w.hall.post ≡ false
      → Holds kind sealed (stepped w client.number (with_line seat seat.line) (added w.hall.post (config_entry client.number seat.line.configuration)))
  unfolding posting_one
  keeps_reply room =
      stay_keeps holds (client_low client) within (with_line seat seat.line)
      (posting_one client.number seat.line.round (config_entry client.number seat.line.configuration) holds room (client_high client) refl (omega arith) (justified_unruled unruled))
      (next (record { not_read = λ e k. unruled.no_read k; not_write = λ e k. unruled.no_write k }) done) r
    where
      unruled : Unruled 7
      unruled = record { no_read = λ e. omega arith; no_write = λ e. omega arith; no_pair = λ e. omega arith; no_ack = λ e. omega arith; no_stock = λ e. omega arith }
