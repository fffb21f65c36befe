-- A round closes when a quorum is counted: what a read has found is not below what had ended before, and what was served is settled.
-- The lemmas speak of one world.
use Rattle.std.proofs.Common.{◌≡◌, ℕ, ◌+◌, ◌*◌, ◌<◌, ◌≤◌, Bool, true, false, List, ◌∷◌, length, ap, subst, arith}
use borrow.Author.Tests.{clash}
use lib.Count.{ones}
use Rattle.std.proofs.lemmas.Bool.{leb-true}
use Rattle.wire.specs.declared.pair.Pair.{Pair}
use Rattle.wire.specs.declared.text.Text.{Text}
use Rattle.wire.specs.Sets.{member}
use Rattle.wire.specs.Parties.{Replica}
use Rattle.rules.specs.Genuine.{quorum_size, genuine_entry}
use Rattle.clients.specs.declared.line.Line.{Line}
use Rattle.clients.specs.Lines.{is_open}
use Rattle.clients.specs.Turns.{is_quorum}
use Rattle.quorums.proofs.Insertion.{inserted_member, inserted_within}
use Rattle.quorums.specs.Quorums.{Within, Quorum, Honest}
use Rattle.histories.specs.Histories.{Served, Good}
use Rattle.histories.specs.Reads.{Collected}
use Rattle.histories.proofs.Growth.{settled_grows}
use Rattle.histories.proofs.Late.{late}
use Rattle.histories.proofs.Places.{beneath_next}
use Rattle.halls.specs.declared.seat.Seat.{Seat}
use Rattle.model.specs.Halls.{World, operation_of}
use Rattle.model.specs.Delivering.{entry_of}
use Rattle.model.proofs.ClientMoves.{Hears, heard}
use Rattle.model.proofs.Heard.{sent_by, not_empty, heard_reading}
use Rattle.model.proofs.Invariants.{views, history, stamp_number, KnownConfiguration, KnownPair, Genuine, OverBefore, SettledSomewhere, ReadingRule, EndPair, SeatRule, Holds, UnforgedNow}
use Rattle.model.proofs.Stages.{in_stage}

module _ {kind : ℕ} {sealed : List Text} {w : World} (holds : Holds kind sealed w) (c : ℕ) (line : Line) (known : KnownConfiguration w.hall line.configuration)
    (within : Within line.counted.0 line.configuration.set.0) (large : 2 * w.hall.rules.faults + 1 ≤ ones line.counted.0) where
  counted_quorum : Quorum (views w.hall) line.configuration.epoch line.counted.0
  counted_quorum = record { issued = known.issued; within = subst (Within line.counted.0) known.set within; large = large }

  -- what all that are counted have served: a read's stamp if its stamps agree, and the stamp of a write or write-back
  pub all_served : ((n : ℕ) → member line.counted.0 n ≡ true → Honest (views w.hall) n → Served (history w.hall) n line.configuration.epoch (stamp_number line.highest))
      → SettledSomewhere (views w.hall) (history w.hall) (stamp_number line.highest)
  all_served served = record {
    epoch = line.configuration.epoch;
    settled = record { by = line.counted.0; quorum = counted_quorum; served = λ q m honest. record { stamp = stamp_number line.highest; high = omega arith; served = served q m honest } };
  }

  -- nothing that had ended before has a higher stamp than the highest heard
  read_after : {operation : ℕ} → ReadingRule kind w c line operation → (k : ℕ) → OverBefore w.hall k operation → stamp_number (operation_of w.hall k).pair ≤ stamp_number line.highest
  read_after r k over =
      let s = r.before k over in
      let collected : Collected (views w.hall) r.newer line.configuration.epoch (stamp_number line.highest) = record { from = line.counted.0; quorum = counted_quorum; answered = r.answered } in
      (late (views w.hall) holds.roll.sound (r.read ∷ r.older) r.newer (subst (Good (views w.hall)) r.splits holds.good)
      s.epoch (stamp_number (operation_of w.hall k).pair) line.configuration.epoch (stamp_number line.highest)
      (settled_grows (beneath_next r.read r.older) s.settled) collected).stamps

-- what a closing round of reading has found
pub record FoundPair (kind : ℕ) (w : World) (operation : ℕ) (pair : Pair) (agree : Bool) : Type 0 where
  pub known : KnownPair w.hall pair
  pub genuine : Genuine kind w pair
  pub after : (k : ℕ) → OverBefore w.hall k operation → stamp_number (operation_of w.hall k).pair ≤ stamp_number pair
  pub settled : agree ≡ true → SettledSomewhere (views w.hall) (history w.hall) (stamp_number pair)

-- a read may end with it
pub found_ends : {kind : ℕ} {w : World} {operation : ℕ} {pair : Pair} {agree : Bool} → FoundPair kind w operation pair agree → (operation_of w.hall operation).writes ≡ false → EndPair w pair operation false
found_ends f reads = record { known = f.known; writes_is = reads; stamped = λ e. absurd (clash e); own_pair = λ e. absurd (clash e); after = λ e. f.after }

-- the PAIR that is handed over closes the round
pub pair_closes : {kind : ℕ} {sealed : List Text} {w : World} → Holds kind sealed w → kind ≤ 63 → UnforgedNow kind sealed w
    → (n : ℕ) → n < length w.hall.post.list → (c : ℕ) → (entry_of w.hall n).addressee ≡ c → (seat : Seat) → SeatRule kind w c seat → (from : Replica)
    → Hears seat.line (entry_of w.hall n) (genuine_entry w.hall.rules kind w.genuine (entry_of w.hall n)) from
    → is_quorum w.hall.rules (heard seat.line (entry_of w.hall n) from) ≡ true
    → FoundPair kind w seat.operation (heard seat.line (entry_of w.hall n) from).highest (heard seat.line (entry_of w.hall n) from).agree
pair_closes {w = w} holds small unforged n lt c to seat r from h large =
    let line = heard seat.line (entry_of w.hall n) from in
    let sent = sent_by seat.line.configuration.set.0 (entry_of w.hall n).sender from h.inside in
    let many = leb-true (quorum_size w.hall.rules) (ones line.counted.0) large in
    let counted = inserted_within from.number (r.opens (ap is_open h.stage)).within sent.inside in
    let reading = heard_reading holds small unforged n lt c to seat from h (in_stage r h.stage) in
    let some = not_empty line.counted.0 from.number (inserted_member seat.line.counted.0 from.number) in record {
      known = reading.highest some;
      genuine = reading.genuine some;
      after = read_after holds c line r.configuration counted many reading;
      settled = λ agree. all_served holds c line r.configuration counted many (reading.agreed agree);
    }
