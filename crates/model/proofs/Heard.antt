-- One more PAIR or ACK is counted: what is said of the counted replicas holds of the new one too.
-- The lemmas speak of one world, in which the entry that is handed over stands in the post.
use Rattle.std.proofs.Common.{◌≡◌, ℕ, ◌+◌, ◌-◌, ◌<◌, ◌≤◌, Bool, true, false, cond, ◌&&◌, eqb, leb, List, ◌∷◌, length, Some, sym, refl, ap, ◌∙◌, subst, ⊎_elim, arith, subst₂}
use Rattle.std.proofs.lemmas.Bool.{both_ways, and_parts, eqb-true, eqb-false, leb-true}
use Rattle.wire.specs.declared.entry.Entry.{Entry}
use Rattle.wire.specs.declared.pair.Pair.{Pair}
use Rattle.wire.specs.declared.text.Text.{Text}
use Rattle.wire.specs.Entries.{kind_of, pair_of}
use Rattle.wire.specs.Parties.{Replica, replica_of}
use Rattle.wire.specs.Sets.{member}
use Rattle.wire.specs.Stamps.{above}
use Rattle.wire.proofs.Made.{single_number}
use Rattle.rules.specs.Genuine.{genuine_by_kind, genuine_entry}
use Rattle.rules.specs.Senders.{sender_within}
use Rattle.clients.specs.Lines.{same_stamp, counting}
use Rattle.quorums.specs.Quorums.{Honest, Views}
use Rattle.quorums.proofs.Insertion.{none_in_empty, inserted_cases}
use Rattle.histories.specs.Places.{Posted}
use Rattle.histories.specs.Places.Somewhere.{here, there}
use Rattle.histories.specs.Shapes.{ReadEntry, WriteEntry, PairEntry, AckEntry}
use Rattle.histories.specs.Histories.{Served, Good, Justified}
use Rattle.histories.specs.Histories.Serves.{by_pair}
use Rattle.histories.specs.Reads.{Answered}
use Rattle.histories.proofs.Places.{found, posted_map, somewhere_grows, beneath_append, beneath_rest, Beneath}
use Rattle.histories.proofs.Rounds.{one_read, one_write, acked_served, answer_above, PairTo}
use Rattle.halls.specs.declared.seat.Seat.{Seat}
use Rattle.model.specs.Halls.{World, Hall}
use Rattle.model.specs.Delivering.{entry_of}
use Rattle.model.specs.Runs.{text_by_kind}
use Rattle.model.proofs.ClientMoves.{Hears, Acked, heard}
use Rattle.model.proofs.Frames.{posted_entry, posted_as}
use Rattle.model.proofs.Invariants.{views, history, stamp_number, KnownPair, Genuine, AskedRule, ReadingRule, SendingRule, Holds, UnforgedNow}
use Rattle.model.proofs.Seals.{checked_pair, known_writer}
use Rattle.model.proofs.Stamps.{above_higher, not_above, same_number}
use Rattle.model.proofs.Ways.{way, not_some}

-- the sender is replica `from`, a member of the set
pub record SentBy (set sender : ℕ) (from : Replica) : Type 0 where
  pub number : sender ≡ 100 + from.number
  pub inside : member set from.number ≡ true

pub sent_by : (set sender : ℕ) (from : Replica) → sender_within set sender ≡ Some from → SentBy set sender from
sent_by set sender from p = way (leb 100 sender && member set (sender - 100)) p (λ in_set q. told in_set q) (λ out q. not_some q)
  where
    told : (leb 100 sender && member set (sender - 100)) ≡ true → replica_of (sender - 100) ≡ Some from → SentBy set sender from
    told in_set q =
        let parts = and_parts (leb 100 sender) (member set (sender - 100)) in_set in
        let is : from.number ≡ sender - 100 = single_number (sender - 100) from q in
        record { number = omega (arith, leb-true 100 sender parts.0); inside = ap (member set) is ∙ parts.1 }

pair_served : {q e t : ℕ} {h : List Entry} → Posted (PairEntry q e t) h → Served h q e t
pair_served (here p) = here (by_pair p)
pair_served (there s) = there (pair_served s)

-- the READ of the round that is open
pub read_posted : {w : World} {c round epoch operation : ℕ} → AskedRule w c round epoch operation → Posted (ReadEntry c round epoch) (history w.hall)
read_posted {c = c} {round = round} {epoch = epoch} r = subst (Posted (ReadEntry c round epoch)) (sym r.splits) (somewhere_grows (beneath_append r.newer (r.read ∷ r.older)) (here r.asked))

-- a set with a member is not empty
pub not_empty : (s n : ℕ) → member s n ≡ true → s ≡ 0 → ⊥
not_empty s n m z = both_ways (member 0 n) (none_in_empty n) (ap (λ x. member x n) (sym z) ∙ m)

-- an entry is justified by what lay in the history when it was posted
pub record PostedWell (v : Views) (x : Entry) (h : List Entry) : Type 0 where
  pub below : List Entry
  pub beneath : Beneath below h
  pub justified : Justified v x below

posted_good : {v : Views} (h : Hall) (n : ℕ) → n < length h.post.list → Good v (history h) → PostedWell v (entry_of h n) (history h)
posted_good {v} h n lt good =
    let f = found (posted_entry h n lt) good in
    record { below = f.below; beneath = beneath_rest f.place; justified = subst (λ y. Justified v y f.below) f.seen f.ruled }

-- the highest of the pair heard so far, if there is one, and of a new one
pub record Merged (kind : ℕ) (w : World) (counted : ℕ) (highest pair kept : Pair) (agree now : Bool) : Type 0 where
  pub first : stamp_number pair ≤ stamp_number kept
  pub second : (counted ≡ 0 → ⊥) → stamp_number highest ≤ stamp_number kept
  pub known : KnownPair w.hall kept
  pub genuine : Genuine kind w kept
  pub agree_first : now ≡ true → stamp_number pair ≡ stamp_number kept
  pub agree_second : now ≡ true → (counted ≡ 0 → ⊥) → stamp_number highest ≡ stamp_number kept
  pub agreed : now ≡ true → (counted ≡ 0 → ⊥) → agree ≡ true

module _ {kind : ℕ} {sealed : List Text} {w : World} (holds : Holds kind sealed w) where
  merged : (counted : ℕ) (highest pair : Pair) (agree : Bool) → KnownPair w.hall pair → Genuine kind w pair
      → ((counted ≡ 0 → ⊥) → KnownPair w.hall highest) → ((counted ≡ 0 → ⊥) → Genuine kind w highest)
      → (none higher : Bool) → eqb counted 0 ≡ none → above pair.stamp highest.stamp ≡ higher
      → Merged kind w counted highest pair (cond none pair (cond higher pair highest)) agree (cond none true (agree && same_stamp pair.stamp highest.stamp))
  merged counted highest pair agree known genuine known_old genuine_old true higher is order = record {
    first = omega arith;
    second = λ some. absurd (some (eqb-true counted 0 is));
    known = known;
    genuine = genuine;
    agree_first = λ e. refl;
    agree_second = λ e some. absurd (some (eqb-true counted 0 is));
    agreed = λ e some. absurd (some (eqb-true counted 0 is));
  }
  merged counted highest pair agree known genuine known_old genuine_old false true is order =
      let low : stamp_number highest < stamp_number pair = above_higher pair highest (known_writer kind sealed w holds pair known) (known_writer kind sealed w holds highest (known_old (eqb-false counted 0 is))) order in record {
        first = omega arith;
        second = λ some. omega arith;
        known = known;
        genuine = genuine;
        agree_first = λ e. refl;
        agree_second = λ e some. sym (same_number pair highest (and_parts agree (same_stamp pair.stamp highest.stamp) e).1);
        agreed = λ e some. (and_parts agree (same_stamp pair.stamp highest.stamp) e).0;
      }
  merged counted highest pair agree known genuine known_old genuine_old false false is order =
      let some = eqb-false counted 0 is in record {
        first = not_above pair highest (known_writer kind sealed w holds pair known) (known_writer kind sealed w holds highest (known_old some)) order;
        second = λ s. omega arith;
        known = known_old some;
        genuine = genuine_old some;
        agree_first = λ e. same_number pair highest (and_parts agree (same_stamp pair.stamp highest.stamp) e).1;
        agree_second = λ e s. refl;
        agreed = λ e s. (and_parts agree (same_stamp pair.stamp highest.stamp) e).0;
      }

  -- an honest replica that answers the READ of a round, or its WRITE, does so in the epoch of that round
  module _ (n : ℕ) (lt : n < length w.hall.post.list) {q c r : ℕ} (from : (entry_of w.hall n).sender ≡ 100 + q) (to : (entry_of w.hall n).addressee ≡ c) (in_round : (entry_of w.hall n).round ≡ r) (honest : Honest (views w.hall) q) where
    -- and the READ or the WRITE of that round was posted before
    pub was_read : (entry_of w.hall n).kind ≡ 4 → Posted (ReadEntry c r (entry_of w.hall n).epoch) (history w.hall)
    was_read kind_is =
        let x = entry_of w.hall n in
        let there = posted_good w.hall n lt holds.good in
        let rule = there.justified.pair {q = q} {e = x.epoch} {s = stamp_number (pair_of x)} (record { sender = from; kind = kind_is; epoch = refl; stamp = refl }) honest in
        subst₂ (λ d m. Posted (ReadEntry d m x.epoch) (history w.hall)) to in_round (somewhere_grows there.beneath rule.asked)

    pub was_written : (entry_of w.hall n).kind ≡ 5 → (s : ℕ) × Posted (WriteEntry c r (entry_of w.hall n).epoch s) (history w.hall)
    was_written kind_is =
        let x = entry_of w.hall n in
        let there = posted_good w.hall n lt holds.good in
        let rule = there.justified.ack {q = q} {e = x.epoch} {c = c} {r = r} (record { sender = from; kind = kind_is; addressee = to; round = in_round; epoch = refl }) honest in
        (rule.written, somewhere_grows there.beneath rule.asked)

    pub pair_epoch : {e : ℕ} → (entry_of w.hall n).kind ≡ 4 → Posted (ReadEntry c r e) (history w.hall) → (entry_of w.hall n).epoch ≡ e
    pair_epoch kind_is asked =
        let x = entry_of w.hall n in
        let there = posted_good w.hall n lt holds.good in
        let rule = there.justified.pair {q = q} {e = x.epoch} {s = stamp_number (pair_of x)} (record { sender = from; kind = kind_is; epoch = refl; stamp = refl }) honest in
        one_read holds.good (subst₂ (λ d m. Posted (ReadEntry d m x.epoch) (history w.hall)) to in_round (somewhere_grows there.beneath rule.asked)) asked

    pub ack_epoch : {e s : ℕ} → (entry_of w.hall n).kind ≡ 5 → Posted (WriteEntry c r e s) (history w.hall) → (entry_of w.hall n).epoch ≡ e
    ack_epoch kind_is asked =
        let x = entry_of w.hall n in
        let there = posted_good w.hall n lt holds.good in
        let rule = there.justified.ack {q = q} {e = x.epoch} {c = c} {r = r} (record { sender = from; kind = kind_is; addressee = to; round = in_round; epoch = refl }) honest in
        (one_write holds.good (somewhere_grows there.beneath rule.asked) asked).epochs

  module _ (small : kind ≤ 63) (unforged : UnforgedNow kind sealed w) (n : ℕ) (lt : n < length w.hall.post.list) (c : ℕ) (to : (entry_of w.hall n).addressee ≡ c) (seat : Seat) (from : Replica) where
    -- a PAIR is heard
    module _ (h : Hears seat.line (entry_of w.hall n) (genuine_entry w.hall.rules kind w.genuine (entry_of w.hall n)) from) (r : ReadingRule kind w c seat.line seat.operation) where
      by : SentBy seat.line.configuration.set.0 (entry_of w.hall n).sender from
      by = sent_by seat.line.configuration.set.0 (entry_of w.hall n).sender from h.inside

      pair_genuine : Genuine kind w (pair_of (entry_of w.hall n))
      pair_genuine = subst (λ k. genuine_by_kind (kind_of k) w.hall.rules kind w.genuine (entry_of w.hall n) ≡ true) h.kind h.checks

      pair_known : KnownPair w.hall (pair_of (entry_of w.hall n))
      pair_known = checked_pair kind sealed w small holds unforged n lt (ap (λ k. text_by_kind (kind_of k) kind (entry_of w.hall n)) h.kind) pair_genuine

      pair_posted : Honest (views w.hall) from.number → Posted (PairTo from.number seat.line.configuration.epoch (stamp_number (pair_of (entry_of w.hall n))) c seat.line.round) (history w.hall)
      pair_posted honest = posted_as w.hall n lt (record {
        pair = record { sender = by.number; kind = h.kind; epoch = pair_epoch n lt by.number to h.round honest h.kind (read_posted r.read_asked); stamp = refl };
        addressee = to;
        round = h.round;
      })

      pair_answers : Honest (views w.hall) from.number → Posted (PairEntry from.number seat.line.configuration.epoch (stamp_number (pair_of (entry_of w.hall n)))) r.newer
      pair_answers honest = posted_map (λ y a. a.pair)
          (answer_above r.asked honest r.newer r.older (subst (Good (views w.hall)) r.splits holds.good)
          (subst (Posted (PairTo from.number seat.line.configuration.epoch (stamp_number (pair_of (entry_of w.hall n))) c seat.line.round)) r.splits (pair_posted honest)))

      both_pairs : Merged kind w seat.line.counted.0 seat.line.highest (pair_of (entry_of w.hall n)) (heard seat.line (entry_of w.hall n) from).highest seat.line.agree (heard seat.line (entry_of w.hall n) from).agree
      both_pairs = merged seat.line.counted.0 seat.line.highest (pair_of (entry_of w.hall n)) seat.line.agree pair_known pair_genuine r.highest r.genuine (eqb seat.line.counted.0 0) (above (pair_of (entry_of w.hall n)).stamp seat.line.highest.stamp) refl refl

      pub heard_reading : ReadingRule kind w c (heard seat.line (entry_of w.hall n) from) seat.operation
      heard_reading = record {
        read_asked = r.read_asked;
        answered = λ q m honest. ⊎_elim
            (λ e. subst (λ x. Answered r.newer x seat.line.configuration.epoch top) (sym e)
            (record { stamp = stamp_number (pair_of (entry_of w.hall n)); low = both_pairs.first; pair = pair_answers (subst (Honest (views w.hall)) e honest) }))
            (λ old. let a = r.answered q old honest in record { stamp = a.stamp; low = under q old a.low; pair = a.pair })
            (inserted_cases seat.line.counted.0 from.number q m);
        agreed = λ now q m honest. ⊎_elim
            (λ e. subst (λ x. Served (history w.hall) x seat.line.configuration.epoch top) (sym e)
            (subst (Served (history w.hall) from.number seat.line.configuration.epoch) (both_pairs.agree_first now)
            (pair_served (posted_map (λ y a. a.pair) (pair_posted (subst (Honest (views w.hall)) e honest))))))
            (λ old. let some = not_empty seat.line.counted.0 q old in
            subst (Served (history w.hall) q seat.line.configuration.epoch) (both_pairs.agree_second now some) (r.agreed (both_pairs.agreed now some) q old honest))
            (inserted_cases seat.line.counted.0 from.number q m);
        highest = λ some. both_pairs.known;
        genuine = λ some. both_pairs.genuine;
      }
        where
          top : ℕ
          top = stamp_number (heard seat.line (entry_of w.hall n) from).highest

          under : (q : ℕ) {s : ℕ} → member seat.line.counted.0 q ≡ true → s ≤ stamp_number seat.line.highest → s ≤ stamp_number (heard seat.line (entry_of w.hall n) from).highest
          under q old le = omega (arith, both_pairs.second (not_empty seat.line.counted.0 q old))

    -- an ACK is counted
    module _ {writes : Bool} (h : Acked seat.line (entry_of w.hall n) from) (r : SendingRule kind w c seat.line seat.operation writes) where
      ack_by : SentBy seat.line.configuration.set.0 (entry_of w.hall n).sender from
      ack_by = sent_by seat.line.configuration.set.0 (entry_of w.hall n).sender from h.inside

      ack_posted : Honest (views w.hall) from.number → Posted (AckEntry from.number seat.line.configuration.epoch c seat.line.round) (history w.hall)
      ack_posted honest = posted_as w.hall n lt (record {
        sender = ack_by.number;
        kind = h.kind;
        addressee = to;
        round = h.round;
        epoch = ack_epoch n lt ack_by.number to h.round honest h.kind r.asked;
      })

      pub counted_sending : SendingRule kind w c (counting seat.line from) seat.operation writes
      counted_sending = record {
        asked = r.asked;
        served = λ q m honest. ⊎_elim
            (λ e. subst (λ x. Served (history w.hall) x seat.line.configuration.epoch (stamp_number seat.line.highest)) (sym e)
            (let trusted = subst (Honest (views w.hall)) e honest in acked_served holds.good trusted (ack_posted trusted) r.asked))
            (λ old. r.served q old honest)
            (inserted_cases seat.line.counted.0 from.number q m);
        genuine = r.genuine;
        ends_with = r.ends_with;
      }
