-- The steps of a client that open a new round with READ or WRITE, the log as it was: reading again, writing again, writing back.
-- Each lemma builds the world that comes of one of its moves.
use Rattle.std.proofs.Common.{◌≡◌, ℕ, ◌+◌, ◌<◌, ◌≤◌, Bool, true, false, ◌⊎◌, List, [], ◌∷◌, ◌++◌, reverse, sym, refl, ap, ◌∙◌, subst, ⊎_elim, arith, length-append}
use mathlib.Core.List.{reverse-append}
use Rattle.std.proofs.lemmas.Bool.{both_ways}
use Rattle.wire.specs.declared.entry.Entry.{Entry}
use Rattle.wire.specs.declared.pair.Configuration.{Configuration}
use Rattle.wire.specs.declared.pair.Pair.{Pair}
use Rattle.wire.specs.declared.text.Text.{Text}
use Rattle.wire.specs.Sets.{member}
use Rattle.wire.specs.Parties.{Client}
use Rattle.clients.specs.declared.line.Line.{Line}
use Rattle.clients.specs.declared.line.Stage.{Stage}
use Rattle.clients.specs.declared.line.Stage.TheVariants.{Reading, Writing, WritingBack}
use Rattle.clients.specs.Lines.{no_pair, is_open, opened, configured_as}
use Rattle.clients.specs.Turns.{read_of, write_of}
use Rattle.quorums.proofs.Insertion.{none_in_empty, empty_within}
use Rattle.quorums.proofs.Sizes.{ones_empty}
use Rattle.histories.specs.Places.{Posted}
use Rattle.histories.specs.Places.Somewhere.{here}
use Rattle.histories.specs.Shapes.{ReadEntry, WriteEntry}
use Rattle.histories.specs.Histories.{Fresh}
use Rattle.histories.proofs.Posting.{justified_read, justified_write}
use Rattle.halls.specs.declared.seat.Seat.{Seat}
use Rattle.model.specs.Tables.{is_full, added}
use Rattle.model.specs.Halls.{Hall, World}
use Rattle.model.proofs.ClientSteps.{client_low, client_high}
use Rattle.model.proofs.Frames.{later_end_pair}
use Rattle.model.proofs.Invariants.{history, stamp_number, KnownConfiguration, Genuine, EndPair, SendingRule, SeatBase, SeatRule, Holds}
use Rattle.model.proofs.Moved.{Posting, posting_one, logging_none, stepped, later_stepped}
use Rattle.model.proofs.Seats.{with_line, base_moved, counts_kept, own_moved, step_keeps}
use Rattle.model.proofs.Stages.{in_stage, seat_in}
use Rattle.model.proofs.StageTests.{opens_busy}

-- no one is counted in a new round
pub none_counted : {P : Type 0} (n : ℕ) → member 0 n ≡ true → P
none_counted n m = absurd (both_ways (member 0 n) (none_in_empty n) m)

-- the line of a seat in a new round, with this pair in flight or none
abbrev pub asked_line : Seat → Configuration → Stage → Pair → Line
asked_line seat configuration stage pair = opened (configured_as seat.line configuration) stage (seat.line.round + 1) pair

abbrev pub asked_world : World → Client → Seat → Line → Entry → World
asked_world w client seat line x = stepped w client.number (with_line seat line) (added w.hall.post x)

module _ {kind : ℕ} {sealed : List Text} {w : World} (holds : Holds kind sealed w) (client : Client) (within : client.number ≤ w.hall.rules.clients)
    (seat : Seat) (r : SeatRule kind w client.number seat) where
  -- the next round is new
  fresh : Fresh (history w.hall) client.number (seat.line.round + 1)
  fresh = record { reads = λ p. under (r.reads p); writes = λ p. under (r.writes p) }
    where
      under : {k : ℕ} → k ≤ seat.line.round → k < seat.line.round + 1
      under le = omega arith

  -- READ and WRITE of the next round may be posted, in the configuration of this line
  module _ (room : is_full w.hall.post ≡ false) (line : Line) (up : line.round ≡ seat.line.round + 1) where
    read_shape : ReadEntry client.number line.round line.configuration.epoch (read_of client line)
    read_shape = record { client = client_high client; sender = refl; kind = refl; round = refl; epoch = refl }

    pub posting_read : Posting w client.number line.round (added w.hall.post (read_of client line))
    posting_read = posting_one client.number line.round (read_of client line) holds room (client_high client) refl (omega arith) (justified_read read_shape (subst (Fresh (history w.hall) client.number) (sym up) fresh))

    write_shape : WriteEntry client.number line.round line.configuration.epoch (stamp_number line.highest) (write_of client line)
    write_shape = record { client = client_high client; sender = refl; kind = refl; round = refl; epoch = refl; stamp = refl }

    pub posting_write : Posting w client.number line.round (added w.hall.post (write_of client line))
    posting_write = posting_one client.number line.round (write_of client line) holds room (client_high client) refl (omega arith) (justified_write write_shape (subst (Fresh (history w.hall) client.number) (sym up) fresh))

    -- the WRITE of the new round stands in the post
    pub write_posted : (h : Hall) → h.post.list ≡ w.hall.post.list ++ (write_of client line ∷ []) → Posted (WriteEntry client.number line.round line.configuration.epoch (stamp_number line.highest)) (history h)
    unfolding history
    write_posted h is =
        subst (Posted (WriteEntry client.number line.round line.configuration.epoch (stamp_number line.highest))) (sym (ap reverse is ∙ reverse-append w.hall.post.list (write_of client line ∷ []))) (here write_shape)

  -- what is the same after any such step
  module _ (configuration : Configuration) (stage : Stage) (pair : Pair) (known : KnownConfiguration w.hall configuration) (opens : is_open seat.line.stage ≡ true)
      (x : Entry) (p : Posting w client.number (seat.line.round + 1) (added w.hall.post x)) where
    base_asked : SeatBase (asked_world w client seat (asked_line seat configuration stage pair) x) client.number (asked_line seat configuration stage pair) seat.operation
    base_asked =
        let line = asked_line seat configuration stage pair in
        let own = r.own (opens_busy seat.line.stage opens) in
        base_moved line w.hall.seals w.genuine p (logging_none w client.number) (λ t s e. e) r known (omega arith)
        (simp length-append (omega (arith, r.round_low))) (simp length-append (omega (arith, r.count_low)))
        (counts_kept line w.hall.seals w.genuine p (logging_none w client.number) (λ t s e. e) r (omega arith) (λ j s. record { logged = s.logged; writes = s.writes; stamped = s.stamped }))
        (λ busy. own_moved line w.hall.seals w.genuine p (logging_none w client.number) (λ t s e. e) r own refl own.word)
        (λ o. record { unended = (r.opens opens).unended; within = empty_within configuration.set.0; few = omega (arith, ones_empty) })

  module _ (room : is_full w.hall.post ≡ false) where
    -- a WRITE of a genuine pair is sent in the next round
    sends : {writes : Bool} (configuration : Configuration) (stage : Stage) (pair : Pair) → is_open seat.line.stage ≡ true → Genuine kind w pair → EndPair w pair seat.operation writes
        → SendingRule kind (asked_world w client seat (asked_line seat configuration stage pair) (write_of client (asked_line seat configuration stage pair))) client.number (asked_line seat configuration stage pair) seat.operation writes
    sends configuration stage pair opens genuine found =
        let line = asked_line seat configuration stage pair in
        let logged = (r.own (opens_busy seat.line.stage opens)).logged in
        record {
          asked = write_posted room line refl (asked_world w client seat line (write_of client line)).hall refl;
          served = λ n m honest. none_counted n m;
          genuine = genuine;
          ends_with = later_end_pair (later_stepped (with_line seat line) (posting_write room line refl)) seat.operation refl logged
              (holds.log.each seat.operation logged).began_by found;
        }

    -- the read or write reads again
    pub keeps_reread : (configuration : Configuration) → KnownConfiguration w.hall configuration → (seat.line.stage ≡ Reading) ⊎ (seat.line.stage ≡ WritingBack)
        → Holds kind sealed (asked_world w client seat (asked_line seat configuration Reading no_pair) (read_of client (asked_line seat configuration Reading no_pair)))
    unfolding history
    keeps_reread configuration known at =
        let line = asked_line seat configuration Reading no_pair in
        step_keeps holds (client_low client) within (with_line seat line) (posting_read room line refl)
        (seat_in (base_asked configuration Reading no_pair known (⊎_elim (ap is_open) (ap is_open) at) (read_of client line) (posting_read room line refl)) refl
        (record {
          read_asked = record {
            newer = [];
            read = read_of client line;
            older = history w.hall;
            splits = reverse-append w.hall.post.list (read_of client line ∷ []);
            asked = read_shape room line refl;
            before = λ k o. (holds.log.each k o.logged).settled o.over;
            unstamped = ⊎_elim (λ a. (in_stage {s = Reading} r a).unstamped) (λ a e. absurd (both_ways true (sym e ∙ (in_stage {s = WritingBack} r a).writes_is) refl)) at;
            seal_left = ⊎_elim (λ a. (in_stage {s = Reading} r a).seal_left) (λ a e. absurd (both_ways true (sym e ∙ (in_stage {s = WritingBack} r a).writes_is) refl)) at;
          };
          answered = λ n m honest. none_counted n m;
          agreed = λ agree n m honest. none_counted n m;
          highest = λ some. absurd (some refl);
          genuine = λ some. absurd (some refl);
        }))

    -- the write sends its pair again
    pub keeps_rewrite : (configuration : Configuration) → KnownConfiguration w.hall configuration → seat.line.stage ≡ Writing
        → Holds kind sealed (asked_world w client seat (asked_line seat configuration Writing seat.line.highest) (write_of client (asked_line seat configuration Writing seat.line.highest)))
    keeps_rewrite configuration known at =
        let line = asked_line seat configuration Writing seat.line.highest in
        step_keeps holds (client_low client) within (with_line seat line) (posting_write room line refl)
        (seat_in (base_asked configuration Writing seat.line.highest known (ap is_open at) (write_of client line) (posting_write room line refl)) refl
        (sends configuration Writing seat.line.highest (ap is_open at) (in_stage r at).genuine (in_stage r at).ends_with))

    -- the read writes back what it has found
    pub keeps_back : (pair : Pair) → seat.line.stage ≡ Reading → Genuine kind w pair → EndPair w pair seat.operation false
        → Holds kind sealed (asked_world w client seat (asked_line seat seat.line.configuration WritingBack pair) (write_of client (asked_line seat seat.line.configuration WritingBack pair)))
    keeps_back pair at genuine found =
        let line = asked_line seat seat.line.configuration WritingBack pair in
        step_keeps holds (client_low client) within (with_line seat line) (posting_write room line refl)
        (seat_in (base_asked seat.line.configuration WritingBack pair r.configuration (ap is_open at) (write_of client line) (posting_write room line refl)) refl
        (sends seat.line.configuration WritingBack pair (ap is_open at) genuine found))
