-- The step of a client keeps every rule.
-- The entry that is handed over stands in the post, and the post has room.
use Rattle.std.proofs.Common.{◌≡◌, ℕ, ◌+◌, ◌<◌, ◌≤◌, Bool, true, false, cond, not, ◌&&◌, eqb, List, ◌∷◌, length, set, Some, None, Ok, Err, Option, Result, sym, refl, ap, ◌∙◌, subst, ⊎_elim, arith, subst₂}
use lib.Seq.{set-get_or}
use Rattle.std.proofs.lemmas.Bool.{and_parts, eqb-true, ne_eqb}
use Rattle.kinds.specs.declared.word.Word.{Word}
use Rattle.wire.specs.declared.entry.Entry.{Entry}
use Rattle.wire.specs.declared.pair.Seal.{Seal}
use Rattle.wire.specs.declared.text.Text.{Text}
use Rattle.wire.specs.Entries.{kind_of}
use Rattle.wire.specs.Texts.{pair_text}
use Rattle.wire.specs.Parties.{Client, Replica}
use Rattle.sealers.specs.declared.fault.SealerFault.TheVariants.{NoSeal}
use Rattle.sealers.specs.Sealing.{spent, genuine_then}
use Rattle.rules.specs.Genuine.{genuine_entry}
use Rattle.rules.specs.Posts.{config_entry}
use Rattle.sealers.proofs.Sealing.{remains, given_genuine}
use Rattle.clients.specs.declared.fault.ClientFault.{ClientFault}
use Rattle.clients.specs.declared.line.Line.{Line}
use Rattle.clients.specs.declared.line.Stage.TheVariants.{Writing, WritingBack}
use Rattle.clients.specs.declared.turn.Turn.{Turn}
use Rattle.clients.specs.Lines.{is_idle, ended, counting, sealed_with as with_seal}
use Rattle.clients.specs.Steps.{Stepped, acted, signing}
use Rattle.clients.specs.Turns.{Verdict, decided, is_quorum, read_of, write_of}
use Rattle.halls.specs.declared.operation.Operation.{Operation}
use Rattle.halls.specs.declared.seat.Seat.{Seat}
use Rattle.model.specs.Tables.{is_full}
use Rattle.model.specs.Halls.{World, no_operation, seat_of, operation_of, desk_of}
use Rattle.model.specs.Answers.{has_moment}
use Rattle.model.specs.Delivering.{entry_of, fits_client, client_moves, client_step_of, has_ended, is_over, is_stamping, is_replica_number, logged, moment_after}
use Rattle.model.proofs.ClientAsks.{keeps_reread, keeps_rewrite, keeps_back}
use Rattle.model.proofs.ClientEnds.{ended_op, ends_keeps, ending_read, ending_write}
use Rattle.model.proofs.ClientMoves.{ClientMove, Hears, Acked, heard, backward, forward, moved_on, reread, rewritten, client_view}
use Rattle.model.proofs.ClientMoves.ClientMove.{counts_pair, ends_read, writes_back, takes_stamp, counts_ack, ends_write, goes_on, reads_again, writes_again, replies}
use Rattle.model.proofs.ClientStamps.{stamped_op, stamping, stamps_keep}
use Rattle.model.proofs.ClientSteps.{client_low, keeps_pair, keeps_ack, keeps_config, keeps_reply, known_handed}
use Rattle.model.proofs.Closing.{found_ends, pair_closes}
use Rattle.model.proofs.Invariants.{SeatRule, Holds, UnforgedNow}
use Rattle.model.proofs.Moved.{moved, stepped}
use Rattle.model.proofs.Tables.{table_after, posting_is}
use Rattle.model.proofs.Seats.{with_line}
use Rattle.model.proofs.StageTests.{writing_cases, same_over, same_stamping, not_to_reading}

-- one more sealed text, if there is one
abbrev pub sealed_with : Option Text → List Text → List Text
sealed_with None sealed = sealed
sealed_with (Some t) sealed = t ∷ sealed

-- the world after a step of client c
abbrev pub client_world : World → ℕ → Line → Option Entry → (ℕ → ℕ) → (Text → Seal → Bool) → World
client_world w c line post seals genuine = record w { hall = client_moves w.hall c (seat_of w.hall c) line post seals; genuine = genuine }

-- what is to be proved of a step that leaves this line, this entry to post and these seals, and has sealed this text or none
abbrev Kept : ℕ → List Text → World → Seal → ℕ → Line → Option Entry → (ℕ → ℕ) → Option Text → Type 0
Kept kind sealed w given c line post seals text =
    (genuine : Text → Seal → Bool) → genuine ≡ genuine_then (desk_of w) text given
    → Holds kind (sealed_with text sealed) (client_world w c line post seals genuine)

abbrev KeptBy : ℕ → List Text → World → Seal → ℕ → Result (Option Entry) ClientFault → Line → (ℕ → ℕ) → Option Text → Type 0
KeptBy kind sealed w given c (Ok post) line seals text = Kept kind sealed w given c line post seals text
KeptBy kind sealed w given c (Err fault) line seals text = Unit {0}

abbrev KeptAfter : ℕ → List Text → World → Seal → ℕ → Stepped → Type 0
KeptAfter kind sealed w given c s = KeptBy kind sealed w given c s.answer s.line s.seals s.sealed

module _ (w : World) (c : ℕ) (line : Line) where
  abbrev seat : Seat
  seat = seat_of w.hall c

  -- the world that the step leaves, with this operation in the log, at this moment
  abbrev left_world : Operation → ℕ → Option Entry → (ℕ → ℕ) → (Text → Seal → Bool) → World
  left_world op moment post seals genuine = moved w c (with_line seat line) (set w.hall.log.list seat.operation op) moment (table_after w.hall.post post) seals genuine

  world_is : (post : Option Entry) (seals : ℕ → ℕ) (genuine : Text → Seal → Bool) (op : Operation) (moment : ℕ)
      → logged (operation_of w.hall seat.operation) seat.line line (w.hall.moment + 1) ≡ op → moment_after w.hall.moment seat.line line ≡ moment
      → client_world w c line post seals genuine ≡ left_world op moment post seals genuine
  world_is post seals genuine op moment is at =
      ap (λ h. record w { hall = h; genuine = genuine }) (posting_is _ post)
      ∙ ap (λ x. left_world x (moment_after w.hall.moment seat.line line) post seals genuine) is
      ∙ ap (λ m. left_world op m post seals genuine) at

  module _ (kind : ℕ) (sealed : List Text) (given : Seal) (post : Option Entry) where
    -- a step that seals this text, or none
    kept_by : (text : Option Text) (seals : ℕ → ℕ) (op : Operation) (moment : ℕ)
        → logged (operation_of w.hall seat.operation) seat.line line (w.hall.moment + 1) ≡ op → moment_after w.hall.moment seat.line line ≡ moment
        → ((genuine : Text → Seal → Bool) → genuine ≡ genuine_then (desk_of w) text given → Holds kind (sealed_with text sealed) (left_world op moment post seals genuine))
        → Kept kind sealed w given c line post seals text
    kept_by text seals op moment is at held genuine grows =
        subst (Holds kind (sealed_with text sealed)) (sym (world_is post seals genuine op moment is at)) (held genuine grows)

    -- the log stays as it is, and nothing is sealed
    quiet_kept : has_ended seat.line line ≡ false → is_stamping seat.line.stage line.stage ≡ false
        → Holds kind sealed (stepped w c (with_line seat line) (table_after w.hall.post post))
        → Kept kind sealed w given c line post w.hall.seals None
    quiet_kept going unstamped held =
        kept_by None w.hall.seals (operation_of w.hall seat.operation) w.hall.moment (rw (going, unstamped) refl) (rw going refl)
        (λ genuine same. subst₂ (λ ops g. Holds kind sealed (moved w c (with_line seat line) ops w.hall.moment (table_after w.hall.post post) w.hall.seals g))
        (sym (set-get_or w.hall.log.list seat.operation no_operation)) (sym same) held)

    -- the operation ends
    ends_kept : has_ended seat.line line ≡ true
        → Holds kind sealed (left_world (ended_op w seat line) (w.hall.moment + 1) post w.hall.seals w.genuine)
        → Kept kind sealed w given c line post w.hall.seals None
    ends_kept ends held =
        kept_by None w.hall.seals (ended_op w seat line) (w.hall.moment + 1) (rw ends refl) (rw ends refl)
        (λ genuine same. subst (λ g. Holds kind sealed (left_world (ended_op w seat line) (w.hall.moment + 1) post w.hall.seals g)) (sym same) held)

    -- the operation takes its stamp
    stamps_kept : (seals : ℕ → ℕ) → has_ended seat.line line ≡ false → is_stamping seat.line.stage line.stage ≡ true
        → ((genuine : Text → Seal → Bool) → genuine ≡ genuine_then (desk_of w) (Some (pair_text kind line.highest)) given
        → Holds kind (pair_text kind line.highest ∷ sealed) (left_world (stamped_op w seat line) w.hall.moment post seals genuine))
        → Kept kind sealed w given c line post seals (Some (pair_text kind line.highest))
    stamps_kept seals going stamps = kept_by (Some (pair_text kind line.highest)) seals (stamped_op w seat line) w.hall.moment (rw (going, stamps) refl) (rw going refl)

-- PAIR and ACK go to the client addressed
addressed : (e : Entry) (client : Client) (k : ℕ) → e.kind ≡ k → fits_client (kind_of k) e client ≡ (is_replica_number e.sender && eqb e.addressee client.number)
    → fits_client (kind_of e.kind) e client ≡ true → e.addressee ≡ client.number
addressed e client k is by fits =
    eqb-true e.addressee client.number (and_parts (is_replica_number e.sender) (eqb e.addressee client.number) (sym by ∙ subst (λ m. fits_client (kind_of m) e client ≡ true) is fits)).1

-- the line of a client, what is said of the entry that is handed over, and what is to be proved of a turn
abbrev line_of : World → Client → Line
line_of w client = (seat_of w.hall client.number).line

abbrev checked : ℕ → World → ℕ → Bool
checked kind w n = genuine_entry w.hall.rules kind w.genuine (entry_of w.hall n)

abbrev KeptTurn : ℕ → List Text → World → Seal → Client → Turn → Type 0
KeptTurn kind sealed w given client turn = KeptAfter kind sealed w given client.number (acted (Ok turn) kind w.hall.seals given client (line_of w client))

module _ {kind : ℕ} {sealed : List Text} {w : World} (given : Seal) (holds : Holds kind sealed w) (small : kind ≤ 63) (unforged : UnforgedNow kind sealed w)
    (n : ℕ) (lt : n < length w.hall.post.list) (client : Client) (within : client.number ≤ w.hall.rules.clients)
    (room : is_full w.hall.post ≡ false) (fits : fits_client (kind_of (entry_of w.hall n).kind) (entry_of w.hall n) client ≡ true) where
  own_rule : SeatRule kind w client.number (seat_of w.hall client.number)
  own_rule = holds.seats client.number (client_low client) within

  pair_to : {from : Replica} → Hears (line_of w client) (entry_of w.hall n) (checked kind w n) from → (entry_of w.hall n).addressee ≡ client.number
  pair_to h = addressed (entry_of w.hall n) client 4 h.kind refl fits

  ack_to : {from : Replica} → Acked (line_of w client) (entry_of w.hall n) from → (entry_of w.hall n).addressee ≡ client.number
  ack_to h = addressed (entry_of w.hall n) client 5 h.kind refl fits

  -- without a seal nothing happens
  sealing : (empty : Bool) (from : Replica) (word : Word) → Hears (line_of w client) (entry_of w.hall n) (checked kind w n) from
      → is_quorum w.hall.rules (heard (line_of w client) (entry_of w.hall n) from) ≡ true → (line_of w client).word ≡ Some word
      → KeptAfter kind sealed w given client.number
      (signing (cond empty (record { answer = Err (NoSeal client.number); seals = w.hall.seals })
      (record { answer = Ok given; seals = spent w.hall.seals client.number }))
      (pair_text kind (forward client (heard (line_of w client) (entry_of w.hall n) from) word).highest)
      client (line_of w client) (forward client (heard (line_of w client) (entry_of w.hall n) from) word))
  sealing true from word h large is = tt
  sealing false from word h large is =
      let line = with_seal (forward client (heard (line_of w client) (entry_of w.hall n) from) word) given in
      stamps_kept w client.number line kind sealed given (Some (write_of client line)) (spent w.hall.seals client.number) refl (ap (λ s. is_stamping s Writing) h.stage)
      (λ genuine grows. stamps_keep holds client within (seat_of w.hall client.number) own_rule room word line.highest
      (stamping holds client within (seat_of w.hall client.number) own_rule small unforged n lt (pair_to h) from word given h large is)
      (spent w.hall.seals client.number) genuine (remains (desk_of w) (pair_text kind line.highest) given genuine grows) (given_genuine (desk_of w) (pair_text kind line.highest) given genuine grows) enough)
    where
      enough : (d : ℕ) → (d ≡ client.number → ⊥) → w.hall.seals d ≤ spent w.hall.seals client.number d
      enough d ne = rw (ne_eqb d client.number ne) (omega arith)

  by_move : (turn : Turn) → ClientMove w.hall.rules client (line_of w client) (entry_of w.hall n) (checked kind w n) turn → KeptTurn kind sealed w given client turn
  by_move turn (counts_pair from h few is) = subst (KeptTurn kind sealed w given client) (sym is)
      (quiet_kept w client.number (heard (line_of w client) (entry_of w.hall n) from) kind sealed given None (same_over (line_of w client).stage) (same_stamping (line_of w client).stage)
      (keeps_pair holds small unforged n lt client within (seat_of w.hall client.number) own_rule (pair_to h) from h few))
  by_move turn (ends_read from h large reads agree is) = subst (KeptTurn kind sealed w given client) (sym is)
      (ends_kept w client.number (ended (heard (line_of w client) (entry_of w.hall n) from)) kind sealed given None (ap (λ s. not (is_over s)) h.stage)
      (let line = heard (line_of w client) (entry_of w.hall n) from in
      ends_keeps holds client within (seat_of w.hall client.number) own_rule line.counted line.highest line.agree
      (ending_read holds client within (seat_of w.hall client.number) own_rule small unforged n lt (pair_to h) from h large reads agree)))
  by_move turn (writes_back from h large reads is) = subst (KeptTurn kind sealed w given client) (sym is)
      (let line = backward (heard (line_of w client) (entry_of w.hall n) from) in
      let f = pair_closes holds small unforged n lt client.number (pair_to h) (seat_of w.hall client.number) own_rule from h large in
      quiet_kept w client.number line kind sealed given (Some (write_of client line)) refl (ap (λ s. is_stamping s WritingBack) h.stage)
      (keeps_back holds client within (seat_of w.hall client.number) own_rule room line.highest h.stage f.genuine (found_ends f ((own_rule.own (ap is_idle h.stage)).reads reads))))
  by_move turn (takes_stamp from word h large to_write is) = subst (KeptTurn kind sealed w given client) (sym is) (sealing (eqb (w.hall.seals client.number) 0) from word h large to_write)
  by_move turn (counts_ack from h few is) = subst (KeptTurn kind sealed w given client) (sym is)
      (quiet_kept w client.number (counting (line_of w client) from) kind sealed given None (same_over (line_of w client).stage) (same_stamping (line_of w client).stage)
      (keeps_ack holds small unforged n lt client within (seat_of w.hall client.number) own_rule (ack_to h) from h few))
  by_move turn (ends_write from h large is) = subst (KeptTurn kind sealed w given client) (sym is)
      (ends_kept w client.number (ended (counting (line_of w client) from)) kind sealed given None
      (⊎_elim (ap (λ s. not (is_over s))) (ap (λ s. not (is_over s))) (writing_cases (line_of w client).stage h.stage))
      (let line = counting (line_of w client) from in
      ends_keeps holds client within (seat_of w.hall client.number) own_rule line.counted line.highest line.agree
      (ending_write holds client within (seat_of w.hall client.number) own_rule small unforged n lt (ack_to h) from h large)))
  by_move turn (goes_on h closed is) = subst (KeptTurn kind sealed w given client) (sym is)
      (quiet_kept w client.number (moved_on (line_of w client) (entry_of w.hall n)) kind sealed given None (same_over (line_of w client).stage) (same_stamping (line_of w client).stage)
      (keeps_config holds small unforged n lt client within (seat_of w.hall client.number) own_rule h closed))
  by_move turn (reads_again h at is) = subst (KeptTurn kind sealed w given client) (sym is)
      (let line = reread (moved_on (line_of w client) (entry_of w.hall n)) in
      quiet_kept w client.number line kind sealed given (Some (read_of client line)) refl (not_to_reading (line_of w client).stage)
      (keeps_reread holds client within (seat_of w.hall client.number) own_rule room line.configuration
      (known_handed holds small unforged n lt client within (seat_of w.hall client.number) own_rule h) at))
  by_move turn (writes_again h at is) = subst (KeptTurn kind sealed w given client) (sym is)
      (let line = rewritten (moved_on (line_of w client) (entry_of w.hall n)) in
      quiet_kept w client.number line kind sealed given (Some (write_of client line)) refl (ap (λ s. is_stamping s Writing) at)
      (keeps_rewrite holds client within (seat_of w.hall client.number) own_rule room line.configuration
      (known_handed holds small unforged n lt client within (seat_of w.hall client.number) own_rule h) at))
  by_move turn (replies k is) = subst (KeptTurn kind sealed w given client) (sym is)
      (quiet_kept w client.number (line_of w client) kind sealed given (Some (config_entry client.number (line_of w client).configuration)) (same_over (line_of w client).stage) (same_stamping (line_of w client).stage)
      (keeps_reply holds small unforged n lt client within (seat_of w.hall client.number) own_rule room))

  by_verdict : (v : Verdict) → decided w.hall.rules client (line_of w client) (entry_of w.hall n) (checked kind w n) ≡ v
      → KeptAfter kind sealed w given client.number (acted v kind w.hall.seals given client (line_of w client))
  by_verdict (Err why) is = tt
  by_verdict (Ok turn) is = by_move turn (client_view w.hall.rules client (line_of w client) (entry_of w.hall n) (checked kind w n) turn is)

pub client_keeps : (kind : ℕ) (sealed : List Text) (w : World) (given : Seal) → kind ≤ 63 → Holds kind sealed w → UnforgedNow kind sealed w
    → (n : ℕ) → n < length w.hall.post.list
    → (client : Client) → client.number ≤ w.hall.rules.clients
    → is_full w.hall.post ≡ false → has_moment w.hall ≡ true
    → fits_client (kind_of (entry_of w.hall n).kind) (entry_of w.hall n) client ≡ true
    → (line : Line) (post : Option Entry) (seals : ℕ → ℕ) (text : Option Text)
    → client_step_of w given kind client (entry_of w.hall n) ≡ record { answer = Ok post; line = line; seals = seals; sealed = text }
    → (genuine : Text → Seal → Bool) → genuine ≡ genuine_then (desk_of w) text given
    → Holds kind (sealed_with text sealed) (client_world w client.number line post seals genuine)
client_keeps kind sealed w given small holds unforged n lt client within room moment fits line post seals text step genuine grows =
    subst (KeptAfter kind sealed w given client.number) step
    (by_verdict given holds small unforged n lt client within room fits (decided w.hall.rules client (line_of w client) (entry_of w.hall n) (checked kind w n)) refl)
    genuine grows
