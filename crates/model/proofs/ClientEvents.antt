-- What a step of a client does to its line of the log: nothing, or it takes its stamp, or it ends.
-- Told from the moves of a client, in a world that meets the rules.
use Rattle.std.proofs.Common.{◌≡◌, ℕ, Bool, true, false, not, ◌&&◌, eqb, ◌⊎◌, Ok, Err, Option, sym, refl, ap, ◌∙◌, subst, subst₂, inl, inr}
use borrow.Author.Tests.{clash}
use Rattle.wire.specs.declared.entry.Entry.{Entry}
use Rattle.wire.specs.declared.pair.Seal.{Seal}
use Rattle.wire.specs.declared.text.Text.{Text}
use Rattle.wire.specs.Texts.{pair_text}
use Rattle.wire.specs.Parties.{Client}
use Rattle.rules.specs.declared.rules.Rules.{Rules}
use Rattle.rules.specs.Genuine.{genuine_entry}
use Rattle.clients.specs.declared.line.Line.{Line}
use Rattle.clients.specs.declared.line.Stage.TheVariants.{Reading, Writing, WritingBack, Over}
use Rattle.clients.specs.declared.turn.Turn.{Turn}
use Rattle.clients.specs.declared.turn.Turn.TheVariants.{Moves, Stamps}
use Rattle.clients.specs.Lines.{is_open, is_writing, sealed_with}
use Rattle.clients.specs.Steps.{acted, signing}
use Rattle.clients.specs.Turns.{Verdict, decided}
use Rattle.halls.specs.declared.operation.Operation.{Operation}
use Rattle.halls.specs.declared.seat.Seat.{Seat}
use Rattle.model.specs.Halls.{World, seat_of, operation_of}
use Rattle.model.specs.Delivering.{client_step_of, is_over, is_stamping, has_ended}
use Rattle.model.proofs.Invariants.{SeatRule}
use Rattle.model.proofs.Stages.{in_stage}
use Rattle.model.proofs.ClientMoves.{ClientMove, counts_pair, ends_read, writes_back, takes_stamp, counts_ack, ends_write, goes_on, reads_again, writes_again, replies, client_view}
use Rattle.model.proofs.Ways.{way_in, not_ok, ok_same}
use Rattle.model.proofs.StageTests.{same_over, same_stamping, not_to_reading, not_to_back, opens_not_over, writing_cases, writing_opens, opens_busy}

-- the turn of a client's step, and the line that came of it
pub data Turned (rules : Rules) (client : Client) (before : Line) (e : Entry) (genuine : Bool) (line : Line) (post : Option Entry) : Type 0 where
  moved_to : (turn : Turn) → ClientMove rules client before e genuine turn → turn ≡ Moves line post → Turned rules client before e genuine line post
  stamped_to : (turn : Turn) (next : Line) (seal : Seal) → ClientMove rules client before e genuine turn → turn ≡ Stamps next → line ≡ sealed_with next seal → Turned rules client before e genuine line post

pub turned : (w : World) (given : Seal) (kind : ℕ) (client : Client) (e : Entry) (line : Line) (post : Option Entry) (seals : ℕ → ℕ) (text : Option Text)
    → client_step_of w given kind client e ≡ record { answer = Ok post; line = line; seals = seals; sealed = text }
    → Turned w.hall.rules client (seat_of w.hall client.number).line e (genuine_entry w.hall.rules kind w.genuine e) line post
turned w given kind client e line post seals text step = by_verdict (decided w.hall.rules client before e genuine) refl step
  where
    before : Line
    before = (seat_of w.hall client.number).line

    genuine : Bool
    genuine = genuine_entry w.hall.rules kind w.genuine e

    by_verdict : (v : Verdict) → decided w.hall.rules client (seat_of w.hall client.number).line e (genuine_entry w.hall.rules kind w.genuine e) ≡ v
        → acted v kind w.hall.seals given client (seat_of w.hall client.number).line ≡ record { answer = Ok post; line = line; seals = seals; sealed = text }
        → Turned w.hall.rules client (seat_of w.hall client.number).line e (genuine_entry w.hall.rules kind w.genuine e) line post
    by_verdict (Err why) is a = not_ok (ap (λ s. s.answer) a)
    by_verdict (Ok (Moves next said)) is a =
        moved_to (Moves next said) (client_view _ client _ e _ (Moves next said) is) (ap (λ l. Moves l said) (ap (λ s. s.line) a) ∙ ap (λ p. Moves line p) (ok_same (ap (λ s. s.answer) a)))
    by_verdict (Ok (Stamps next)) is a =
        way_in (λ s. signing s (pair_text kind next.highest) client (seat_of w.hall client.number).line next) (eqb (w.hall.seals (pair_text kind next.highest).party) 0) a
        (λ t q. not_ok (ap (λ s. s.answer) q))
        (λ t q. stamped_to (Stamps next) next given (client_view _ client _ e _ (Stamps next) is) refl (sym (ap (λ s. s.line) q)))

moves_line : {a c : Line} {b d : Option Entry} → Moves a b ≡ Moves c d → a ≡ c
moves_line p = cc

pub stamps_line : {a c : Line} → Stamps a ≡ Stamps c → a ≡ c
stamps_line p = cc

pub not_moves : {P : Type 0} {a c : Line} {b : Option Entry} → Stamps a ≡ Moves c b → P
not_moves p = absurd cc

-- what became of the operation of the client's seat
pub data LineChange (op : Operation) (before line : Line) : Type 0 where
  unchanged : has_ended before line ≡ false → is_stamping before.stage line.stage ≡ false → LineChange op before line
  stamps_now : has_ended before line ≡ false → is_stamping before.stage line.stage ≡ true → before.stage ≡ Reading → line.highest.word ≡ op.pair.word → LineChange op before line
  ends_now : has_ended before line ≡ true → line.stage ≡ Over → is_open before.stage ≡ true → (op.writes ≡ true → line.highest.word ≡ op.pair.word) → LineChange op before line

-- the stage stays
same_stage : (op : Operation) (before line : Line) → line.stage ≡ before.stage → LineChange op before line
same_stage op before line e = unchanged
    (subst (λ z. (is_over z && not (is_over before.stage)) ≡ false) (sym e) (same_over before.stage))
    (subst (λ z. is_stamping before.stage z ≡ false) (sym e) (same_stamping before.stage))

-- it reads in another round
to_reading : (op : Operation) (before line : Line) → line.stage ≡ Reading → LineChange op before line
to_reading op before line e = unchanged (subst (λ z. (is_over z && not (is_over before.stage)) ≡ false) (sym e) refl) (subst (λ z. is_stamping before.stage z ≡ false) (sym e) (not_to_reading before.stage))

-- it ends
to_over : (op : Operation) (before line : Line) → line.stage ≡ Over → is_open before.stage ≡ true → (op.writes ≡ true → line.highest.word ≡ op.pair.word) → LineChange op before line
to_over op before line e busy word = ends_now (subst (λ z. (is_over z && not (is_over before.stage)) ≡ true) (sym e) (opens_not_over before.stage busy)) e busy word

module _ {kind : ℕ} {w : World} (client : Client) (seat : Seat) (rule : SeatRule kind w client.number seat) where
  -- while writing or writing back the word in flight is a write's own
  word_kept : is_writing seat.line.stage ≡ true → (operation_of w.hall seat.operation).writes ≡ true → seat.line.highest.word ≡ (operation_of w.hall seat.operation).pair.word
  word_kept writing y = by_stage (writing_cases seat.line.stage writing)
    where
      by_stage : (seat.line.stage ≡ Writing) ⊎ (seat.line.stage ≡ WritingBack) → seat.line.highest.word ≡ (operation_of w.hall seat.operation).pair.word
      by_stage (inl s) = sym (ap (λ p. p.word) ((in_stage rule s).own_pair refl))
      by_stage (inr s) = absurd (clash (sym (in_stage rule s).writes_is ∙ y))

  -- no step changes more of the operation than this
  pub line_change : {rules : Rules} {e : Entry} {genuine : Bool} {line : Line} {post : Option Entry} → Turned rules client seat.line e genuine line post
      → LineChange (operation_of w.hall seat.operation) seat.line line
  line_change {line = line} (moved_to turn (counts_pair from h few t) is) = same_stage _ _ line (ap (λ l. l.stage) (sym (moves_line (sym t ∙ is))))
  line_change {line = line} (moved_to turn (ends_read from h large none agree t) is) =
      to_over _ _ line (ap (λ l. l.stage) (sym (moves_line (sym t ∙ is)))) (ap is_open h.stage)
      (λ y. absurd (clash (sym ((rule.own (opens_busy _ (ap is_open h.stage))).reads none) ∙ y)))
  line_change {line = line} (moved_to turn (writes_back from h large none t) is) =
      unchanged (subst (λ z. (is_over z && not (is_over seat.line.stage)) ≡ false) (ap (λ l. l.stage) (moves_line (sym t ∙ is))) refl)
      (subst (λ z. is_stamping seat.line.stage z ≡ false) (ap (λ l. l.stage) (moves_line (sym t ∙ is))) (not_to_back seat.line.stage))
  line_change (moved_to turn (takes_stamp from word h large some t) is) = not_moves (sym t ∙ is)
  line_change {line = line} (moved_to turn (counts_ack from h few t) is) = same_stage _ _ line (ap (λ l. l.stage) (sym (moves_line (sym t ∙ is))))
  line_change {line = line} (moved_to turn (ends_write from h large t) is) =
      to_over _ _ line (ap (λ l. l.stage) (sym (moves_line (sym t ∙ is)))) (writing_opens _ h.stage)
      (λ y. ap (λ l. l.highest.word) (sym (moves_line (sym t ∙ is))) ∙ word_kept h.stage y)
  line_change {line = line} (moved_to turn (goes_on h shut t) is) = same_stage _ _ line (ap (λ l. l.stage) (sym (moves_line (sym t ∙ is))))
  line_change {line = line} (moved_to turn (reads_again h s t) is) = to_reading _ _ line (ap (λ l. l.stage) (sym (moves_line (sym t ∙ is))))
  line_change {line = line} (moved_to turn (writes_again h s t) is) = same_stage _ _ line (ap (λ l. l.stage) (sym (moves_line (sym t ∙ is))) ∙ sym s)
  line_change {line = line} (moved_to turn (replies k t) is) = same_stage _ _ line (ap (λ l. l.stage) (sym (moves_line (sym t ∙ is))))
  line_change (stamped_to turn next seal (counts_pair from h few t) is l) = not_moves (sym is ∙ t)
  line_change (stamped_to turn next seal (ends_read from h large none agree t) is l) = not_moves (sym is ∙ t)
  line_change (stamped_to turn next seal (writes_back from h large none t) is l) = not_moves (sym is ∙ t)
  line_change (stamped_to turn next seal (counts_ack from h few t) is l) = not_moves (sym is ∙ t)
  line_change (stamped_to turn next seal (ends_write from h large t) is l) = not_moves (sym is ∙ t)
  line_change (stamped_to turn next seal (goes_on h shut t) is l) = not_moves (sym is ∙ t)
  line_change (stamped_to turn next seal (reads_again h s t) is l) = not_moves (sym is ∙ t)
  line_change (stamped_to turn next seal (writes_again h s t) is l) = not_moves (sym is ∙ t)
  line_change (stamped_to turn next seal (replies k t) is l) = not_moves (sym is ∙ t)
  line_change {line = line} (stamped_to turn next seal (takes_stamp from word h large some t) is l) =
      stamps_now
      (subst (λ z. (is_over z && not (is_over seat.line.stage)) ≡ false) (sym stage) refl)
      (subst₂ (λ s z. is_stamping s z ≡ true) (sym h.stage) (sym stage) refl)
      h.stage
      (ap (λ z. z.highest.word) l ∙ ap (λ z. z.highest.word) (sym (stamps_line (sym t ∙ is))) ∙ sym ((rule.own (opens_busy _ (ap is_open h.stage))).word word some))
    where
      stage : line.stage ≡ Writing
      stage = ap (λ z. z.stage) l ∙ ap (λ z. z.stage) (sym (stamps_line (sym t ∙ is)))
