-- What a call does to the seat of a client, and that an open round goes on until it is over.
-- Told from the effects of calls, in a world that meets the rules.
use Rattle.std.proofs.Common.{◌≡◌, ℕ, ◌+◌, ◌-◌, ◌≤◌, true, false, ◌⊎◌, List, length, get_or, set, Some, None, Option, sym, refl, ap, ◌∙◌, subst, inl, inr, arith}
use native.Mathlib.Decide.{ℕ_discrete}
use borrow.Author.Tests.{clash}
use Rattle.wire.specs.declared.entry.Entry.{Entry}
use Rattle.wire.specs.declared.pair.Seal.{Seal}
use Rattle.wire.specs.declared.text.Text.{Text}
use Rattle.wire.specs.Parties.{Client}
use Rattle.rules.specs.declared.rules.Rules.{Rules}
use Rattle.rules.specs.Genuine.{genuine_entry}
use Rattle.clients.specs.declared.line.Line.{Line}
use Rattle.clients.specs.declared.line.Stage.TheVariants.{Reading, Over}
use Rattle.clients.specs.declared.turn.Turn.{Turn}
use Rattle.clients.specs.declared.turn.Turn.TheVariants.{Moves, Stamps}
use Rattle.clients.specs.Lines.{is_open, is_idle}
use Rattle.quorums.specs.Quorums.{Within}
use Rattle.quorums.proofs.Insertion.{within_self, within_trans, within_inserted}
use Rattle.halls.specs.declared.seat.Seat.{Seat}
use Rattle.kinds.specs.Kinds.{RecordKind}
use Rattle.model.specs.Halls.{Hall, World, no_seat, seat_of}
use Rattle.model.specs.Answers.{Answer, done, slip}
use Rattle.model.specs.Calls.{Call, deliver, call_off}
use Rattle.model.specs.Delivering.{entry_of}
use Rattle.model.specs.Slips.{released}
use Rattle.model.proofs.ClientEvents.{Turned, moved_to, stamped_to, turned}
use Rattle.model.proofs.ClientMoves.{ClientMove, counts_pair, ends_read, writes_back, takes_stamp, counts_ack, ends_write, goes_on, reads_again, writes_again, replies}
use Rattle.model.proofs.Effects.{Effect, stands, issues, starts, client_steps, replica_steps, calls_off, collects_it, lodges, redeems, meddles, answer_is, hall_is}
use Rattle.model.proofs.Events.{begins_slip, refused_begins_none, slip_same}
use Rattle.model.proofs.Invariants.{Holds}
use Rattle.model.proofs.StageTests.{over_shut, idle_shut}
use Rattle.model.proofs.Tables.{seat_same, seat_other, moved_seats, posting_is}

-- a line goes on to another: rounds do not fall, and a round that is still open is in the stage that it was in
-- and has counted all that it had
pub record Onward (before after : Line) : Type 0 where
  pub rounds : before.round ≤ after.round
  pub stage : after.round ≡ before.round → is_open after.stage ≡ true → after.stage ≡ before.stage
  pub counted : after.round ≡ before.round → is_open after.stage ≡ true → Within before.counted.0 after.counted.0

pub onward_same : (l : Line) → Onward l l
onward_same l = record { rounds = omega arith; stage = λ e o. refl; counted = λ e o. within_self l.counted.0 }

pub onward_trans : {f g h : Line} → Onward f g → Onward g h → Onward f h
onward_trans {f} {g} {h} a b = record {
  rounds = omega (arith, a.rounds, b.rounds);
  stage = λ e o. let s = b.stage (upper e) o in s ∙ a.stage (lower e) (ap is_open (sym s) ∙ o);
  counted = λ e o. within_trans (a.counted (lower e) (ap is_open (sym (b.stage (upper e) o)) ∙ o)) (b.counted (upper e) o);
}
  where
    upper : h.round ≡ f.round → h.round ≡ g.round
    upper e = omega (arith, a.rounds, b.rounds)

    lower : h.round ≡ f.round → g.round ≡ f.round
    lower e = omega (arith, a.rounds, b.rounds)

-- a later round
onward_later : {before after : Line} → after.round ≡ before.round + 1 → Onward before after
onward_later up = record { rounds = omega arith; stage = λ e o. absurd (omega arith); counted = λ e o. absurd (omega arith) }

-- no round is open any more
onward_shut : {before after : Line} → before.round ≤ after.round → is_open after.stage ≡ false → Onward before after
onward_shut up shut = record { rounds = up; stage = λ e o. absurd (clash (sym shut ∙ o)); counted = λ e o. absurd (clash (sym shut ∙ o)) }

-- the line of a turn
abbrev pub next_line : Turn → Line
next_line (Moves line post) = line
next_line (Stamps line) = line

module _ {rules : Rules} {client : Client} {line : Line} {e : Entry} {genuine : Rattle.std.proofs.Common.Bool} where
  onward_move : {turn : Turn} → ClientMove rules client line e genuine turn → Onward line (next_line turn)
  onward_move (counts_pair from h few t) = subst (λ z. Onward line (next_line z)) (sym t) (record { rounds = omega arith; stage = λ r o. refl; counted = λ r o. within_inserted line.counted.0 from.number })
  onward_move (ends_read from h large none agree t) = subst (λ z. Onward line (next_line z)) (sym t) (onward_shut (omega arith) refl)
  onward_move (writes_back from h large none t) = subst (λ z. Onward line (next_line z)) (sym t) (onward_later refl)
  onward_move (takes_stamp from word h large some t) = subst (λ z. Onward line (next_line z)) (sym t) (onward_later refl)
  onward_move (counts_ack from h few t) = subst (λ z. Onward line (next_line z)) (sym t) (record { rounds = omega arith; stage = λ r o. refl; counted = λ r o. within_inserted line.counted.0 from.number })
  onward_move (ends_write from h large t) = subst (λ z. Onward line (next_line z)) (sym t) (onward_shut (omega arith) refl)
  onward_move (goes_on h shut t) = subst (λ z. Onward line (next_line z)) (sym t) (onward_shut (omega arith) shut)
  onward_move (reads_again h s t) = subst (λ z. Onward line (next_line z)) (sym t) (onward_later refl)
  onward_move (writes_again h s t) = subst (λ z. Onward line (next_line z)) (sym t) (onward_later refl)
  onward_move (replies k t) = subst (λ z. Onward line (next_line z)) (sym t) (onward_same line)

  pub turned_onward : {next : Line} {post : Option Entry} → Turned rules client line e genuine next post → Onward line next
  turned_onward (moved_to turn move is) = subst (λ z. Onward line (next_line z)) is (onward_move move)
  turned_onward (stamped_to turn next seal move is l) =
      let o = subst (λ z. Onward line (next_line z)) is (onward_move move) in
      subst (Onward line) (sym l) (record { rounds = o.rounds; stage = o.stage; counted = o.counted })

  -- a round that is open goes on in one, or the operation is over
  goes_or_ends : {turn : Turn} → is_open line.stage ≡ true → ClientMove rules client line e genuine turn → (is_open (next_line turn).stage ≡ true) ⊎ ((next_line turn).stage ≡ Over)
  goes_or_ends opens (counts_pair from h few t) = inl (ap (λ z. is_open (next_line z).stage) t ∙ opens)
  goes_or_ends opens (ends_read from h large none agree t) = inr (ap (λ z. (next_line z).stage) t)
  goes_or_ends opens (writes_back from h large none t) = inl (ap (λ z. is_open (next_line z).stage) t)
  goes_or_ends opens (takes_stamp from word h large some t) = inl (ap (λ z. is_open (next_line z).stage) t)
  goes_or_ends opens (counts_ack from h few t) = inl (ap (λ z. is_open (next_line z).stage) t ∙ opens)
  goes_or_ends opens (ends_write from h large t) = inr (ap (λ z. (next_line z).stage) t)
  goes_or_ends opens (goes_on h shut t) = absurd (clash (sym shut ∙ opens))
  goes_or_ends opens (reads_again h s t) = inl (ap (λ z. is_open (next_line z).stage) t)
  goes_or_ends opens (writes_again h s t) = inl (ap (λ z. is_open (next_line z).stage) t)
  goes_or_ends opens (replies k t) = inl (ap (λ z. is_open (next_line z).stage) t ∙ opens)

  pub turned_goes : {next : Line} {post : Option Entry} → is_open line.stage ≡ true → Turned rules client line e genuine next post → (is_open next.stage ≡ true) ⊎ (next.stage ≡ Over)
  turned_goes opens (moved_to turn move is) = subst (λ z. (is_open (next_line z).stage ≡ true) ⊎ ((next_line z).stage ≡ Over)) is (goes_or_ends opens move)
  turned_goes opens (stamped_to turn next seal move is l) =
      subst (λ z. (is_open z.stage ≡ true) ⊎ (z.stage ≡ Over)) (sym l) (subst (λ z. (is_open (next_line z).stage ≡ true) ⊎ ((next_line z).stage ≡ Over)) is (goes_or_ends opens move))

-- what a call did to the seat of client c
pub data SeatTurn {V : Type 0} (kind : RecordKind V) (w : World) (call : Call V) (a : Answer V) (h' : Hall) (c : ℕ) : Type 0 where
  keeps : (seat_of h' c).line ≡ (seat_of w.hall c).line → (seat_of h' c).operation ≡ (seat_of w.hall c).operation → SeatTurn kind w call a h' c
  begins_here : is_idle (seat_of w.hall c).line.stage ≡ true → (seat_of h' c).line.round ≡ (seat_of w.hall c).line.round + 1 → SeatTurn kind w call a h' c
  turns : (number : ℕ) (client : Client) (post : Option Entry) → call ≡ deliver number c
      → Turned w.hall.rules client (seat_of w.hall c).line (entry_of w.hall number) (genuine_entry w.hall.rules kind.number w.genuine (entry_of w.hall number)) (seat_of h' c).line post
      → (seat_of h' c).operation ≡ (seat_of w.hall c).operation → SeatTurn kind w call a h' c
  -- the client is idle: its operation was called off, or it was over and is collected
  frees : (call ≡ call_off c (seat_of w.hall c).operation) × (a ≡ done) ⊎ (is_open (seat_of w.hall c).line.stage ≡ false)
      → (seat_of h' c).line ≡ released (seat_of w.hall c).line → SeatTurn kind w call a h' c

module _ {V : Type 0} (kind : RecordKind V) (sealed : List Text) (w : World) (holds : Holds kind.number sealed w) (call : Call V) (a : Answer V) (h' : Hall) (c : ℕ) (low : 1 ≤ c) (high : c ≤ w.hall.rules.clients) where
  -- the seats are the old ones
  seats_kept : h'.seats ≡ w.hall.seats → SeatTurn kind w call a h' c
  seats_kept e = keeps (ap (λ s. (get_or s (c - 1) no_seat).line) e) (ap (λ s. (get_or s (c - 1) no_seat).operation) e)

  -- the seat of client d is another one
  module _ (d : ℕ) (seat : Seat) (low' : 1 ≤ d) (high' : d ≤ w.hall.rules.clients) (e : h'.seats ≡ set w.hall.seats (d - 1) seat) where
    here_set : seat_of h' d ≡ seat
    here_set = ap (λ s. get_or s (d - 1) no_seat) e ∙ seat_same w.hall d seat holds.sized low' high'

    one_seat : (d ≡ c → SeatTurn kind w call a h' c) → SeatTurn kind w call a h' c
    one_seat mine = by_client (ℕ_discrete c d)
      where
        by_client : Dec (c ≡ d) → SeatTurn kind w call a h' c
        by_client (yes same) = mine (sym same)
        by_client (no other) =
            let there : seat_of h' c ≡ seat_of w.hall c = ap (λ s. get_or s (c - 1) no_seat) e ∙ seat_other w.hall d c seat low' low other in
            keeps (ap (λ s. s.line) there) (ap (λ s. s.operation) there)

  -- line and operation of the seat are the old ones
  same_seat : (d : ℕ) (seat : Seat) → 1 ≤ d → d ≤ w.hall.rules.clients → h'.seats ≡ set w.hall.seats (d - 1) seat → seat.line ≡ (seat_of w.hall d).line → seat.operation ≡ (seat_of w.hall d).operation → SeatTurn kind w call a h' c
  same_seat d seat low' high' e line operation = one_seat d seat low' high' e
      (λ same. subst (λ m. SeatTurn kind w call a h' m) same
      (keeps (ap (λ s. s.line) (here_set d seat low' high' e) ∙ line) (ap (λ s. s.operation) (here_set d seat low' high' e) ∙ operation)))

  pub seat_turn : {given : Seal} {s : Option Text} → Effect kind w given call a h' s → SeatTurn kind w call a h' c
  seat_turn (stands f is e none) = seats_kept (ap (λ h. h.seats) (sym e))
  seat_turn (issues set is allowed p) = seats_kept (ap (λ h. h.seats) (sym (hall_is p)))
  seat_turn (starts client word is allowed p) =
      let e = ap (λ h. h.seats) (sym (hall_is p)) in
      one_seat client.number _ allowed.seated.low allowed.seated.high e
      (λ same. subst (λ m. SeatTurn kind w call a h' m) same
      (begins_here allowed.idle (ap (λ s. s.line.round) (here_set client.number _ allowed.seated.low allowed.seated.high e))))
  seat_turn (client_steps number client is seated room fits line post seals step answer e) =
      let s = ap (λ h. h.seats) (sym e) ∙ moved_seats w.hall client.number line post seals in
      one_seat client.number _ seated.low seated.high s
      (λ same. subst (λ m. SeatTurn kind w call a h' m) same
      (turns number client post is
      (subst (λ l. Turned w.hall.rules client (seat_of w.hall client.number).line (entry_of w.hall number) (genuine_entry w.hall.rules kind.number w.genuine (entry_of w.hall number)) l post)
      (sym (ap (λ z. z.line) (here_set client.number _ seated.low seated.high s)))
      (turned w _ kind.number client (entry_of w.hall number) line post seals _ step))
      (ap (λ z. z.operation) (here_set client.number _ seated.low seated.high s))))
  seat_turn (replica_steps number party r is inside room fits place saves post step answer e none) = seats_kept (ap (λ h. h.seats) (sym e ∙ posting_is _ post))
  seat_turn (calls_off d k is its unended answer e none) =
      let s = ap (λ h. h.seats) (sym e) in
      one_seat d _ its.seated.low its.seated.high s
      (λ same. subst (λ m. SeatTurn kind w call a h' m) same
      (frees (inl (is ∙ ap (call_off d) (sym its.operation), answer)) (ap (λ z. z.line) (here_set d _ its.seated.low its.seated.high s))))
  seat_turn (collects_it d k u is its over answer e none) =
      let s = ap (λ h. h.seats) (sym e) in
      one_seat d _ its.seated.low its.seated.high s
      (λ same. subst (λ m. SeatTurn kind w call a h' m) same
      (frees (inr (over_shut _ over)) (ap (λ z. z.line) (here_set d _ its.seated.low its.seated.high s))))
  seat_turn (lodges d k is its answer e none) = same_seat d _ its.seated.low its.seated.high (ap (λ h. h.seats) (sym e)) refl refl
  seat_turn (redeems d k is seated answer e none) = same_seat d _ seated.low seated.high (ap (λ h. h.seats) (sym e)) refl refl
  seat_turn (meddles party x r is inside marked room answer e none) = seats_kept (ap (λ h. h.seats) (sym e))

-- the line goes on
pub turn_onward : {V : Type 0} {kind : RecordKind V} {w : World} {call : Call V} {a : Answer V} {h' : Hall} {c : ℕ} → SeatTurn kind w call a h' c → Onward (seat_of w.hall c).line (seat_of h' c).line
turn_onward (keeps line operation) = subst (Onward _) (sym line) (onward_same _)
turn_onward (begins_here idle up) = onward_later up
turn_onward (turns number client post is t operation) = turned_onward t
turn_onward (frees why line) = subst (Onward _) (sym line) (onward_shut (omega arith) refl)

-- what becomes of an open round of operation k: it goes on, or the operation is over, or called off
pub data Staying {V : Type 0} (call : Call V) (a : Answer V) (h' : Hall) (c k : ℕ) : Type 0 where
  stays_open : is_open (seat_of h' c).line.stage ≡ true → (seat_of h' c).operation ≡ k → Staying call a h' c k
  is_ended : (seat_of h' c).line.stage ≡ Over → (seat_of h' c).operation ≡ k → Staying call a h' c k
  is_called_off : call ≡ call_off c k → a ≡ done → Staying call a h' c k

pub turn_staying : {V : Type 0} {kind : RecordKind V} {w : World} {call : Call V} {a : Answer V} {h' : Hall} {c k : ℕ} → is_open (seat_of w.hall c).line.stage ≡ true → (seat_of w.hall c).operation ≡ k
    → SeatTurn kind w call a h' c → Staying call a h' c k
turn_staying opens its (keeps line operation) = stays_open (ap (λ l. is_open l.stage) line ∙ opens) (operation ∙ its)
turn_staying {w = w} {c = c} opens its (begins_here idle up) = absurd (clash (sym (idle_shut _ idle) ∙ opens))
turn_staying {call = call} {a = a} {h' = h'} {c = c} {k = k} opens its (turns number client post is t operation) = by_stage (turned_goes opens t)
  where
    by_stage : (is_open (seat_of h' c).line.stage ≡ true) ⊎ ((seat_of h' c).line.stage ≡ Over) → Staying call a h' c k
    by_stage (inl o) = stays_open o (operation ∙ its)
    by_stage (inr o) = is_ended o (operation ∙ its)
turn_staying {c = c} opens its (frees (inl off) line) = is_called_off (off.0 ∙ ap (call_off c) its) off.1
turn_staying opens its (frees (inr shut) line) = absurd (clash (sym shut ∙ opens))

-- a call that was answered by this slip began an operation
pub record Begun (w : World) (h' : Hall) (c k : ℕ) : Type 0 where
  pub low : 1 ≤ c
  pub high : c ≤ w.hall.rules.clients
  pub stage : (seat_of h' c).line.stage ≡ Reading
  pub operation : (seat_of h' c).operation ≡ k

pub begun_seat : {V : Type 0} {kind : RecordKind V} {sealed : List Text} {w : World} {call : Call V} {a : Answer V} {h' : Hall} {given : Seal} {s : Option Text} {c k : ℕ} → Holds kind.number sealed w
    → begins_slip call a ≡ true → a ≡ slip c k → Effect kind w given call a h' s → Begun w h' c k
begun_seat {call = call} holds b s (stands f is e none) = absurd (clash (sym (ap (begins_slip call) is ∙ refused_begins_none call f) ∙ b))
begun_seat {a = a} holds b s (issues set is allowed p) = absurd (clash (sym (ap (λ c. begins_slip c a) is) ∙ b))
begun_seat {w = w} {h' = h'} {k = k} holds b s (starts client word is allowed p) =
    let same = slip_same (sym (answer_is p) ∙ s) in
    let there = ap (λ h. seat_of h client.number) (sym (hall_is p)) ∙ seat_same w.hall client.number _ holds.sized allowed.seated.low allowed.seated.high in
    subst (λ m. Begun w h' m k) same.0
    (record { low = allowed.seated.low; high = allowed.seated.high; stage = ap (λ z. z.line.stage) there; operation = ap (λ z. z.operation) there ∙ same.1 })
begun_seat {a = a} holds b s (client_steps number client is seated room fits line post seals step answer e) = absurd (clash (sym (ap (λ c. begins_slip c a) is) ∙ b))
begun_seat {a = a} holds b s (replica_steps number party r is inside room fits place saves post step answer e none) = absurd (clash (sym (ap (λ c. begins_slip c a) is) ∙ b))
begun_seat {a = a} holds b s (calls_off c k is its unended answer e none) = absurd (clash (sym (ap (λ c. begins_slip c a) is) ∙ b))
begun_seat {a = a} holds b s (collects_it c k u is its over answer e none) = absurd (clash (sym (ap (λ c. begins_slip c a) is) ∙ b))
begun_seat {a = a} holds b s (lodges c k is its answer e none) = absurd (clash (sym (ap (λ c. begins_slip c a) is) ∙ b))
begun_seat {a = a} holds b s (redeems c k is seated answer e none) = absurd (clash (sym (ap (λ c. begins_slip c a) is) ∙ b))
begun_seat {a = a} holds b s (meddles party x r is inside marked room answer e none) = absurd (clash (sym (ap (λ c. begins_slip c a) is) ∙ b))
