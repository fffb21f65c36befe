-- A slip that a begin or a redeem has answered can be lodged, also after a call off or a collect that was refused. Assumes nothing.
use Rattle.std.proofs.Common.{◌≡◌, ℕ, ◌-◌, ◌<◌, ◌≤◌, Bool, true, false, cond, not, ◌&&◌, ◌||◌, eqb, leb, ltb, length, is_some, is_none, Some, None, Ok, Err, Option, Result, IfOk, sym, refl, ap, ◌∙◌, subst, arith, length-set}
use Rattle.std.proofs.lemmas.Bool.{and_parts, and_from, eq-eqb, eqb-true, leb-true, le-leb, true≢false, false≢true, or_parts, not-false}
use Rattle.std.proofs.lemmas.List.{get_or-set_same}
use Rattle.kinds.specs.declared.word.Word.{Word}
use Rattle.wire.specs.declared.entry.Entry.{Entry}
use Rattle.wire.specs.declared.party.Party.{Party}
use Rattle.wire.specs.declared.party.Party.TheVariants.{Source as TheSource, Client as AClient, Replica as AReplica}
use Rattle.wire.specs.declared.text.Text.{Text}
use Rattle.wire.specs.Parties.{Client}
use Rattle.clients.specs.Lines.{is_idle}
use Rattle.clients.specs.Steps.{reading_next}
use Rattle.stores.specs.Saved.{Shelf}
use Rattle.sealers.specs.Sealing.{Desk, none_beside}
use Rattle.kinds.specs.declared.fault.KindFault.TheVariants.{NoValue}
use Rattle.halls.specs.declared.fault.HallFault.{HallFault}
use Rattle.halls.specs.declared.fault.HallFault.TheVariants.{NoSuch, NotItsSlip, Kind as OfKind}
use Rattle.halls.specs.declared.operation.Operation.{Operation}
use Rattle.halls.specs.declared.seat.Seat.{Seat}
use Rattle.model.specs.Tables.{is_full, places, added}
use Rattle.kinds.specs.Kinds.{RecordKind}
use Rattle.model.specs.Halls.{Hall, World, no_seat, seat_of, has_its_tables, party_in, with_seat, with_post, with_log}
use Rattle.model.specs.Answers.{Answer, Outcome, answers, refuses, done, slip, pair, refused, has_moment}
use Rattle.model.specs.Beginning.{begin_called, begin_by, begin_done, is_client_in}
use Rattle.model.specs.Calls.{Step, begin_read, begin_write, call_off, collect, lodge, redeem}
use Rattle.model.specs.Delivering.{is_over}
use Rattle.model.specs.Slips.{is_its_slip, holding_slip, collecting, redeeming}
use Rattle.register.specs.declared.slip.Slip.{Slip}
use Rattle.register.specs.Worlds.{slip_or}
use Rattle.model.proofs.Ways.{way, way_in}
use Rattle.model.proofs.Parties.{client_in}
use Rattle.model.proofs.Tables.{places_added}
use Rattle.runner.specs.Slips.{HasSlip, holds_its_slip, is_at}

-- the meanings of a store and a sealer where they do not matter
abbrev pub no_shelf : Shelf
no_shelf = record { place = λ n. None; saves = None; next = 0 }

abbrev pub no_desk : Desk
no_desk = record { genuine = λ t s. false; seals = λ p. 0; allowed = λ t s. false; beside = none_beside }

clash : {P : Type 0} (b : Bool) → not b ≡ true → b ≡ true → P
clash true e is = absurd (false≢true e)
clash false e is = absurd (false≢true is)

-- whether an answer is a refusal
abbrev is_refusal : {V : Type 0} → Answer V → Bool
is_refusal done = false
is_refusal (slip c k) = false
is_refusal (pair p v) = false
is_refusal (refused f) = true

-- the client and the operation of a slip, 0 where there is none
abbrev client_of : {V : Type 0} → Answer V → ℕ
client_of done = 0
client_of (slip c k) = c
client_of (pair p v) = 0
client_of (refused f) = 0

abbrev operation_of : {V : Type 0} → Answer V → ℕ
operation_of done = 0
operation_of (slip c k) = k
operation_of (pair p v) = 0
operation_of (refused f) = 0

module _ {V : Type 0} (kind : RecordKind V) {w w' : World} {c k : ℕ} {a : Answer V} (has : HasSlip w.hall c k) where
  pub lodged : Step kind w (lodge c k) a w' → is_refusal a ≡ false
  lodged step =
      way (not (has_its_tables w.hall)) (sym step.outcome)
      (λ t q. clash _ t has.tables)
      (λ t q. way (not (is_its_slip w.hall c k)) q (λ u s. clash _ u has.its) (λ u s. ap (λ o. is_refusal o.answer) (sym s)))

  -- a refusal leaves the hall as it was
  pub call_off_refused : Step kind w (call_off c k) a w' → is_refusal a ≡ true → HasSlip w'.hall c k
  call_off_refused step r =
      way (not (has_its_tables w.hall)) (sym step.outcome)
      (λ t q. clash _ t has.tables)
      (λ t q. way (not (is_its_slip w.hall c k)) q (λ u s. clash _ u has.its)
      (λ u s. way (is_over (seat_of w.hall c).line.stage) s (λ v z. subst (λ h. HasSlip h c k) (ap (λ o. o.hall) z) has)
      (λ v z. absurd (false≢true (ap (λ o. is_refusal o.answer) z ∙ r)))))

  pub collect_refused : Step kind w (collect c k) a w' → is_refusal a ≡ true → HasSlip w'.hall c k
  collect_refused step r =
      way (not (has_its_tables w.hall)) (sym step.outcome)
      (λ t q. clash _ t has.tables)
      (λ t q. way (not (is_its_slip w.hall c k)) q (λ u s. clash _ u has.its)
      (λ u s. way (not (is_over (seat_of w.hall c).line.stage)) s (λ v z. same z)
      (λ v z. by_value (kind.value (seat_of w.hall c).line.highest.word) z)))
    where
      same : {f : HallFault} → ◌≡◌ {A = Outcome V} (refuses w.hall f) (record { answer = a; hall = w'.hall; sealed = step.sealed }) → HasSlip w'.hall c k
      same z = subst (λ h. HasSlip h c k) (ap (λ o. o.hall) z) has

      by_value : (o : Option V) → cond (is_none o) (refuses w.hall (OfKind NoValue)) (collecting o w.hall c (seat_of w.hall c).line.highest) ≡ record { answer = a; hall = w'.hall; sealed = step.sealed } → HasSlip w'.hall c k
      by_value None z = same z
      by_value (Some v) z = absurd (false≢true (ap (λ o. is_refusal o.answer) z ∙ r))

-- the parts of what is looked at in a hall's tables
record Sized (h : Hall) : Type 0 where
  post : eqb (places h.post) h.lengths.post ≡ true
  log : eqb (places h.log) h.lengths.log ≡ true
  roll : eqb (places h.roll) h.lengths.roll ≡ true
  seats : eqb (length h.seats) h.rules.clients ≡ true

sized : (h : Hall) → has_its_tables h ≡ true → Sized h
sized h t =
    let halves = and_parts (eqb (places h.post) h.lengths.post && eqb (places h.log) h.lengths.log) (eqb (places h.roll) h.lengths.roll && eqb (length h.seats) h.rules.clients) t in
    let front = and_parts (eqb (places h.post) h.lengths.post) (eqb (places h.log) h.lengths.log) halves.0 in
    let back = and_parts (eqb (places h.roll) h.lengths.roll) (eqb (length h.seats) h.rules.clients) halves.1 in
    record { post = front.0; log = front.1; roll = back.0; seats = back.1 }

tables_of : (h : Hall) → Sized h → has_its_tables h ≡ true
tables_of h s =
    and_from (eqb (places h.post) h.lengths.post && eqb (places h.log) h.lengths.log) (eqb (places h.roll) h.lengths.roll && eqb (length h.seats) h.rules.clients)
    (and_from _ _ s.post s.log) (and_from _ _ s.roll s.seats)

-- a hall whose seat of client c is this one, which is not idle and has the operation k
its_seat : (h : Hall) (c k : ℕ) (seat : Seat) → (leb 1 c && leb c h.rules.clients) ≡ true → seat_of h c ≡ seat → not (is_idle seat.line.stage) ≡ true → seat.operation ≡ k → is_its_slip h c k ≡ true
its_seat h c k seat inside is busy op =
    and_from (leb 1 c && leb c h.rules.clients) (not (is_idle (seat_of h c).line.stage) && eqb (seat_of h c).operation k) inside
    (and_from _ _ (ap (λ s. not (is_idle s.line.stage)) is ∙ busy) (eq-eqb (seat_of h c).operation k (ap (λ s. s.operation) is ∙ op)))

-- another seat for client c, which is not idle: its operation's slip is its own
seat_has : (h : Hall) (c : ℕ) (seat : Seat) → has_its_tables h ≡ true → (leb 1 c && leb c h.rules.clients) ≡ true → not (is_idle seat.line.stage) ≡ true
    → HasSlip (with_seat h c seat) c seat.operation
seat_has h c seat t inside busy =
    let s = sized h t in
    let bounds = and_parts (leb 1 c) (leb c h.rules.clients) inside in
    let low : 1 ≤ c = leb-true 1 c bounds.0 in
    let high : c ≤ h.rules.clients = leb-true c h.rules.clients bounds.1 in
    let many : length h.seats ≡ h.rules.clients = eqb-true (length h.seats) h.rules.clients s.seats in
    let within : c - 1 < length h.seats = omega arith in
    record {
      tables = tables_of (with_seat h c seat) (record { post = s.post; log = s.log; roll = s.roll; seats = ap (λ m. eqb m h.rules.clients) (length-set h.seats (c - 1) seat) ∙ s.seats });
      its = its_seat (with_seat h c seat) c seat.operation seat inside (get_or-set_same h.seats (c - 1) seat no_seat within) busy refl;
    }

-- one more in the post and one more in the log change nothing of that
grown_has : (h : Hall) (c k : ℕ) (x : Entry) (op : Operation) (m : ℕ) → is_full h.post ≡ false → is_full h.log ≡ false → HasSlip h c k
    → HasSlip (with_log (with_post h (added h.post x)) (added h.log op) m) c k
grown_has h c k x op m post log has =
    let s = sized h has.tables in
    record {
      tables = tables_of (with_log (with_post h (added h.post x)) (added h.log op) m) (record {
        post = ap (λ n. eqb n h.lengths.post) (places_added h.post x post) ∙ s.post;
        log = ap (λ n. eqb n h.lengths.log) (places_added h.log op log) ∙ s.log;
        roll = s.roll;
        seats = s.seats;
      });
      its = has.its;
    }

module _ {V : Type 0} (kind : RecordKind V) (w w' : World) {c k : ℕ} where
  no_slip : {f : HallFault} {t : Option Text} {P : Type 0} → ◌≡◌ {A = Outcome V} (refuses w.hall f) (record { answer = slip c k; hall = w'.hall; sealed = t }) → P
  no_slip z = absurd (true≢false (ap (λ o. is_refusal o.answer) z))

  arrives : (d j : ℕ) (h : Hall) {t : Option Text} → ◌≡◌ {A = Outcome V} (answers (slip d j) h) (record { answer = slip c k; hall = w'.hall; sealed = t }) → HasSlip h d j → HasSlip w'.hall c k
  arrives d j h z has =
      let client : d ≡ c = ap (λ o. client_of o.answer) z in
      let operation : j ≡ k = ap (λ o. operation_of o.answer) z in
      let hall : h ≡ w'.hall = ap (λ o. o.hall) z in
      subst (λ x. x) (λ i. HasSlip (hall i) (client i) (operation i)) has

  pub redeemed : (n : ℕ) → holds_its_slip w.hall n ≡ true → Step kind w (redeem n) (slip c k) w' → HasSlip w'.hall c k
  redeemed n holds step =
      way (not (has_its_tables w.hall)) (sym step.outcome)
      (λ t q. no_slip q)
      (λ t q. way (not (leb 1 n && leb n w.hall.rules.clients)) q (λ u s. no_slip s) (λ inside s. by_lodged (not-false _ t) (not-false _ inside) (seat_of w.hall n).lodged refl s))
    where
      held : (not (is_idle (seat_of w.hall n).line.stage) && is_at (seat_of w.hall n).lodged (seat_of w.hall n).operation) ≡ true
      held = way (ltb (n - 1) (length w.hall.seats)) holds (λ t e. e) (λ t e. absurd (false≢true e))

      parts : (not (is_idle (seat_of w.hall n).line.stage) ≡ true) × (is_at (seat_of w.hall n).lodged (seat_of w.hall n).operation ≡ true)
      parts = and_parts (not (is_idle (seat_of w.hall n).line.stage)) (is_at (seat_of w.hall n).lodged (seat_of w.hall n).operation) held

      by_lodged : has_its_tables w.hall ≡ true → (leb 1 n && leb n w.hall.rules.clients) ≡ true → (o : Option ℕ) → (seat_of w.hall n).lodged ≡ o
          → cond (is_none o) (refuses w.hall (NotItsSlip n)) (redeeming {V = V} o w.hall n) ≡ record { answer = slip c k; hall = w'.hall; sealed = step.sealed } → HasSlip w'.hall c k
      by_lodged t inside None is s = no_slip s
      by_lodged t inside (Some j) is s =
          let same : (seat_of w.hall n).operation ≡ j = sym (eqb-true j (seat_of w.hall n).operation (ap (λ o. is_at o (seat_of w.hall n).operation) (sym is) ∙ parts.1)) in
          arrives n j (with_seat w.hall n (holding_slip (seat_of w.hall n) None)) s
          (subst (λ m. HasSlip (with_seat w.hall n (holding_slip (seat_of w.hall n) None)) n m) same
          (seat_has w.hall n (holding_slip (seat_of w.hall n) None) t inside parts.0))

  begun_slip : (n : ℕ) (word : Option Word) {sealed : Option Text} → ◌≡◌ {A = Outcome V} (record { answer = slip c k; hall = w'.hall; sealed = sealed }) (begin_called w n word) → HasSlip w'.hall c k
  begun_slip n word {sealed} p =
      way (not (has_its_tables w.hall)) (sym p) (λ t q. no_slip q) (λ t q. by_party (not-false _ t) (party_in w.hall.rules n) refl q)
    where
      as_client : has_its_tables w.hall ≡ true → (client : Client) → (leb 1 client.number && leb client.number w.hall.rules.clients) ≡ true
          → begin_by {V = V} (Some (AClient client)) client.number w.hall word ≡ record { answer = slip c k; hall = w'.hall; sealed = sealed } → HasSlip w'.hall c k
      as_client t client inside q =
          way (not (is_idle (seat_of w.hall client.number).line.stage)) q (λ u s. no_slip s)
          (λ idle s. way (is_full w.hall.log || (is_full w.hall.post || not (has_moment w.hall))) s (λ u z. no_slip z)
          (λ room z. way_in (λ b. begin_done b client word w.hall) (not (is_idle (seat_of w.hall client.number).line.stage)) z
          (λ u y. no_slip y)
          (λ u y. way_in (λ b. begin_done b client word w.hall) (not (ltb (seat_of w.hall client.number).line.round 4294967295)) y
          (λ v x. no_slip x)
          (λ v x. way_in (λ b. begin_done b client word w.hall) (is_some word && eqb (w.hall.seals client.number) 0) x
          (λ v d. no_slip d)
          (λ v d. let free = or_parts (is_full w.hall.log) (is_full w.hall.post || not (has_moment w.hall)) room in
          let next : Seat = record { line = reading_next (seat_of w.hall client.number).line word; operation = length w.hall.log.list; lodged = (seat_of w.hall client.number).lodged } in
          arrives client.number (length w.hall.log.list) _ d
          (grown_has (with_seat w.hall client.number next) client.number (length w.hall.log.list) _ _ _
          (or_parts (is_full w.hall.post) (not (has_moment w.hall)) free.1).0 free.0
          (seat_has w.hall client.number next t inside refl)))))))

      by_party : has_its_tables w.hall ≡ true → (o : Option Party) → party_in w.hall.rules n ≡ o
          → cond (not (is_client_in o)) (refuses w.hall (NoSuch n)) (begin_by {V = V} o n w.hall word) ≡ record { answer = slip c k; hall = w'.hall; sealed = sealed } → HasSlip w'.hall c k
      by_party t None is q = no_slip q
      by_party t (Some TheSource) is q = no_slip q
      by_party t (Some (AReplica r)) is q = no_slip q
      by_party t (Some (AClient client)) is q =
          let found = client_in w.hall.rules n client is in
          as_client t client (and_from (leb 1 client.number) (leb client.number w.hall.rules.clients) (le-leb 1 client.number (omega (arith, found.low, found.number))) (le-leb client.number w.hall.rules.clients (omega (arith, found.high, found.number))))
          (subst (λ m. begin_by {V = V} (Some (AClient client)) m w.hall word ≡ record { answer = slip c k; hall = w'.hall; sealed = sealed }) (sym found.number) q)

  -- what a begin has answered
  pub read_slip : (n : ℕ) → Step kind w (begin_read n) (slip c k) w' → HasSlip w'.hall c k
  read_slip n step = begun_slip n None step.outcome

  pub write_slip : (n : ℕ) (v : V) → Step kind w (begin_write n v) (slip c k) w' → HasSlip w'.hall c k
  write_slip n v step = begun_slip n (Some (kind.word v)) step.outcome

-- what is redeemed once it was looked at
pub redeemed_if : {V : Type 0} (kind : RecordKind V) {w w' : World} (n : ℕ) (r : Result Slip HallFault) → holds_its_slip w.hall n ≡ true
    → Step kind w (redeem n) (slip_or r) w' → IfOk r (λ s. HasSlip w'.hall s.client s.operation)
redeemed_if kind {w} {w'} n (Ok s) holds step = redeemed kind w w' n holds step
redeemed_if kind n (Err f) holds step = tt
