-- What each call did: it was refused and left the hall as it was, or it is one of these.
-- Told once from the definitions of the calls, in a world that meets the rules; what is proved of all calls starts from here.
use Rattle.std.proofs.Common.{◌≡◌, ℕ, ◌+◌, ◌<◌, ◌≤◌, true, false, cond, not, ◌&&◌, ◌||◌, eqb, ltb, leb, length, is_some, is_none, Some, None, Ok, Err, Option, Result, sym, refl, ap, ◌∙◌, subst, arith, ltb-true, leb-true, eqb-true}
use Rattle.std.proofs.lemmas.Bool.{not-false, not-true, and_parts, or_parts}
use borrow.Author.Tests.{eqb-false}
use Rattle.kinds.specs.declared.word.Word.{Word}
use Rattle.wire.specs.declared.entry.Entry.{Entry}
use Rattle.wire.specs.declared.pair.Seal.{Seal}
use Rattle.wire.specs.declared.text.Text.{Text}
use Rattle.wire.specs.declared.party.Party.{Party}
use Rattle.wire.specs.declared.party.Party.TheVariants.{Source as TheSource, Client as AClient, Replica as AReplica}
use Rattle.wire.specs.declared.set.ReplicaSet.{ReplicaSet}
use Rattle.wire.specs.Entries.{kind_of}
use Rattle.wire.specs.Sets.{member}
use Rattle.wire.specs.Parties.{Client, Replica}
use Rattle.stores.specs.declared.card.Card.{Card}
use Rattle.clients.specs.declared.fault.ClientFault.{ClientFault}
use Rattle.clients.specs.declared.line.Line.{Line}
use Rattle.clients.specs.Lines.{is_idle}
use Rattle.clients.specs.Steps.{Stepped as ClientStepped, reading_next}
use Rattle.clients.specs.Turns.{read_of}
use Rattle.replicas.specs.declared.fault.ReplicaFault.{ReplicaFault}
use Rattle.replicas.specs.Steps.{Stepped as ReplicaStepped}
use Rattle.sealers.specs.Sealing.{spent}
use Rattle.source.specs.Issued.{signing, next_text}
use Rattle.kinds.specs.declared.fault.KindFault.TheVariants.{NoValue}
use Rattle.halls.specs.declared.fault.HallFault.{HallFault}
use Rattle.halls.specs.declared.fault.HallFault.TheVariants.{NoSuch, Full, NotMarked, NotItsSlip, Kind as OfKind}
use Rattle.model.specs.Tables.{is_full, added}
use Rattle.kinds.specs.Kinds.{RecordKind}
use Rattle.model.specs.Halls.{Hall, World, seat_of, has_its_tables, party_in, with_post, with_seat, with_store}
use Rattle.model.specs.Answers.{Answer, done, slip, pair, refused, Outcome, refuses, answers, has_moment}
use Rattle.model.specs.Beginning.{begin_called, begin_by, begin_done, beginning, is_client_in}
use Rattle.model.specs.Calls.{Call, issue, begin_read, begin_write, deliver, call_off, collect, lodge, redeem, meddle, called}
use Rattle.model.specs.Delivering.{posting, by_replica, by_client, client_moves, deliver_called, deliver_to, stepped, entry_of, fits, fits_client, fits_replica, client_step_of, replica_step_of, is_over}
use Rattle.model.specs.Issuing.{issue_called, issue_done, issuing, is_right_set, has_too_many_marked}
use Rattle.model.specs.Meddling.{meddle_called, is_marked, sent_by}
use Rattle.model.specs.Slips.{call_off_called, collect_called, collecting, lodge_called, redeem_called, redeeming, is_its_slip, freed, holding_slip}
use Rattle.model.proofs.Parties.{ReplicaIn, client_in, replica_in, ClientIn}
use Rattle.model.proofs.Ways.{way, way_in, not_both}

-- the call that begins an operation of client c with this word
pub data BeginCall {V : Type 0} (kind : RecordKind V) (call : Call V) (c : ℕ) (word : Option Word) : Type 0 where
  by_read : call ≡ begin_read c → word ≡ None → BeginCall kind call c word
  by_write : (v : V) → call ≡ begin_write c v → word ≡ Some (kind.word v) → BeginCall kind call c word

-- the next set may be issued
pub record Issuable (w : World) (set : ReplicaSet) : Type 0 where
  pub right : is_right_set w.hall.rules set.0 ≡ true
  pub few : has_too_many_marked w.hall.rules w.hall.marked set.0 ≡ false
  pub roll_room : is_full w.hall.roll ≡ false
  pub post_room : is_full w.hall.post ≡ false

-- a client of the hall
pub record Seated (w : World) (c : ℕ) : Type 0 where
  pub low : 1 ≤ c
  pub high : c ≤ w.hall.rules.clients

-- the client may begin an operation with this word
pub record Beginnable (w : World) (c : ℕ) (word : Option Word) : Type 0 where
  pub seated : Seated w c
  pub idle : is_idle (seat_of w.hall c).line.stage ≡ true
  pub log_room : is_full w.hall.log ≡ false
  pub post_room : is_full w.hall.post ≡ false
  pub seal_left : is_some word ≡ true → 0 < w.hall.seals c

-- an entry of this number may be handed over
pub record Deliverable (w : World) (number : ℕ) : Type 0 where
  pub posted : number < length w.hall.post.list
  pub room : is_full w.hall.post ≡ false
  pub moment : has_moment w.hall ≡ true

-- a client of the hall has this operation
pub record ItsSlip (w : World) (c k : ℕ) : Type 0 where
  pub seated : Seated w c
  pub busy : is_idle (seat_of w.hall c).line.stage ≡ false
  pub operation : (seat_of w.hall c).operation ≡ k

-- `given` is the seal that is given, if one is, and s the text that the call has sealed, if it has
pub data Effect {V : Type 0} (kind : RecordKind V) (w : World) (given : Seal) (call : Call V) (a : Answer V) (h' : Hall) (s : Option Text) : Type 0 where
  -- refused
  stands : (f : HallFault) → a ≡ refused f → w.hall ≡ h' → s ≡ None → Effect kind w given call a h' s
  issues : (set : ReplicaSet) → call ≡ issue set → Issuable w set
      → issuing (Ok (record { epoch = w.hall.source.newest + 1; set = set; seal = given })) (record { newest = w.hall.source.newest + 1 }) (spent w.hall.seals 0) (Some (next_text w.hall.source set)) w.hall ≡ record { answer = a; hall = h'; sealed = s }
      → Effect kind w given call a h' s
  starts : (client : Client) (word : Option Word) → BeginCall kind call client.number word → Beginnable w client.number word
      → beginning (Ok (read_of client (reading_next (seat_of w.hall client.number).line word))) (reading_next (seat_of w.hall client.number).line word) client word w.hall ≡ record { answer = a; hall = h'; sealed = s }
      → Effect kind w given call a h' s
  -- a client or a replica made a step on an entry
  client_steps : (number : ℕ) (client : Client) → call ≡ deliver number client.number → Seated w client.number → Deliverable w number
      → fits_client (kind_of (entry_of w.hall number).kind) (entry_of w.hall number) client ≡ true
      → (line : Line) (post : Option Entry) (seals : ℕ → ℕ) → client_step_of w given kind.number client (entry_of w.hall number) ≡ record { answer = Ok post; line = line; seals = seals; sealed = s }
      → a ≡ done → client_moves w.hall client.number (seat_of w.hall client.number) line post seals ≡ h'
      → Effect kind w given call a h' s
  replica_steps : (number party : ℕ) (r : Replica) → call ≡ deliver number party → ReplicaIn w.hall.rules party r → Deliverable w number
      → fits_replica (kind_of (entry_of w.hall number).kind) (entry_of w.hall number) r ≡ true
      → (place : ℕ → Option Card) (saves : Option ℕ) (post : Option Entry) → replica_step_of w kind.number r (entry_of w.hall number) ≡ record { answer = Ok post; place = place; saves = saves }
      → a ≡ done → posting (with_store w.hall place saves) post ≡ h' → s ≡ None
      → Effect kind w given call a h' s
  calls_off : (c k : ℕ) → call ≡ call_off c k → ItsSlip w c k → is_over (seat_of w.hall c).line.stage ≡ false
      → a ≡ done → with_seat w.hall c (freed (seat_of w.hall c)) ≡ h' → s ≡ None → Effect kind w given call a h' s
  collects_it : (c k : ℕ) (v : V) → call ≡ collect c k → ItsSlip w c k → is_over (seat_of w.hall c).line.stage ≡ true
      → a ≡ pair (seat_of w.hall c).line.highest v → with_seat w.hall c (freed (seat_of w.hall c)) ≡ h' → s ≡ None → Effect kind w given call a h' s
  -- the slip is lodged, or given out again
  lodges : (c k : ℕ) → call ≡ lodge c k → ItsSlip w c k → a ≡ done → with_seat w.hall c (holding_slip (seat_of w.hall c) (Some k)) ≡ h' → s ≡ None → Effect kind w given call a h' s
  redeems : (c k : ℕ) → call ≡ redeem c → Seated w c → a ≡ slip c k → with_seat w.hall c (holding_slip (seat_of w.hall c) None) ≡ h' → s ≡ None → Effect kind w given call a h' s
  meddles : (party : ℕ) (e : Entry) (r : Replica) → call ≡ meddle party e → ReplicaIn w.hall.rules party r → member w.hall.marked r.number ≡ true → is_full w.hall.post ≡ false
      → a ≡ done → with_post w.hall (added w.hall.post (sent_by party e)) ≡ h' → s ≡ None → Effect kind w given call a h' s

-- answer, hall and sealed text of an outcome
pub answer_is : {V : Type 0} {a b : Answer V} {h h' : Hall} {s s' : Option Text} → ◌≡◌ {A = Outcome V} (record { answer = a; hall = h; sealed = s }) (record { answer = b; hall = h'; sealed = s' }) → b ≡ a
answer_is p = sym (ap (λ o. o.answer) p)

pub hall_is : {V : Type 0} {a b : Answer V} {h h' : Hall} {s s' : Option Text} → ◌≡◌ {A = Outcome V} (record { answer = a; hall = h; sealed = s }) (record { answer = b; hall = h'; sealed = s' }) → h ≡ h'
hall_is p = ap (λ o. o.hall) p

pub sealed_is : {V : Type 0} {a b : Answer V} {h h' : Hall} {s s' : Option Text} → ◌≡◌ {A = Outcome V} (record { answer = a; hall = h; sealed = s }) (record { answer = b; hall = h'; sealed = s' }) → s' ≡ s
sealed_is p = sym (ap (λ o. o.sealed) p)

-- the client of a number in its range
seated_by : (w : World) (c : ℕ) → (leb 1 c && leb c w.hall.rules.clients) ≡ true → Seated w c
seated_by w c t = let r = and_parts (leb 1 c) (leb c w.hall.rules.clients) t in record { low = leb-true _ _ r.0; high = leb-true _ _ r.1 }

seated_in : (w : World) {n : ℕ} {client : Client} → ClientIn w.hall.rules n client → Seated w client.number
seated_in w c = record { low = subst (λ m. 1 ≤ m) (sym c.number) c.low; high = subst (λ m. m ≤ w.hall.rules.clients) (sym c.number) c.high }

-- the client of a slip
pub its_slip : (w : World) (c k : ℕ) → is_its_slip w.hall c k ≡ true → ItsSlip w c k
its_slip w c k t =
    let b = and_parts (leb 1 c && leb c w.hall.rules.clients) (not (is_idle (seat_of w.hall c).line.stage) && eqb (seat_of w.hall c).operation k) t in
    let s = and_parts (not (is_idle (seat_of w.hall c).line.stage)) (eqb (seat_of w.hall c).operation k) b.1 in
    record { seated = seated_by w c b.0; busy = not-true _ s.0; operation = eqb-true _ _ s.1 }

module _ {V : Type 0} (kind : RecordKind V) (w : World) (given : Seal) (a : Answer V) (h' : Hall) (text : Option Text) where
  stood : (call : Call V) (f : HallFault) → refuses w.hall f ≡ record { answer = a; hall = h'; sealed = text } → Effect kind w given call a h' text
  stood call f p = stands f (answer_is p) (hall_is p) (sealed_is p)

  issue_effect : (set : ReplicaSet) → issue_called w given set ≡ record { answer = a; hall = h'; sealed = text } → Effect kind w given (issue set) a h' text
  issue_effect set p =
      way (not (has_its_tables w.hall)) p
      (λ t q. stood (issue set) _ q)
      (λ t q. way (not (is_right_set w.hall.rules set.0)) q (λ u s. stood (issue set) _ s)
      (λ right s. way (has_too_many_marked w.hall.rules w.hall.marked set.0) s (λ u z. stood (issue set) _ z)
      (λ few z. way (is_full w.hall.roll || is_full w.hall.post) z (λ u y. stood (issue set) _ y)
      (λ room y. way_in (λ i. issue_done i w.hall) (not (ltb w.hall.source.newest 4294967295)) y (λ u x. stood (issue set) _ x)
      (λ u x. way_in (λ s. issue_done (signing s w.hall.source set) w.hall) (eqb (w.hall.seals 0) 0) x (λ v d. stood (issue set) _ d)
      (λ v d. let r = or_parts (is_full w.hall.roll) (is_full w.hall.post) room in
      issues set refl (record { right = not-false _ right; few = few; roll_room = r.0; post_room = r.1 }) d))))))

  begin_effect : (n : ℕ) (word : Option Word) (call : Call V) → ((c : ℕ) → c ≡ n → BeginCall kind call c word) → begin_called w n word ≡ record { answer = a; hall = h'; sealed = text } → Effect kind w given call a h' text
  begin_effect n word call named p =
      way (not (has_its_tables w.hall)) p (λ t q. stood call _ q) (λ t q. by_party (party_in w.hall.rules n) refl q)
    where
      as_client : (client : Client) → client.number ≡ n → Seated w client.number → begin_by (Some (AClient client)) client.number w.hall word ≡ record { answer = a; hall = h'; sealed = text } → Effect kind w given call a h' text
      as_client client number seated q =
          way (not (is_idle (seat_of w.hall client.number).line.stage)) q (λ t s. stood call _ s)
          (λ idle s. way (is_full w.hall.log || (is_full w.hall.post || not (has_moment w.hall))) s (λ t z. stood call _ z)
          (λ room z. way_in (λ b. begin_done b client word w.hall) (not (is_idle (seat_of w.hall client.number).line.stage)) z
          (λ t y. stood call _ y)
          (λ t y. way_in (λ b. begin_done b client word w.hall) (not (ltb (seat_of w.hall client.number).line.round 4294967295)) y
          (λ u x. stood call _ x)
          (λ u x. way_in (λ b. begin_done b client word w.hall) (is_some word && eqb (w.hall.seals client.number) 0) x
          (λ v d. stood call _ d)
          (λ v d. let r = or_parts (is_full w.hall.log) (is_full w.hall.post || not (has_moment w.hall)) room in
          let r2 = or_parts (is_full w.hall.post) (not (has_moment w.hall)) r.1 in
          starts client word (named client.number number)
          (record {
            seated = seated;
            idle = not-false _ idle;
            log_room = r.0;
            post_room = r2.0;
            seal_left = λ is. some_left (w.hall.seals client.number) (not_both (is_some word) (eqb (w.hall.seals client.number) 0) v is);
          }) d)))))
        where
          some_left : (m : ℕ) → eqb m 0 ≡ false → 0 < m
          some_left m e = let ne = eqb-false m 0 e in omega arith

      by_party : (o : Option Party) → party_in w.hall.rules n ≡ o → cond (not (is_client_in o)) (refuses w.hall (NoSuch n)) (begin_by o n w.hall word) ≡ record { answer = a; hall = h'; sealed = text } → Effect kind w given call a h' text
      by_party None is q = stood call _ q
      by_party (Some TheSource) is q = stood call _ q
      by_party (Some (AReplica r)) is q = stood call _ q
      by_party (Some (AClient client)) is q =
          let c = client_in w.hall.rules n client is in
          as_client client c.number (seated_in w c)
          (subst (λ m. begin_by (Some (AClient client)) m w.hall word ≡ record { answer = a; hall = h'; sealed = text }) (sym c.number) q)

  deliver_effect : (number party : ℕ) → deliver_called w given kind.number number party ≡ record { answer = a; hall = h'; sealed = text } → Effect kind w given (deliver number party) a h' text
  deliver_effect number party p =
      way (not (has_its_tables w.hall)) p
      (λ t q. stood (deliver number party) _ q)
      (λ t q. way (not (ltb number (length w.hall.post.list))) q (λ u s. stood (deliver number party) _ s)
      (λ u s. by_party (ltb-true number (length w.hall.post.list) (not-false _ u)) (party_in w.hall.rules party) refl s))
    where
      -- what the post and the moments must have room for
      room_for : number < length w.hall.post.list → (is_full w.hall.post || not (has_moment w.hall)) ≡ false → Deliverable w number
      room_for lt room = let r = or_parts (is_full w.hall.post) (not (has_moment w.hall)) room in record { posted = lt; room = r.0; moment = not-false _ r.1 }

      by_saved : (r : Replica) → ReplicaIn w.hall.rules party r → Deliverable w number → fits_replica (kind_of (entry_of w.hall number).kind) (entry_of w.hall number) r ≡ true → (s : ReplicaStepped) → replica_step_of w kind.number r (entry_of w.hall number) ≡ s
          → (o : Result (Option Entry) ReplicaFault) → s.answer ≡ o → by_replica o s number w.hall ≡ record { answer = a; hall = h'; sealed = text } → Effect kind w given (deliver number party) a h' text
      by_saved r inside room fits s is (Err fault) said z = stood (deliver number party) _ z
      by_saved r inside room fits s is (Ok post) said z =
          replica_steps number party r refl inside room fits s.place s.saves post (is ∙ λ i. record { answer = said i; place = s.place; saves = s.saves }) (answer_is z) (hall_is z) (sealed_is z)

      by_line : (client : Client) → client.number ≡ party → Seated w client.number → Deliverable w number → fits_client (kind_of (entry_of w.hall number).kind) (entry_of w.hall number) client ≡ true → (s : ClientStepped) → client_step_of w given kind.number client (entry_of w.hall number) ≡ s
          → (o : Result (Option Entry) ClientFault) → s.answer ≡ o → by_client o s number w.hall client ≡ record { answer = a; hall = h'; sealed = text } → Effect kind w given (deliver number party) a h' text
      by_line client named seated room fits s is (Err fault) said z = stood (deliver number party) _ z
      by_line client named seated room fits s is (Ok post) said z =
          client_steps number client (ap (deliver number) (sym named)) seated room fits s.line post s.seals (let told = ap (λ o. o.sealed) z in is ∙ λ i. record { answer = said i; line = s.line; seals = s.seals; sealed = told i }) (answer_is z) (hall_is z)

      by_kind : number < length w.hall.post.list → (x : Party) → party_in w.hall.rules party ≡ Some x
          → (is_full w.hall.post || not (has_moment w.hall)) ≡ false → fits x (entry_of w.hall number) ≡ true
          → stepped x w given kind.number number (entry_of w.hall number) ≡ record { answer = a; hall = h'; sealed = text } → Effect kind w given (deliver number party) a h' text
      by_kind lt TheSource is room fits z = stood (deliver number party) _ z
      by_kind lt (AClient client) is room fits z =
          let c = client_in w.hall.rules party client is in
          by_line client c.number (seated_in w c) (room_for lt room) fits (client_step_of w given kind.number client (entry_of w.hall number)) refl _ refl z
      by_kind lt (AReplica r) is room fits z =
          by_saved r (replica_in w.hall.rules party r is) (room_for lt room) fits (replica_step_of w kind.number r (entry_of w.hall number)) refl _ refl z

      by_party : number < length w.hall.post.list → (o : Option Party) → party_in w.hall.rules party ≡ o
          → cond (is_none o) (refuses w.hall (NoSuch number)) (deliver_to o w given kind.number number (entry_of w.hall number)) ≡ record { answer = a; hall = h'; sealed = text } → Effect kind w given (deliver number party) a h' text
      by_party lt None is q = stood (deliver number party) _ q
      by_party lt (Some x) is q =
          way (is_full w.hall.post || not (has_moment w.hall)) q (λ u s. stood (deliver number party) _ s)
          (λ room s. way (not (fits x (entry_of w.hall number))) s (λ u z. stood (deliver number party) _ z)
          (λ fits z. by_kind lt x is room (not-false _ fits) z))

  call_off_effect : (c k : ℕ) → call_off_called w c k ≡ record { answer = a; hall = h'; sealed = text } → Effect kind w given (call_off c k) a h' text
  call_off_effect c k p =
      way (not (has_its_tables w.hall)) p
      (λ t q. stood (call_off c k) _ q)
      (λ t q. way (not (is_its_slip w.hall c k)) q (λ u s. stood (call_off c k) _ s)
      (λ u s. way (is_over (seat_of w.hall c).line.stage) s (λ v z. stood (call_off c k) _ z)
      (λ v z. calls_off c k refl (its_slip w c k (not-false _ u)) v (answer_is z) (hall_is z) (sealed_is z))))

  collect_effect : (c k : ℕ) → collect_called kind w c k ≡ record { answer = a; hall = h'; sealed = text } → Effect kind w given (collect c k) a h' text
  collect_effect c k p =
      way (not (has_its_tables w.hall)) p
      (λ t q. stood (collect c k) _ q)
      (λ t q. way (not (is_its_slip w.hall c k)) q (λ u s. stood (collect c k) _ s)
      (λ u s. way (not (is_over (seat_of w.hall c).line.stage)) s (λ v z. stood (collect c k) _ z)
      (λ v z. by_value (not-false _ u) (not-false _ v) (kind.value (seat_of w.hall c).line.highest.word) z)))
    where
      by_value : is_its_slip w.hall c k ≡ true → is_over (seat_of w.hall c).line.stage ≡ true → (o : Option V) → cond (is_none o) (refuses w.hall (OfKind NoValue)) (collecting o w.hall c (seat_of w.hall c).line.highest) ≡ record { answer = a; hall = h'; sealed = text } → Effect kind w given (collect c k) a h' text
      by_value its over None z = stood (collect c k) _ z
      by_value its over (Some v) z = collects_it c k v refl (its_slip w c k its) over (answer_is z) (hall_is z) (sealed_is z)

  lodge_effect : (c k : ℕ) → lodge_called w c k ≡ record { answer = a; hall = h'; sealed = text } → Effect kind w given (lodge c k) a h' text
  lodge_effect c k p =
      way (not (has_its_tables w.hall)) p
      (λ t q. stood (lodge c k) _ q)
      (λ t q. way (not (is_its_slip w.hall c k)) q (λ u s. stood (lodge c k) _ s)
      (λ u s. lodges c k refl (its_slip w c k (not-false _ u)) (answer_is s) (hall_is s) (sealed_is s)))

  redeem_effect : (c : ℕ) → redeem_called w c ≡ record { answer = a; hall = h'; sealed = text } → Effect kind w given (redeem c) a h' text
  redeem_effect c p =
      way (not (has_its_tables w.hall)) p
      (λ t q. stood (redeem c) _ q)
      (λ t q. way (not (leb 1 c && leb c w.hall.rules.clients)) q (λ u s. stood (redeem c) _ s) (λ u s. by_lodged (not-false _ u) (seat_of w.hall c).lodged s))
    where
      by_lodged : (leb 1 c && leb c w.hall.rules.clients) ≡ true → (o : Option ℕ) → cond (is_none o) (refuses w.hall (NotItsSlip c)) (redeeming o w.hall c) ≡ record { answer = a; hall = h'; sealed = text } → Effect kind w given (redeem c) a h' text
      by_lodged u None s = stood (redeem c) _ s
      by_lodged u (Some k) s = redeems c k refl (seated_by w c u) (answer_is s) (hall_is s) (sealed_is s)

  meddle_effect : (party : ℕ) (e : Entry) → meddle_called w party e ≡ record { answer = a; hall = h'; sealed = text } → Effect kind w given (meddle party e) a h' text
  meddle_effect party e p =
      way (not (has_its_tables w.hall)) p (λ t q. stood (meddle party e) _ q) (λ t q. by_party (party_in w.hall.rules party) refl q)
    where
      by_party : (o : Option Party) → party_in w.hall.rules party ≡ o
          → cond (is_none o) (refuses w.hall (NoSuch party)) (cond (not (is_marked w.hall o)) (refuses w.hall (NotMarked party)) (cond (is_full w.hall.post) (refuses w.hall (Full party)) (answers done (with_post w.hall (added w.hall.post (sent_by party e)))))) ≡ record { answer = a; hall = h'; sealed = text } → Effect kind w given (meddle party e) a h' text
      by_party None is q = stood (meddle party e) _ q
      by_party (Some TheSource) is q = stood (meddle party e) _ q
      by_party (Some (AClient client)) is q = stood (meddle party e) _ q
      by_party (Some (AReplica r)) is q =
          way (not (member w.hall.marked r.number)) q (λ t s. stood (meddle party e) _ s)
          (λ t s. way (is_full w.hall.post) s (λ u z. stood (meddle party e) _ z)
          (λ u z. meddles party e r refl (replica_in w.hall.rules party r is) (not-false _ t) u (answer_is z) (hall_is z) (sealed_is z)))

  -- what any call did
  pub effect_of : (call : Call V) → called kind given call w ≡ record { answer = a; hall = h'; sealed = text } → Effect kind w given call a h' text
  effect_of (issue set) p = issue_effect set p
  effect_of (begin_read c) p = begin_effect c None (begin_read c) (λ d e. by_read (ap begin_read (sym e)) refl) p
  effect_of (begin_write c v) p = begin_effect c (Some (kind.word v)) (begin_write c v) (λ d e. by_write v (ap (λ z. begin_write z v) (sym e)) refl) p
  effect_of (deliver number party) p = deliver_effect number party p
  effect_of (call_off c k) p = call_off_effect c k p
  effect_of (collect c k) p = collect_effect c k p
  effect_of (lodge c k) p = lodge_effect c k p
  effect_of (redeem c) p = redeem_effect c p
  effect_of (meddle party e) p = meddle_effect party e p
