-- A step that is refused leaves store, line and sealer as they were, so that the hall stays as it was.
use Rattle.std.proofs.Common.{◌≡◌, ℕ, Bool, true, false, cond, eqb, Some, None, Ok, Err, Option, sym, refl, subst, ap, ap₂}
use Rattle.wire.specs.declared.entry.Entry.{Entry}
use Rattle.wire.specs.declared.pair.Seal.{Seal}
use Rattle.wire.specs.declared.text.Text.{Text}
use Rattle.wire.specs.Texts.{pair_text}
use Rattle.wire.specs.Parties.{Client, Replica}
use Rattle.stores.specs.declared.card.Card.{Card}
use Rattle.stores.specs.declared.fault.StoreFault.TheVariants.{NoSave}
use Rattle.stores.specs.Saved.{Shelf, after, none_left, put, one_fewer}
use Rattle.sealers.specs.declared.fault.SealerFault.TheVariants.{NoSeal}
use Rattle.sealers.specs.Sealing.{spent}
use Rattle.rules.specs.declared.rules.Rules.{Rules}
use Rattle.rules.specs.Genuine.{genuine_entry}
use Rattle.replicas.specs.declared.fault.ReplicaFault.{ReplicaFault}
use Rattle.replicas.specs.Decisions.{Verdict as ReplicaVerdict, decided as replica_decided}
use Rattle.replicas.specs.Steps.{Stepped as ReplicaStepped, saving, after_save, acted as replica_acted, with_card}
use Rattle.clients.specs.declared.fault.ClientFault.{ClientFault}
use Rattle.clients.specs.declared.line.Line.{Line}
use Rattle.clients.specs.declared.turn.Turn.TheVariants.{Moves, Stamps}
use Rattle.clients.specs.Turns.{Verdict as ClientVerdict, decided as client_decided}
use Rattle.clients.specs.Steps.{Stepped as ClientStepped, signing, acted as client_acted}
use Rattle.halls.specs.declared.fault.HallFault.TheVariants.{Step}
use Rattle.halls.specs.declared.fault.StepFault.TheVariants.{Client as ByClient, Replica as ByReplica}
use Rattle.model.specs.Halls.{World, seat_of, with_store, with_seals}
use Rattle.model.specs.Answers.{Outcome, done, refused}
use Rattle.model.specs.Delivering.{posting, client_moves, client_done, client_step_of, replica_done, replica_step_of}
use Rattle.model.proofs.Ways.{not_ok}

-- if it is refused, the store is as it was
StoreStays : Shelf → ReplicaStepped → Type 0
StoreStays store s = (fault : ReplicaFault) → s.answer ≡ Err fault → (s.place ≡ store.place) × (s.saves ≡ store.saves)

save_left : (store : Shelf) (n : ℕ) (card : Card) (post : Option Entry) (b : Bool) → StoreStays store (after_save (cond b (after (Err (NoSave store.next)) store.place store.saves) (after (Ok tt) (put store.place n card) (one_fewer store.saves))) post)
unfolding StoreStays
save_left store n card post true fault p = (refl, refl)
save_left store n card post false fault p = not_ok (sym p)

saving_stays : (save : Option Card) (store : Shelf) (n : ℕ) (post : Option Entry) → StoreStays store (saving save store n post)
unfolding StoreStays
saving_stays None store n post fault p = (refl, refl)
saving_stays (Some card) store n post fault p = save_left store n card post (none_left store.saves) fault p

acted_stays : (v : ReplicaVerdict) (store : Shelf) (replica : Replica) → StoreStays store (replica_acted v store replica)
unfolding StoreStays
acted_stays (Err why) store replica fault p = (refl, refl)
acted_stays (Ok d) store replica fault p = saving_stays d.save store replica.number d.post fault p

card_stays : (o : Option Card) (rules : Rules) (kind : ℕ) (checks : Text → Seal → Bool) (store : Shelf) (replica : Replica) (e : Entry) → StoreStays store (with_card o rules kind checks store replica e)
unfolding StoreStays
card_stays None rules kind checks store replica e fault p = (refl, refl)
card_stays (Some card) rules kind checks store replica e fault p = acted_stays (replica_decided rules replica card e (genuine_entry rules kind checks e)) store replica fault p

module _ {V : Type 0} (w : World) (kind : ℕ) (replica : Replica) (e : Entry) (number : ℕ) (place : ℕ → Option Card) (saves : Option ℕ) where
  pub replica_refused : (fault : ReplicaFault) → ◌≡◌ {A = ReplicaStepped} (record { answer = Err fault; place = place; saves = saves }) (replica_step_of w kind replica e)
      → ◌≡◌ {A = Outcome V} (record { answer = refused (Step number (ByReplica fault)); hall = with_store w.hall place saves; sealed = None }) (replica_done (replica_step_of w kind replica e) number w.hall)
  unfolding StoreStays
  replica_refused fault is =
      let stays : (place ≡ w.hall.place) × (saves ≡ w.hall.saves) =
      subst (λ (s : ReplicaStepped). (s.place ≡ w.hall.place) × (s.saves ≡ w.hall.saves)) (sym is)
      (card_stays (w.hall.place replica.number) w.hall.rules kind w.genuine (record { place = w.hall.place; saves = w.hall.saves; next = w.left_open.next }) replica e fault (ap (λ (s : ReplicaStepped). s.answer) (sym is)))
      in
      subst (λ (s : ReplicaStepped). ◌≡◌ {A = Outcome V} (record { answer = refused (Step number (ByReplica fault)); hall = with_store w.hall place saves; sealed = None }) (replica_done s number w.hall)) is
      (ap₂ (λ p n. record { answer = refused (Step number (ByReplica fault)); hall = with_store w.hall p n; sealed = None }) stays.0 stays.1)

  pub replica_accepted : (post : Option Entry) → ◌≡◌ {A = ReplicaStepped} (record { answer = Ok post; place = place; saves = saves }) (replica_step_of w kind replica e)
      → ◌≡◌ {A = Outcome V} (record { answer = done; hall = posting (with_store w.hall place saves) post; sealed = None }) (replica_done (replica_step_of w kind replica e) number w.hall)
  replica_accepted post is =
      subst (λ (s : ReplicaStepped). ◌≡◌ {A = Outcome V} (record { answer = done; hall = posting (with_store w.hall place saves) post; sealed = None }) (replica_done s number w.hall)) is refl

-- if it is refused, line and seals are as they were, and nothing was sealed
LineStays : Line → (ℕ → ℕ) → ClientStepped → Type 0
LineStays line seals s = (fault : ClientFault) → s.answer ≡ Err fault → (s.line ≡ line) × (s.seals ≡ seals) × (s.sealed ≡ None)

seal_left : (line next : Line) (seals : ℕ → ℕ) (given : Seal) (client : Client) (t : Text) (b : Bool) → LineStays line seals (signing (cond b (record { answer = Err (NoSeal t.party); seals = seals }) (record { answer = Ok given; seals = spent seals t.party })) t client line next)
unfolding LineStays
seal_left line next seals given client t true fault p = (refl, refl, refl)
seal_left line next seals given client t false fault p = not_ok (sym p)

turn_stays : (v : ClientVerdict) (kind : ℕ) (seals : ℕ → ℕ) (given : Seal) (client : Client) (line : Line) → LineStays line seals (client_acted v kind seals given client line)
unfolding LineStays
turn_stays (Err why) kind seals given client line fault p = (refl, refl, refl)
turn_stays (Ok (Moves next post)) kind seals given client line fault p = not_ok (sym p)
turn_stays (Ok (Stamps next)) kind seals given client line fault p =
    let t = pair_text kind next.highest in
    seal_left line next seals given client t (eqb (seals t.party) 0) fault p

module _ {V : Type 0} (w : World) (given : Seal) (kind : ℕ) (client : Client) (e : Entry) (number : ℕ) (line : Line) (seals : ℕ → ℕ) (text : Option Text) where
  pub client_refused : (fault : ClientFault) → ◌≡◌ {A = ClientStepped} (record { answer = Err fault; line = line; seals = seals; sealed = text }) (client_step_of w given kind client e)
      → ◌≡◌ {A = Outcome V} (record { answer = refused (Step number (ByClient fault)); hall = with_seals w.hall seals; sealed = text }) (client_done (client_step_of w given kind client e) number w.hall client)
  unfolding LineStays
  client_refused fault is =
      let before = (seat_of w.hall client.number).line in
      let stays : (line ≡ before) × (seals ≡ w.hall.seals) × (text ≡ None) =
      subst (λ (s : ClientStepped). (s.line ≡ before) × (s.seals ≡ w.hall.seals) × (s.sealed ≡ None)) (sym is)
      (turn_stays (client_decided w.hall.rules client before e (genuine_entry w.hall.rules kind w.genuine e)) kind w.hall.seals given client before fault (ap (λ (s : ClientStepped). s.answer) (sym is)))
      in
      subst (λ (s : ClientStepped). ◌≡◌ {A = Outcome V} (record { answer = refused (Step number (ByClient fault)); hall = with_seals w.hall seals; sealed = text }) (client_done s number w.hall client)) is
      (ap₂ (λ n t. record { answer = refused (Step number (ByClient fault)); hall = with_seals w.hall n; sealed = t }) stays.1 stays.2)

  pub client_accepted : (post : Option Entry) → ◌≡◌ {A = ClientStepped} (record { answer = Ok post; line = line; seals = seals; sealed = text }) (client_step_of w given kind client e)
      → ◌≡◌ {A = Outcome V} (record { answer = done; hall = client_moves w.hall client.number (seat_of w.hall client.number) line post seals; sealed = text }) (client_done (client_step_of w given kind client e) number w.hall client)
  client_accepted post is =
      subst (λ (s : ClientStepped). ◌≡◌ {A = Outcome V} (record { answer = done; hall = client_moves w.hall client.number (seat_of w.hall client.number) line post seals; sealed = text }) (client_done s number w.hall client)) is refl
