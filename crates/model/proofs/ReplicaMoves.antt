-- What a replica can do with an entry: the ways through its step that save or post something.
-- The view is told from the decision alone.
use Rattle.std.proofs.Common.{◌≡◌, ℕ, ◌+◌, ◌<◌, ◌≤◌, Bool, true, false, cond, not, ◌&&◌, eqb, ltb, leb, Some, None, Ok, Option, sym, refl, arith}
use Rattle.std.proofs.lemmas.Bool.{not-false, and_parts}
use Rattle.std.proofs.lemmas.Bool.Decides.{nat_tests}
use Rattle.wire.specs.declared.entry.Entry.{Entry}
use Rattle.wire.specs.declared.entry.EntryKind.{EntryKind}
use Rattle.wire.specs.declared.entry.EntryKind.TheVariants.{Read, Write, Transfer, Pair as APair, Ack, Stock, Config, Behind}
use Rattle.wire.specs.Entries.{kind_of, kind_number, pair_of, configuration_of}
use Rattle.wire.specs.Sets.{member}
use Rattle.wire.specs.Stamps.{above}
use Rattle.wire.specs.Parties.{Replica}
use Rattle.stores.specs.declared.card.Card.{Card}
use Rattle.rules.specs.declared.rules.Rules.{Rules}
use Rattle.rules.specs.Posts.{pair_entry, ack_entry, stock_entry, config_entry, behind_entry, transfer_entry}
use Rattle.rules.specs.Senders.{sender_within}
use Rattle.replicas.specs.declared.decision.Decision.{Decision}
use Rattle.replicas.specs.Decisions.{Verdict, party, present, is_member, holding, entering, stocked, serving, on_read, on_write, on_config, on_transfer, on_stock, on_stock_from, decided_by_kind, decided}
use Rattle.model.proofs.Ways.{way, not_ok, ok_same}

-- the number of a kind that was found
pub kind_known : (n : ℕ) (k : EntryKind) → kind_of n ≡ Some k → n ≡ kind_number k
kind_known n k e = grind (arith, nat_tests)

-- it only talks: CONFIG or BEHIND
pub record Talks (replica : Replica) (d : Decision) : Type 0 where
  pub entry : Entry
  pub sender : entry.sender ≡ party replica
  pub kind_low : 7 ≤ entry.kind
  pub decision : d ≡ record { save = None; post = Some entry }

-- it is asked in its own epoch, of which it is a ready member
pub record Serving (replica : Replica) (card : Card) (e : Entry) : Type 0 where
  pub epoch : e.epoch ≡ card.epoch
  pub inside : is_member replica card ≡ true
  pub ready : card.ready ≡ true

-- CONFIG of the next epoch
pub record Entering (replica : Replica) (card : Card) (e : Entry) (genuine : Bool) : Type 0 where
  pub next : e.epoch ≡ card.epoch + 1
  pub checks : genuine ≡ true
  pub ready : is_member replica card ≡ true → card.ready ≡ true

-- TRANSFER of an epoch that it was a member of and has left
pub record Giving (replica : Replica) (card : Card) (e : Entry) (genuine : Bool) : Type 0 where
  pub checks : genuine ≡ true
  pub inside : member e.word.0 replica.number ≡ true
  pub left : e.epoch < card.epoch

-- STOCK that it awaits
pub record Hearing (replica : Replica) (card : Card) (e : Entry) (genuine : Bool) (from : Replica) : Type 0 where
  pub inside : is_member replica card ≡ true
  pub epoch : e.epoch + 1 ≡ card.epoch
  pub from_previous : sender_within card.previous.0 e.sender ≡ Some from
  pub unheard : member card.heard.0 from.number ≡ false
  pub checks : genuine ≡ true

pub data ReplicaMove (rules : Rules) (replica : Replica) (card : Card) (e : Entry) (genuine : Bool) (d : Decision) : Type 0 where
  talks : Talks replica d → ReplicaMove rules replica card e genuine d
  answers_read : e.kind ≡ 1 → Serving replica card e → d ≡ record { save = None; post = Some (pair_entry (party replica) e card.pair) } → ReplicaMove rules replica card e genuine d
  keeps : e.kind ≡ 2 → Serving replica card e → genuine ≡ true → above (pair_of e).stamp card.pair.stamp ≡ false → d ≡ record { save = None; post = Some (ack_entry (party replica) e) } → ReplicaMove rules replica card e genuine d
  takes : e.kind ≡ 2 → Serving replica card e → genuine ≡ true → above (pair_of e).stamp card.pair.stamp ≡ true → d ≡ record { save = Some (holding card (pair_of e)); post = Some (ack_entry (party replica) e) } → ReplicaMove rules replica card e genuine d
  enters : e.kind ≡ 7 → Entering replica card e genuine → d ≡ record { save = Some (entering card (configuration_of e)); post = Some (transfer_entry (party replica) (present card)) } → ReplicaMove rules replica card e genuine d
  enters_outside : e.kind ≡ 7 → Entering replica card e genuine → d ≡ record { save = Some (entering card (configuration_of e)); post = None } → ReplicaMove rules replica card e genuine d
  gives : e.kind ≡ 3 → Giving replica card e genuine → d ≡ record { save = None; post = Some (stock_entry (party replica) e card.pair) } → ReplicaMove rules replica card e genuine d
  hears : e.kind ≡ 6 → (from : Replica) → Hearing replica card e genuine from → d ≡ record { save = Some (stocked rules card from (pair_of e)); post = None } → ReplicaMove rules replica card e genuine d

module _ (rules : Rules) (replica : Replica) (card : Card) (e : Entry) (genuine : Bool) (d : Decision) where
  -- READ and WRITE
  serving_view : (answer : Verdict) → serving replica card e answer ≡ Ok d
      → (Serving replica card e → answer ≡ Ok d → ReplicaMove rules replica card e genuine d) → ReplicaMove rules replica card e genuine d
  serving_view answer p go =
      way (ltb e.epoch card.epoch) p
      (λ early p1. talks (record { entry = config_entry (party replica) (present card); sender = refl; kind_low = omega arith; decision = sym (ok_same p1) }))
      (λ not_early p1. way (ltb card.epoch e.epoch) p1
      (λ late p2. talks (record { entry = behind_entry (party replica) e; sender = refl; kind_low = omega arith; decision = sym (ok_same p2) }))
      (λ not_late p2. way (not (is_member replica card)) p2
      (λ out p3. not_ok p3)
      (λ inside p3. way (not card.ready) p3
      (λ unready p4. not_ok p4)
      (λ ready p4. go (record { epoch = grind (arith, nat_tests); inside = not-false _ inside; ready = not-false _ ready }) p4))))

  read_view : e.kind ≡ 1 → on_read replica card e ≡ Ok d → ReplicaMove rules replica card e genuine d
  read_view k p = serving_view _ p (λ s q. answers_read k s (sym (ok_same q)))

  write_view : e.kind ≡ 2 → on_write replica card e genuine ≡ Ok d → ReplicaMove rules replica card e genuine d
  write_view k p = serving_view _ p (λ s q.
      way (not genuine) q
      (λ bad q1. not_ok q1)
      (λ good q1. way (above (pair_of e).stamp card.pair.stamp) q1
      (λ higher q2. takes k s (not-false _ good) higher (sym (ok_same q2)))
      (λ lower q2. keeps k s (not-false _ good) lower (sym (ok_same q2)))))

  config_view : e.kind ≡ 7 → on_config replica card e genuine ≡ Ok d → ReplicaMove rules replica card e genuine d
  config_view k p =
      way (not (eqb e.epoch (card.epoch + 1))) p
      (λ other q. not_ok q)
      (λ next q. way (not genuine) q
      (λ bad q1. not_ok q1)
      (λ good q1. way (is_member replica card && not card.ready) q1
      (λ early q2. not_ok q2)
      (λ ready q2. entered next good ready (ok_same q2))))
    where
      left_ready : (inside ready : Bool) → (inside && not ready) ≡ false → inside ≡ true → ready ≡ true
      left_ready true true e1 e2 = refl
      left_ready true false e1 e2 = sym e1
      left_ready false true e1 e2 = refl
      left_ready false false e1 e2 = e2

      by_new : (new : Bool) → Entering replica card e genuine
          → record { save = Some (entering card (configuration_of e)); post = cond new (Some (transfer_entry (party replica) (present card))) None } ≡ d
          → ReplicaMove rules replica card e genuine d
      by_new true en q = enters k en (sym q)
      by_new false en q = enters_outside k en (sym q)

      entered : not (eqb e.epoch (card.epoch + 1)) ≡ false → not genuine ≡ false → (is_member replica card && not card.ready) ≡ false
          → record { save = Some (entering card (configuration_of e)); post = cond (member e.word.0 replica.number) (Some (transfer_entry (party replica) (present card))) None } ≡ d
          → ReplicaMove rules replica card e genuine d
      entered next good ready q =
          by_new (member e.word.0 replica.number)
          (record { next = grind (arith, nat_tests); checks = not-false _ good; ready = left_ready (is_member replica card) card.ready ready }) q

  transfer_view : e.kind ≡ 3 → on_transfer replica card e genuine ≡ Ok d → ReplicaMove rules replica card e genuine d
  transfer_view k p =
      way (not genuine) p
      (λ bad q. not_ok q)
      (λ good q. way (not (member e.word.0 replica.number)) q
      (λ out q1. not_ok q1)
      (λ inside q1. way (leb card.epoch e.epoch) q1
      (λ late q2. talks (record { entry = behind_entry (party replica) e; sender = refl; kind_low = omega arith; decision = sym (ok_same q2) }))
      (λ left q2. gives k (record { checks = not-false _ good; inside = not-false _ inside; left = grind (arith, nat_tests) }) (sym (ok_same q2)))))

  stock_view : e.kind ≡ 6 → on_stock rules replica card e genuine ≡ Ok d → ReplicaMove rules replica card e genuine d
  stock_view k p =
      way (not (is_member replica card && (not card.ready && eqb (e.epoch + 1) card.epoch))) p
      (λ other q. not_ok q)
      (λ awaited q. from_view (not-false _ awaited) (sender_within card.previous.0 e.sender) refl q)
    where
      from_view : (is_member replica card && (not card.ready && eqb (e.epoch + 1) card.epoch)) ≡ true
          → (o : Option Replica) → sender_within card.previous.0 e.sender ≡ o → on_stock_from o rules card e genuine ≡ Ok d
          → ReplicaMove rules replica card e genuine d
      from_view awaited None is q = not_ok q
      from_view awaited (Some from) is q =
          let b = and_parts (is_member replica card) (not card.ready && eqb (e.epoch + 1) card.epoch) awaited in
          let b2 = and_parts (not card.ready) (eqb (e.epoch + 1) card.epoch) b.1 in
          way (member card.heard.0 from.number) q
          (λ again q1. not_ok q1)
          (λ new q1. way (not genuine) q1
          (λ bad q2. not_ok q2)
          (λ good q2. hears k from (record { inside = b.0; epoch = grind (arith, nat_tests); from_previous = is; unheard = new; checks = not-false _ good }) (sym (ok_same q2))))

  kind_view : (o : Option EntryKind) → kind_of e.kind ≡ o → decided_by_kind o rules replica card e genuine ≡ Ok d → ReplicaMove rules replica card e genuine d
  kind_view None is p = not_ok p
  kind_view (Some Read) is p = read_view (kind_known _ _ is) p
  kind_view (Some Write) is p = write_view (kind_known _ _ is) p
  kind_view (Some Transfer) is p = transfer_view (kind_known _ _ is) p
  kind_view (Some APair) is p = not_ok p
  kind_view (Some Ack) is p = not_ok p
  kind_view (Some Stock) is p = stock_view (kind_known _ _ is) p
  kind_view (Some Config) is p = config_view (kind_known _ _ is) p
  kind_view (Some Behind) is p = talks (record { entry = config_entry (party replica) (present card); sender = refl; kind_low = omega arith; decision = sym (ok_same p) })

  -- whatever is decided is one of the moves
  pub replica_view : decided rules replica card e genuine ≡ Ok d → ReplicaMove rules replica card e genuine d
  replica_view p = kind_view (kind_of e.kind) refl p
