-- The step of a replica keeps every rule.
-- The entry that is handed over stands in the post, and the post has room.
use Rattle.std.proofs.Common.{◌≡◌, ℕ, ◌+◌, ◌-◌, ◌<◌, ◌≤◌, Bool, true, false, cond, eqb, List, length, Some, None, Ok, Err, Option, sym, refl, ap, ◌∙◌, subst, subst₂, le_of_lt, arith, eq-eqb, eqb-true}
use Rattle.std.proofs.lemmas.Bool.{and_parts}
use Rattle.std.proofs.lemmas.Bool.Decides.{nat_tests}
use Rattle.wire.specs.declared.entry.Entry.{Entry}
use Rattle.wire.specs.declared.pair.Pair.{Pair}
use Rattle.wire.specs.declared.text.Text.{Text}
use Rattle.wire.specs.Entries.{kind_of, pair_of, configuration_of}
use Rattle.wire.specs.Parties.{Replica}
use Rattle.wire.specs.Sets.{member}
use Rattle.wire.specs.Stamps.{above}
use Rattle.stores.specs.declared.card.Card.{Card}
use Rattle.stores.specs.declared.fault.StoreFault.TheVariants.{NoSave}
use Rattle.stores.specs.Saved.{after, put, none_left, one_fewer}
use Rattle.rules.specs.Genuine.{genuine_entry, genuine_by_kind}
use Rattle.replicas.specs.declared.decision.Decision.{Decision}
use Rattle.replicas.specs.Decisions.{Verdict, holding, entering, stocked, decided}
use Rattle.replicas.specs.Steps.{after_save, saving, acted, with_card}
use Rattle.quorums.specs.Quorums.{Honest}
use Rattle.histories.specs.Places.{Posted}
use Rattle.histories.specs.Shapes.{stamp_of, ReadEntry, WriteEntry}
use Rattle.model.specs.Tables.{is_full}
use Rattle.model.specs.Halls.{World}
use Rattle.model.specs.Delivering.{entry_of, fits_replica, posting, replica_step_of, shelf_of, is_client_number, is_replica_number}
use Rattle.model.specs.Halls.{with_store}
use Rattle.model.specs.Runs.{text_of, text_by_kind}
use Rattle.model.proofs.Cards.{card_raised, card_entering, card_stocked, NotLower}
use Rattle.model.proofs.Frames.{posted_as}
use Rattle.model.proofs.Heard.{SentBy, sent_by}
use Rattle.model.proofs.Invariants.{views, history, KnownConfiguration, KnownPair, Genuine, CardRule, CardOf, Holds, UnforgedNow}
use Rattle.model.proofs.Posts.{saved_in, card_keeps}
use Rattle.model.proofs.ReplicaMoves.{ReplicaMove, talks, answers_read, keeps, takes, enters, enters_outside, gives, hears, Hearing, replica_view}
use Rattle.model.proofs.ReplicaPosts.{Owed, replica_posts, owed_unruled, owed_pair, owed_ack, owed_stock}
use Rattle.model.proofs.Seals.{checked_pair, checked_configuration, known_writer}
use Rattle.model.proofs.Stamps.{above_higher, not_above}
use Rattle.model.proofs.Ways.{not_ok, ok_same, some_same}

-- the world after a step of a replica
abbrev pub replica_world : World → (ℕ → Option Card) → Option ℕ → Option Entry → World
replica_world w place saves post = record w { hall = posting (with_store w.hall place saves) post }

-- what a step without a save leaves
record Unsaved (w : World) (said post : Option Entry) (place : ℕ → Option Card) (saves : Option ℕ) : Type 0 where
  place_is : w.hall.place ≡ place
  saves_is : w.hall.saves ≡ saves
  post_is : said ≡ post

unsaved : (w : World) (n : ℕ) (said post : Option Entry) (place : ℕ → Option Card) (saves : Option ℕ)
    → saving None (shelf_of w) n said ≡ record { answer = Ok post; place = place; saves = saves } → Unsaved w said post place saves
unsaved w n said post place saves e = record { place_is = ap (λ s. s.place) e; saves_is = ap (λ s. s.saves) e; post_is = ok_same (ap (λ s. s.answer) e) }

-- what a step with a save leaves
record DidSave (w : World) (n : ℕ) (card : Card) (said post : Option Entry) (place : ℕ → Option Card) : Type 0 where
  place_is : put w.hall.place n card ≡ place
  post_is : said ≡ post

did_save : (w : World) (n : ℕ) (card : Card) (said post : Option Entry) (place : ℕ → Option Card) (saves : Option ℕ)
    → saving (Some card) (shelf_of w) n said ≡ record { answer = Ok post; place = place; saves = saves } → DidSave w n card said post place
did_save w n card said post place saves e = by_room (none_left w.hall.saves) e
  where
    by_room : (b : Bool)
        → after_save (cond b (after (Err (NoSave w.left_open.next)) w.hall.place w.hall.saves) (after (Ok tt) (put w.hall.place n card) (one_fewer w.hall.saves))) said
        ≡ record { answer = Ok post; place = place; saves = saves }
        → DidSave w n card said post place
    by_room true is = not_ok (ap (λ s. s.answer) is)
    by_room false is = record { place_is = ap (λ s. s.place) is; post_is = ok_same (ap (λ s. s.answer) is) }

module _ (kind : ℕ) (sealed : List Text) (w : World) (small : kind ≤ 63) (holds : Holds kind sealed w) (unforged : UnforgedNow kind sealed w)
    (n : ℕ) (lt : n < length w.hall.post.list) (replica : Replica) (inside : replica.number < w.hall.rules.replicas)
    (room : is_full w.hall.post ≡ false)
    (fits : fits_replica (kind_of (entry_of w.hall n).kind) (entry_of w.hall n) replica ≡ true) where
  -- the step has saved and posted as decided
  record Moved (place : ℕ → Option Card) (saves : Option ℕ) (post : Option Entry) (d : Decision) : Type 0 where
    done : saving d.save (shelf_of w) replica.number d.post ≡ record { answer = Ok post; place = place; saves = saves }

  moved_as : (place : ℕ → Option Card) (saves : Option ℕ) (post : Option Entry) (d d' : Decision) → d ≡ d' → Moved place saves post d → Moved place saves post d'
  moved_as place saves post d d' is m = subst (λ z. Moved place saves post z) is m

  -- an entry is posted in its name, and no card is saved
  posts_only : (x : Entry) (place : ℕ → Option Card) (saves : Option ℕ) (post : Option Entry) → x.sender ≡ 100 + replica.number
      → (Honest (views w.hall) replica.number → Owed kind w replica.number x)
      → Moved place saves post (record { save = None; post = Some x }) → Holds kind sealed (replica_world w place saves post)
  posts_only x place saves post by owed m =
      let u = unsaved w replica.number (Some x) post place saves m.done in
      subst (λ p. Holds kind sealed (replica_world w place saves p)) u.post_is
      (subst₂ (λ pl sv. Holds kind sealed (replica_world w pl sv (Some x))) u.place_is u.saves_is
      (replica_posts kind sealed w replica.number x holds room by owed))

  -- a card is saved
  saves_card : (card : Card) (saves : Option ℕ) → (Honest (views w.hall) replica.number → CardRule kind w replica.number card)
      → Holds kind sealed (saved_in w (put w.hall.place replica.number card) saves)
  saves_card card saves rule = card_keeps kind sealed w replica.number card saves holds rule

  -- the replica's card, and its rule
  mine : CardOf kind w replica.number
  mine = holds.cards replica.number inside

  checks : Bool
  checks = genuine_entry w.hall.rules kind w.genuine (entry_of w.hall n)

  -- what the kind of the entry says of it
  fits_at : (k : ℕ) → (entry_of w.hall n).kind ≡ k → fits_replica (kind_of k) (entry_of w.hall n) replica ≡ true
  fits_at k is = subst (λ z. fits_replica (kind_of z) (entry_of w.hall n) replica ≡ true) is fits

  genuine_at : (k : ℕ) → (entry_of w.hall n).kind ≡ k → genuine_entry w.hall.rules kind w.genuine (entry_of w.hall n) ≡ true
      → genuine_by_kind (kind_of k) w.hall.rules kind w.genuine (entry_of w.hall n) ≡ true
  genuine_at k is g = subst (λ z. genuine_by_kind (kind_of z) w.hall.rules kind w.genuine (entry_of w.hall n) ≡ true) is g

  text_at : (k : ℕ) → (entry_of w.hall n).kind ≡ k → text_of kind (entry_of w.hall n) ≡ text_by_kind (kind_of k) kind (entry_of w.hall n)
  text_at k is = ap (λ z. text_by_kind (kind_of z) kind (entry_of w.hall n)) is

  below_100 : is_client_number (entry_of w.hall n).sender ≡ true → (entry_of w.hall n).sender < 100
  below_100 c = grind (arith, nat_tests)

  read_posted : (entry_of w.hall n).kind ≡ 1 → Posted (ReadEntry (entry_of w.hall n).sender (entry_of w.hall n).round (entry_of w.hall n).epoch) (history w.hall)
  read_posted is = posted_as w.hall n lt (record { client = below_100 (fits_at 1 is); sender = refl; kind = is; round = refl; epoch = refl })

  write_posted : (entry_of w.hall n).kind ≡ 2 → Posted (WriteEntry (entry_of w.hall n).sender (entry_of w.hall n).round (entry_of w.hall n).epoch (stamp_of (entry_of w.hall n))) (history w.hall)
  write_posted is = posted_as w.hall n lt (record { client = below_100 (fits_at 2 is); sender = refl; kind = is; round = refl; epoch = refl; stamp = refl })

  -- the pair and the configuration that it carries, where they check
  pair_known : (entry_of w.hall n).kind ≡ 2 → checks ≡ true → KnownPair w.hall (pair_of (entry_of w.hall n))
  unfolding checks
  pair_known is g = checked_pair kind sealed w small holds unforged n lt (text_at 2 is) (genuine_at 2 is g)

  stock_known : (entry_of w.hall n).kind ≡ 6 → checks ≡ true → KnownPair w.hall (pair_of (entry_of w.hall n))
  unfolding checks
  stock_known is g = checked_pair kind sealed w small holds unforged n lt (text_at 6 is) (genuine_at 6 is g)

  config_known : (entry_of w.hall n).kind ≡ 7 → checks ≡ true → KnownConfiguration w.hall (configuration_of (entry_of w.hall n))
  unfolding checks
  config_known is g = checked_configuration kind sealed w small holds unforged n lt (text_at 7 is) (genuine_at 7 is g)

  transfer_known : (entry_of w.hall n).kind ≡ 3 → checks ≡ true → KnownConfiguration w.hall (configuration_of (entry_of w.hall n))
  unfolding checks
  transfer_known is g = checked_configuration kind sealed w small holds unforged n lt (text_at 3 is) (genuine_at 3 is g)

  -- the card that was just put there
  put_there : (card : Card) → put w.hall.place replica.number card replica.number ≡ Some card
  put_there card = ap (λ b. cond b (Some card) (w.hall.place replica.number)) (eq-eqb replica.number replica.number refl)

  saved_rule : (card : Card) (saves : Option ℕ) → Holds kind sealed (saved_in w (put w.hall.place replica.number card) saves)
      → Honest (views w.hall) replica.number → CardRule kind (saved_in w (put w.hall.place replica.number card) saves) replica.number card
  saved_rule card saves holds1 honest =
      let c = holds1.cards replica.number inside in
      subst (λ z. CardRule kind (saved_in w (put w.hall.place replica.number card) saves) replica.number z)
      (some_same (sym c.kept ∙ put_there card)) (c.rule honest)

  -- a card is saved and an entry is posted
  saves_and_posts : (card : Card) (x : Entry) (place : ℕ → Option Card) (saves : Option ℕ) (post : Option Entry) → x.sender ≡ 100 + replica.number
      → Moved place saves post (record { save = Some card; post = Some x })
      → (Honest (views w.hall) replica.number → CardRule kind w replica.number card)
      → (Holds kind sealed (saved_in w (put w.hall.place replica.number card) saves) → Honest (views w.hall) replica.number
      → Owed kind (saved_in w (put w.hall.place replica.number card) saves) replica.number x)
      → Holds kind sealed (replica_world w place saves post)
  saves_and_posts card x place saves post by m rule owed =
      let did = did_save w replica.number card (Some x) post place saves m.done in
      let holds1 = saves_card card saves rule in
      subst (λ p. Holds kind sealed (replica_world w place saves p)) did.post_is
      (subst (λ pl. Holds kind sealed (replica_world w pl saves (Some x))) did.place_is
      (replica_posts kind sealed (saved_in w (put w.hall.place replica.number card) saves) replica.number x holds1 room by (owed holds1)))

  saves_only : (card : Card) (place : ℕ → Option Card) (saves : Option ℕ) (post : Option Entry)
      → Moved place saves post (record { save = Some card; post = None })
      → (Honest (views w.hall) replica.number → CardRule kind w replica.number card)
      → Holds kind sealed (replica_world w place saves post)
  saves_only card place saves post m rule =
      let did = did_save w replica.number card None post place saves m.done in
      subst (λ p. Holds kind sealed (replica_world w place saves p)) did.post_is
      (subst (λ pl. Holds kind sealed (replica_world w pl saves None)) did.place_is (saves_card card saves rule))

  -- stamps of the card and of the pair that is taken
  small_writer : (p : Pair) → KnownPair w.hall p → p.stamp.writer < 256
  small_writer p known = known_writer kind sealed w holds p known

  -- STOCK that it awaits, with its sender
  hears_rule : (entry_of w.hall n).kind ≡ 6 → (from : Replica) → Hearing replica mine.card (entry_of w.hall n) checks from
      → Honest (views w.hall) replica.number → CardRule kind w replica.number (stocked w.hall.rules mine.card from (pair_of (entry_of w.hall n)))
  unfolding checks
  hears_rule k from h honest =
      card_stocked from (pair_of (entry_of w.hall n)) (entry_of w.hall n).epoch (sym h.epoch)
      (by_above (above (pair_of (entry_of w.hall n)).stamp mine.card.pair.stamp) refl)
      (known_higher (above (pair_of (entry_of w.hall n)).stamp mine.card.pair.stamp))
      (genuine_higher (above (pair_of (entry_of w.hall n)).stamp mine.card.pair.stamp))
      (ap (λ z. member z from.number) (sym ((mine.rule honest).previous (entry_of w.hall n).epoch (sym h.epoch))) ∙ sent.inside)
      (posted_as w.hall n lt (record {
        sender = sent.number;
        kind = k;
        addressee = eqb-true _ _ (and_parts (is_replica_number (entry_of w.hall n).sender) (eqb (entry_of w.hall n).addressee (100 + replica.number)) (fits_at 6 k)).1;
        epoch = refl;
        stamp = refl;
      }))
      (mine.rule honest)
    where
      known : KnownPair w.hall (pair_of (entry_of w.hall n))
      known = stock_known k h.checks

      sent : SentBy mine.card.previous.0 (entry_of w.hall n).sender from
      sent = sent_by mine.card.previous.0 (entry_of w.hall n).sender from h.from_previous

      by_above : (b : Bool) → above (pair_of (entry_of w.hall n)).stamp mine.card.pair.stamp ≡ b
          → NotLower mine.card.pair (pair_of (entry_of w.hall n)) (cond b (pair_of (entry_of w.hall n)) mine.card.pair)
      by_above true e = record {
        first = le_of_lt (above_higher (pair_of (entry_of w.hall n)) mine.card.pair (small_writer _ known) (small_writer _ (mine.rule honest).known) e);
        second = omega arith;
      }
      by_above false e = record {
        first = omega arith;
        second = not_above (pair_of (entry_of w.hall n)) mine.card.pair (small_writer _ known) (small_writer _ (mine.rule honest).known) e;
      }

      known_higher : (b : Bool) → KnownPair w.hall (cond b (pair_of (entry_of w.hall n)) mine.card.pair)
      known_higher true = known
      known_higher false = (mine.rule honest).known

      genuine_higher : (b : Bool) → Genuine kind w (cond b (pair_of (entry_of w.hall n)) mine.card.pair)
      genuine_higher true = genuine_at 6 k h.checks
      genuine_higher false = (mine.rule honest).genuine

  by_move : (place : ℕ → Option Card) (saves : Option ℕ) (post : Option Entry) (d : Decision) → Moved place saves post d
      → ReplicaMove w.hall.rules replica mine.card (entry_of w.hall n) checks d → Holds kind sealed (replica_world w place saves post)
  unfolding checks history mine
  by_move place saves post d m (talks t) =
      posts_only t.entry place saves post t.sender (λ honest. owed_unruled kind w replica.number t.entry (omega (arith, t.kind_low)))
      (moved_as place saves post _ _ t.decision m)
  by_move place saves post d m (answers_read k s is) =
      posts_only _ place saves post refl
      (λ honest. owed_pair kind w replica.number (entry_of w.hall n) mine.card (mine.rule honest) mine.kept s.epoch s.inside s.ready (read_posted k))
      (moved_as place saves post _ _ is m)
  by_move place saves post d m (keeps k s g lower is) =
      posts_only _ place saves post refl
      (λ honest. owed_ack kind sealed w replica.number (entry_of w.hall n) mine.card holds (mine.rule honest) mine.kept s.epoch s.inside s.ready (write_posted k)
      (not_above (pair_of (entry_of w.hall n)) mine.card.pair (small_writer _ (pair_known k g)) (small_writer _ (mine.rule honest).known) lower))
      (moved_as place saves post _ _ is m)
  by_move place saves post d m (takes k s g higher_one is) =
      saves_and_posts (holding mine.card (pair_of (entry_of w.hall n))) _ place saves post refl
      (moved_as place saves post _ _ is m)
      (λ honest. card_raised (pair_of (entry_of w.hall n))
      (le_of_lt (above_higher (pair_of (entry_of w.hall n)) mine.card.pair (small_writer _ (pair_known k g)) (small_writer _ (mine.rule honest).known) higher_one))
      (pair_known k g) (genuine_at 2 k g) (mine.rule honest))
      (λ holds1 honest. owed_ack kind sealed (saved_in w (put w.hall.place replica.number (holding mine.card (pair_of (entry_of w.hall n)))) saves)
      replica.number (entry_of w.hall n) (holding mine.card (pair_of (entry_of w.hall n))) holds1
      (saved_rule _ saves holds1 honest) (put_there _) s.epoch s.inside s.ready (write_posted k) (omega arith))
  by_move place saves post d m (enters k en is) =
      saves_and_posts (entering mine.card (configuration_of (entry_of w.hall n))) _ place saves post refl
      (moved_as place saves post _ _ is m)
      (λ honest. card_entering (configuration_of (entry_of w.hall n)) (config_known k en.checks) en.next en.ready (mine.rule honest))
      (λ holds1 honest. owed_unruled kind _ replica.number _ (omega arith))
  by_move place saves post d m (enters_outside k en is) =
      saves_only (entering mine.card (configuration_of (entry_of w.hall n))) place saves post
      (moved_as place saves post _ _ is m)
      (λ honest. card_entering (configuration_of (entry_of w.hall n)) (config_known k en.checks) en.next en.ready (mine.rule honest))
  by_move place saves post d m (gives k g is) =
      posts_only _ place saves post refl
      (λ honest. owed_stock kind w replica.number ((entry_of w.hall n).sender - 100) (entry_of w.hall n) mine.card (mine.rule honest) mine.kept
      (from_replica (fits_at 3 k)) g.left (ap (λ z. member z replica.number) (sym (transfer_known k g.checks).set) ∙ g.inside))
      (moved_as place saves post _ _ is m)
    where
      from_replica : is_replica_number (entry_of w.hall n).sender ≡ true → (entry_of w.hall n).sender ≡ 100 + ((entry_of w.hall n).sender - 100)
      from_replica r = grind (arith, nat_tests)
  by_move place saves post d m (hears k from h is) =
      saves_only (stocked w.hall.rules mine.card from (pair_of (entry_of w.hall n))) place saves post
      (moved_as place saves post _ _ is m)
      (λ honest. hears_rule k from h honest)

  -- whatever a replica does with the entry keeps the rules
  pub replica_keeps : (place : ℕ → Option Card) (saves : Option ℕ) (post : Option Entry)
      → replica_step_of w kind replica (entry_of w.hall n) ≡ record { answer = Ok post; place = place; saves = saves }
      → Holds kind sealed (replica_world w place saves post)
  unfolding checks
  replica_keeps place saves post stepped = by_verdict (decided w.hall.rules replica mine.card (entry_of w.hall n) checks) refl
      (sym (ap (λ o. with_card o w.hall.rules kind w.genuine (shelf_of w) replica (entry_of w.hall n)) mine.kept) ∙ stepped)
    where
      by_verdict : (v : Verdict) → decided w.hall.rules replica mine.card (entry_of w.hall n) checks ≡ v
          → acted v (shelf_of w) replica ≡ record { answer = Ok post; place = place; saves = saves } → Holds kind sealed (replica_world w place saves post)
      by_verdict (Err why) is a = not_ok (ap (λ z. z.answer) a)
      by_verdict (Ok d) is a = by_move place saves post d (record { done = a }) (replica_view w.hall.rules replica mine.card (entry_of w.hall n) checks d is)
