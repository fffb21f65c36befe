-- What a replica posts: a liar's entries ask for nothing, an honest replica's are justified by its card.
-- The world is that before the entry is posted.
use Rattle.std.proofs.Common.{◌≡◌, ℕ, ◌+◌, ◌<◌, ◌≤◌, Bool, true, false, List, ◌∷◌, Some, sym, refl, ap, ◌∙◌, subst, subst₂, arith}
use mathlib.Core.Path.{subst₃}
use native.Mathlib.Decide.{ℕ_discrete}
use borrow.Author.Tests.{clash}
use Rattle.wire.specs.declared.entry.Entry.{Entry}
use Rattle.wire.specs.declared.text.Text.{Text}
use Rattle.wire.specs.Sets.{member}
use Rattle.stores.specs.declared.card.Card.{Card}
use Rattle.rules.specs.Posts.{pair_entry, ack_entry, stock_entry}
use Rattle.quorums.specs.Quorums.{Honest}
use Rattle.histories.specs.Places.{Posted, here, there, done, next}
use Rattle.histories.specs.Shapes.{stamp_of, ReadEntry, WriteEntry, PairEntry, AckEntry, StockEntry}
use Rattle.histories.specs.Histories.{Serves, by_pair, by_ack, Served, Stocked, Evidence, Justified}
use Rattle.histories.proofs.Posting.{justified_pair, justified_ack, justified_stock, justified_marked, justified_unruled, Unruled}
use Rattle.histories.proofs.Rounds.{one_write}
use Rattle.model.specs.Tables.{is_full}
use Rattle.model.specs.Halls.{World}
use Rattle.model.proofs.Frames.{card_kept, history_added, later_card, later_genuine, QuietReplica, QuietClient}
use Rattle.model.proofs.Invariants.{views, history, stamp_number, issued_as, CardRule, AnswerRule, Holds, Later}
use Rattle.model.proofs.Posts.{posted_in, later_posted, no_answer, post_keeps}
use Rattle.model.proofs.Ways.{some_same}

-- what an honest replica owes for an entry that it posts
pub record Owed (kind : ℕ) (w : World) (q : ℕ) (x : Entry) : Type 0 where
  pub justified : Justified (views w.hall) x (history w.hall)
  pub answer : AnswerRule kind (posted_in w x) x
  pub card : (card : Card) → CardRule kind w q card → w.hall.place q ≡ Some card → CardRule kind (posted_in w x) q card

pub replica_posts : (kind : ℕ) (sealed : List Text) (w : World) (q : ℕ) (x : Entry) → Holds kind sealed w → is_full w.hall.post ≡ false
    → x.sender ≡ 100 + q → (Honest (views w.hall) q → Owed kind w q x) → Holds kind sealed (posted_in w x)
unfolding later_posted
replica_posts kind sealed w q x holds room by owed = by_mark (member w.hall.marked q) refl
  where
    l : Later w (posted_in w x)
    l = later_posted w x

    quiet_client : (c : ℕ) → 1 ≤ c → c ≤ w.hall.rules.clients → QuietClient c x
    quiet_client c low high = record {
      not_read = λ e k. omega (arith, holds.sized.clients);
      not_write = λ e k. omega (arith, holds.sized.clients);
    }

    other_quiet : (n : ℕ) → (n ≡ q → ⊥) → QuietReplica n x
    other_quiet n ne = record {
      not_pair = λ e k. ne (omega arith);
      not_ack = λ e k. ne (omega arith);
      not_stock = λ e k. ne (omega arith);
    }

    by_mark : (b : Bool) → member w.hall.marked q ≡ b → Holds kind sealed (posted_in w x)
    by_mark true marked =
        post_keeps kind sealed w x holds room
        (justified_marked (record { replica = q; sender = by; marked = marked }))
        (record {
          pair = λ {q = n} s honest. absurd (liar n s.sender honest.unmarked);
          ack = λ {q = n} s honest. absurd (liar n s.sender honest.unmarked);
          genuine = λ {q = n} s honest. absurd (liar n s.sender honest.unmarked);
        })
        (λ n card honest rule kept. later_card kind n card l (next (other_quiet n (λ e. liar n (by ∙ ap (λ m. 100 + m) (sym e)) honest.unmarked)) done) rule)
        quiet_client
      where
        liar : (n : ℕ) → x.sender ≡ 100 + n → member w.hall.marked n ≡ false → ⊥
        liar n s unmarked = clash (sym unmarked ∙ ap (λ m. member w.hall.marked m) same ∙ marked)
          where
            same : n ≡ q
            same = omega arith
    by_mark false unmarked =
        let o = owed (record { unmarked = unmarked }) in
        post_keeps kind sealed w x holds room o.justified o.answer
        (λ n card honest rule kept. by_number n card rule kept (ℕ_discrete n q))
        quiet_client
      where
        by_number : (n : ℕ) (card : Card) → CardRule kind w n card → w.hall.place n ≡ Some card → Dec (n ≡ q) → CardRule kind (posted_in w x) n card
        by_number n card rule kept (yes e) =
            subst (λ m. CardRule kind (posted_in w x) m card) (sym e)
            ((owed (record { unmarked = unmarked })).card card (subst (λ m. CardRule kind w m card) e rule) (ap w.hall.place (sym e) ∙ kept))
        by_number n card rule kept (no ne) = later_card kind n card l (next (other_quiet n ne) done) rule

-- entries of no rule: TRANSFER, CONFIG, BEHIND
pub owed_unruled : (kind : ℕ) (w : World) (q : ℕ) (x : Entry) → Unruled x.kind → Owed kind w q x
unfolding later_posted
owed_unruled kind w q x unruled = record {
  justified = justified_unruled unruled;
  answer = no_answer kind (posted_in w x) x unruled.no_pair unruled.no_ack;
  card = λ card rule kept. later_card kind q card (later_posted w x)
      (next (record { not_pair = λ e k. unruled.no_pair k; not_ack = λ e k. unruled.no_ack k; not_stock = λ e k. unruled.no_stock k }) done) rule;
}

-- the rule of a card once an entry of its replica is posted, which serves nothing above its stamp and is no stock of its present epoch
card_posted : {kind : ℕ} {w : World} {q : ℕ} {card : Card} (x : Entry) → CardRule kind w q card → w.hall.place q ≡ Some card
    → ((e t : ℕ) → Serves q e t x (history w.hall) → t ≤ stamp_number card.pair)
    → ((r a s : ℕ) → StockEntry q r a s x → a < card.epoch)
    → (other : Card) → CardRule kind w q other → w.hall.place q ≡ Some other → CardRule kind (posted_in w x) q other
card_posted {kind} {w} {q} {card} x rule kept serves stocks other r k =
    subst (λ z. CardRule kind (posted_in w x) q z) (some_same (sym kept ∙ k))
    (card_kept (later_posted w x)
    (λ e t s. all_served (subst (λ h. Served h q e t) (history_added w.hall x) s))
    (λ r a s st. all_stocked (subst (λ h. Stocked h q r a s) (history_added w.hall x) st)) rule)
  where
    all_served : {e t : ℕ} → Served (x ∷ history w.hall) q e t → t ≤ stamp_number card.pair
    all_served (here s) = serves _ _ s
    all_served (there s) = rule.served s

    all_stocked : {r a s : ℕ} → Stocked (x ∷ history w.hall) q r a s → a < card.epoch
    all_stocked (here s) = stocks _ _ _ s
    all_stocked (there s) = rule.stocked s

-- of a ready member that is asked in its own epoch
module _ {kind : ℕ} {w : World} {q : ℕ} {card : Card} (rule : CardRule kind w q card) (asked : Entry) (epoch : asked.epoch ≡ card.epoch)
    (inside : member card.set.0 q ≡ true) (ready : card.ready ≡ true) where
  evident : Evidence (views w.hall) (history w.hall) q asked.epoch (stamp_number card.pair)
  evident = subst (λ e. Evidence (views w.hall) (history w.hall) q e (stamp_number card.pair)) (sym epoch) (rule.ready ready)

  unstocked : {r a s : ℕ} → Stocked (history w.hall) q r a s → a < asked.epoch
  unstocked s = omega (arith, rule.stocked s)

  answers_in : (n e : ℕ) → 100 + q ≡ 100 + n → asked.epoch ≡ e → member (issued_as w.hall e).set.0 n ≡ true
  answers_in n e by is = subst₂ (λ d m. member (issued_as w.hall d).set.0 m ≡ true) (sym epoch ∙ is) same (ap (λ m. member m q) (sym rule.set) ∙ inside)
    where
      same : q ≡ n
      same = omega arith

-- PAIR in answer to a READ of its epoch that stands in the post: it is a ready member there
pub owed_pair : (kind : ℕ) (w : World) (q : ℕ) (asked : Entry) (card : Card) → CardRule kind w q card → w.hall.place q ≡ Some card
    → asked.epoch ≡ card.epoch → member card.set.0 q ≡ true → card.ready ≡ true
    → Posted (ReadEntry asked.sender asked.round asked.epoch) (history w.hall)
    → Owed kind w q (pair_entry (100 + q) asked card.pair)
owed_pair kind w q asked card rule kept epoch inside ready read = record {
  justified = justified_pair shape (λ honest. record {
    evidence = evident rule asked epoch inside ready;
    unstocked = unstocked rule asked epoch inside ready;
    highest = rule.served;
    asked = read;
  });
  answer = record {
    pair = λ {q = n} {e} {s = t} s honest. answers_in rule asked epoch inside ready n e s.sender s.epoch;
    ack = λ s honest. absurd (omega (arith, s.kind));
    genuine = λ s honest. later_genuine kind (later_posted w x) card.pair rule.genuine;
  };
  card = card_posted x rule kept serves (λ r a t s. absurd (omega (arith, s.kind)));
}
  where
    x : Entry
    x = pair_entry (100 + q) asked card.pair

    shape : PairEntry q asked.epoch (stamp_number card.pair) x
    shape = record { sender = refl; kind = refl; epoch = refl; stamp = refl }

    serves : (e t : ℕ) → Serves q e t x (history w.hall) → t ≤ stamp_number card.pair
    serves e t (by_pair s) = omega (arith, s.stamp)
    serves e t (by_ack s m) = absurd (omega (arith, s.kind))

-- ACK in answer to a WRITE of its epoch that stands in the post, whose stamp is not above the card's
pub owed_ack : (kind : ℕ) (sealed : List Text) (w : World) (q : ℕ) (asked : Entry) (card : Card) → Holds kind sealed w → CardRule kind w q card → w.hall.place q ≡ Some card
    → asked.epoch ≡ card.epoch → member card.set.0 q ≡ true → card.ready ≡ true
    → Posted (WriteEntry asked.sender asked.round asked.epoch (stamp_of asked)) (history w.hall)
    → stamp_of asked ≤ stamp_number card.pair
    → Owed kind w q (ack_entry (100 + q) asked)
owed_ack kind sealed w q asked card holds rule kept epoch inside ready written low = record {
  justified = justified_ack shape (λ honest. record {
    stamp = stamp_number card.pair;
    evidence = evident rule asked epoch inside ready;
    unstocked = unstocked rule asked epoch inside ready;
    written = stamp_of asked;
    asked = written;
  });
  answer = record {
    pair = λ s honest. absurd (omega (arith, s.kind));
    ack = λ {q = n} {e} {c} {r} s honest. answers_in rule asked epoch inside ready n e s.sender s.epoch;
    genuine = λ s honest. absurd (omega (arith, s.kind));
  };
  card = card_posted x rule kept serves (λ r a t s. absurd (omega (arith, s.kind)));
}
  where
    x : Entry
    x = ack_entry (100 + q) asked

    shape : AckEntry q asked.epoch asked.sender asked.round x
    shape = record { sender = refl; kind = refl; addressee = refl; round = refl; epoch = refl }

    same_stamp : {e c r t : ℕ} → AckEntry q e c r x → Posted (WriteEntry c r e t) (history w.hall) → t ≤ stamp_number card.pair
    same_stamp {e} {c} {r} {t} s m = omega (arith, (one_write holds.good written found).stamps)
      where
        found : Posted (WriteEntry asked.sender asked.round asked.epoch t) (history w.hall)
        found = subst₃ (λ c r e. Posted (WriteEntry c r e t) (history w.hall)) (sym s.addressee) (sym s.round) (sym s.epoch) m

    serves : (e t : ℕ) → Serves q e t x (history w.hall) → t ≤ stamp_number card.pair
    serves e t (by_pair s) = absurd (omega (arith, s.kind))
    serves e t (by_ack s m) = same_stamp s m

-- STOCK of an epoch that it was a member of and has left
pub owed_stock : (kind : ℕ) (w : World) (q r : ℕ) (asked : Entry) (card : Card) → CardRule kind w q card → w.hall.place q ≡ Some card
    → asked.sender ≡ 100 + r → asked.epoch < card.epoch → member (issued_as w.hall asked.epoch).set.0 q ≡ true
    → Owed kind w q (stock_entry (100 + q) asked card.pair)
owed_stock kind w q r asked card rule kept from left inside = record {
  justified = justified_stock shape (λ honest. record { evidence = rule.left asked.epoch left inside; highest = rule.served });
  answer = no_answer kind (posted_in w x) x (λ e. omega arith) (λ e. omega arith);
  card = card_posted x rule kept serves (λ o a t s. omega (arith, s.epoch));
}
  where
    x : Entry
    x = stock_entry (100 + q) asked card.pair

    shape : StockEntry q r asked.epoch (stamp_number card.pair) x
    shape = record { sender = refl; kind = refl; addressee = from; epoch = refl; stamp = refl }

    serves : (e t : ℕ) → Serves q e t x (history w.hall) → t ≤ stamp_number card.pair
    serves e t (by_pair s) = absurd (omega (arith, s.kind))
    serves e t (by_ack s m) = absurd (omega (arith, s.kind))
