-- The card of an honest replica: what a write, a configuration and a state transfer make of it keeps its rule.
-- Each lemma speaks of one world, in which the entry that is taken stands in the post.
use Rattle.std.proofs.Common.{◌≡◌, ℕ, ◌+◌, ◌<◌, ◌≤◌, true, ◌⊎◌, List, length, sym, ap, ◌∙◌, subst, inl, inr, arith, leb-true}
use lib.Count.{ones}
use borrow.Author.Tests.{clash}
use native.Mathlib.Decide.{dec_lt}
use Rattle.wire.specs.declared.entry.Entry.{Entry}
use Rattle.wire.specs.declared.pair.Configuration.{Configuration}
use Rattle.wire.specs.declared.pair.Pair.{Pair}
use Rattle.wire.specs.Sets.{member, inserted}
use Rattle.wire.specs.Parties.{Replica}
use Rattle.stores.specs.declared.card.Card.{Card}
use Rattle.rules.specs.Genuine.{quorum_size}
use Rattle.replicas.specs.Decisions.{holding, entering, higher, stocked}
use Rattle.quorums.specs.Quorums.{Views, Within}
use Rattle.quorums.proofs.Insertion.{none_in_empty, empty_within, inserted_cases, inserted_within}
use Rattle.histories.specs.Histories.{Stocked, StockedTo, Evidence, Fetched}
use Rattle.model.specs.Halls.{World}
use Rattle.model.proofs.Invariants.{views, history, stamp_number, issued_as, KnownConfiguration, KnownPair, Genuine, CardRule}

-- a higher stamp serves as evidence too
pub stocked_raised : {h : List Entry} {n q a s : ℕ} (t : ℕ) → s ≤ t → StockedTo h n q a s → StockedTo h n q a t
stocked_raised t le st = record { stamp = st.stamp; low = omega arith; stocked = st.stocked }

pub evidence_raised : {v : Views} {h : List Entry} {q e s : ℕ} (t : ℕ) → s ≤ t → Evidence v h q e s → Evidence v h q e t
evidence_raised t le ev = record {
  fetched = λ a e. record {
    from = (ev.fetched a e).from;
    quorum = (ev.fetched a e).quorum;
    stocks = λ n m. stocked_raised t le ((ev.fetched a e).stocks n m);
  };
}

-- another pair, not lower than the old one
pub card_raised : {kind : ℕ} {w : World} {q : ℕ} {card : Card} (p : Pair) → stamp_number card.pair ≤ stamp_number p → KnownPair w.hall p → Genuine kind w p
    → CardRule kind w q card → CardRule kind w q (holding card p)
card_raised {w = w} {q = q} {card = card} p le known genuine r = record {
  issued = r.issued;
  set = r.set;
  previous = r.previous;
  served = λ s. raise (r.served s);
  stocked = r.stocked;
  left = λ e lt m. evidence_raised (stamp_number p) le (r.left e lt m);
  ready = λ y. evidence_raised (stamp_number p) le (r.ready y);
  heard = λ n a m e. stocked_raised (stamp_number p) le (r.heard n a m e);
  heard_within = r.heard_within;
  known = known;
  genuine = genuine;
}
  where
    raise : {t : ℕ} → t ≤ stamp_number card.pair → t ≤ stamp_number p
    raise s = omega arith

-- the next configuration: what was the present set is the previous one, and the epoch that is left has its evidence
pub card_entering : {kind : ℕ} {w : World} {q : ℕ} {card : Card} (c : Configuration) → KnownConfiguration w.hall c → c.epoch ≡ card.epoch + 1
    → (member card.set.0 q ≡ true → card.ready ≡ true) → CardRule kind w q card → CardRule kind w q (entering card c)
card_entering {kind} {w} {q} {card} c known next left_ready r = record {
  issued = known.issued;
  set = known.set;
  previous = λ a e. r.set ∙ ap (λ x. (issued_as w.hall x).set.0) (same a e);
  served = r.served;
  stocked = λ s. under (r.stocked s);
  left = leaves;
  ready = λ y. absurd (clash y);
  heard = λ n a m e. absurd (clash (sym (none_in_empty n) ∙ m));
  heard_within = λ a e. empty_within (issued_as w.hall a).set.0;
  known = r.known;
  genuine = r.genuine;
}
  where
    same : (a : ℕ) → c.epoch ≡ a + 1 → card.epoch ≡ a
    same a e = omega arith

    under : {a : ℕ} → a < card.epoch → a < c.epoch
    under lt = omega arith

    either : (e : ℕ) → e < c.epoch → (e < card.epoch) ⊎ (card.epoch ≡ e)
    either e lt = ordered (dec_lt e card.epoch)
      where
        ordered : Dec (e < card.epoch) → (e < card.epoch) ⊎ (card.epoch ≡ e)
        ordered (yes below) = inl below
        ordered (no not_below) = inr (omega arith)

    by_epoch : (e : ℕ) → (e < card.epoch) ⊎ (card.epoch ≡ e) → member (issued_as w.hall e).set.0 q ≡ true → Evidence (views w.hall) (history w.hall) q e (stamp_number card.pair)
    by_epoch e (inl below) m = r.left e below m
    by_epoch e (inr is) m =
        subst (λ x. Evidence (views w.hall) (history w.hall) q x (stamp_number card.pair)) is
        (r.ready (left_ready (ap (λ x. member x q) (r.set ∙ ap (λ x. (issued_as w.hall x).set.0) is) ∙ m)))

    leaves : (e : ℕ) → e < c.epoch → member (issued_as w.hall e).set.0 q ≡ true → Evidence (views w.hall) (history w.hall) q e (stamp_number card.pair)
    leaves e lt m = by_epoch e (either e lt) m

-- the pair that is kept, of the card's and of one that came as stock
pub record NotLower (p q kept : Pair) : Type 0 where
  pub first : stamp_number p ≤ stamp_number kept
  pub second : stamp_number q ≤ stamp_number kept

-- one more member of the previous set is heard: 2f+1 of them are the evidence of the present epoch
pub card_stocked : {kind : ℕ} {w : World} {q : ℕ} {card : Card} (from : Replica) (p : Pair) (a : ℕ) → card.epoch ≡ a + 1
    → NotLower card.pair p (higher card.pair p) → KnownPair w.hall (higher card.pair p) → Genuine kind w (higher card.pair p)
    → member (issued_as w.hall a).set.0 from.number ≡ true
    → Stocked (history w.hall) from.number q a (stamp_number p)
    → CardRule kind w q card → CardRule kind w q (stocked w.hall.rules card from p)
card_stocked {kind} {w} {q} {card} from p a is higher_than known genuine inside stock r = record {
  issued = r.issued;
  set = r.set;
  previous = r.previous;
  served = λ s. raise (r.served s);
  stocked = r.stocked;
  left = λ e lt m. evidence_raised top higher_than.first (r.left e lt m);
  ready = λ y. evident (leb-true (quorum_size w.hall.rules) (ones heard_now) y);
  heard = now_heard;
  heard_within = λ b e. subst (λ x. Within heard_now (issued_as w.hall x).set.0) (same b e) within_now;
  known = known;
  genuine = genuine;
}
  where
    top : ℕ
    top = stamp_number (higher card.pair p)

    heard_now : ℕ
    heard_now = inserted card.heard.0 from.number

    same : (b : ℕ) → card.epoch ≡ b + 1 → a ≡ b
    same b e = omega arith

    raise : {t : ℕ} → t ≤ stamp_number card.pair → t ≤ stamp_number (higher card.pair p)
    raise s = omega (arith, higher_than.first)

    within_now : Within (inserted card.heard.0 from.number) (issued_as w.hall a).set.0
    within_now = inserted_within from.number (r.heard_within a is) inside

    by_case : (n : ℕ) → (n ≡ from.number) ⊎ (member card.heard.0 n ≡ true) → StockedTo (history w.hall) n q a (stamp_number (higher card.pair p))
    by_case n (inl e) = subst (λ x. StockedTo (history w.hall) x q a (stamp_number (higher card.pair p))) (sym e)
        (record { stamp = stamp_number p; low = higher_than.second; stocked = stock })
    by_case n (inr m) = stocked_raised (stamp_number (higher card.pair p)) higher_than.first (r.heard n a m is)

    each : (n : ℕ) → member (inserted card.heard.0 from.number) n ≡ true → StockedTo (history w.hall) n q a (stamp_number (higher card.pair p))
    each n m = by_case n (inserted_cases card.heard.0 from.number n m)

    now_heard : (n b : ℕ) → member (inserted card.heard.0 from.number) n ≡ true → card.epoch ≡ b + 1 → StockedTo (history w.hall) n q b (stamp_number (higher card.pair p))
    now_heard n b m e = subst (λ x. StockedTo (history w.hall) n q x (stamp_number (higher card.pair p))) (same b e) (each n m)

    evident : quorum_size w.hall.rules ≤ ones (inserted card.heard.0 from.number) → Evidence (views w.hall) (history w.hall) q card.epoch (stamp_number (higher card.pair p))
    evident large = record {
      fetched = λ b e. subst (λ x. Fetched (views w.hall) (history w.hall) q x (stamp_number (higher card.pair p))) (same b e)
          (record {
            from = inserted card.heard.0 from.number;
            quorum = record { issued = before; within = within_now; large = large };
            stocks = each;
          });
    }
      where
        before : a < length w.hall.roll.list
        before = omega (arith, r.issued)
