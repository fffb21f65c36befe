-- What replicas and quorums have done, and what was justified, stays so when epochs are added.
-- Assumes nothing.
use Rattle.std.proofs.Common.{ℕ, List}
use Rattle.wire.specs.declared.entry.Entry.{Entry}
use Rattle.quorums.specs.Quorums.{Views, Extends}
use Rattle.quorums.proofs.Meeting.{quorum_extends, honest_before}
use Rattle.histories.specs.Places.Everywhere.{done, next}
use Rattle.histories.specs.Histories.{Fetched, Evidence, Settled, PairRule, AckRule, StockRule, Justified, Good}
use Rattle.histories.specs.Reads.{Collected}

module _ {v w : Views} (x : Extends v w) where
  pub fetched_extends : {h : List Entry} {r a s : ℕ} → Fetched v h r a s → Fetched w h r a s
  fetched_extends k = record { from = k.from; quorum = quorum_extends x k.quorum; stocks = k.stocks }

  pub evidence_extends : {h : List Entry} {r e s : ℕ} → Evidence v h r e s → Evidence w h r e s
  evidence_extends k = record { fetched = λ a n. fetched_extends (k.fetched a n) }

  pub settled_extends : {h : List Entry} {e t : ℕ} → Settled v h e t → Settled w h e t
  settled_extends k = record { by = k.by; quorum = quorum_extends x k.quorum; served = λ q m n. k.served q m (honest_before x n) }

  pub collected_extends : {h : List Entry} {e m : ℕ} → Collected v h e m → Collected w h e m
  collected_extends k = record { from = k.from; quorum = quorum_extends x k.quorum; answered = λ q m n. k.answered q m (honest_before x n) }

  pair_extends : {y : Entry} {h : List Entry} {q e s : ℕ} → PairRule v y h q e s → PairRule w y h q e s
  pair_extends k = record { evidence = evidence_extends k.evidence; unstocked = k.unstocked; highest = k.highest; asked = k.asked }

  ack_extends : {h : List Entry} {q e c r : ℕ} → AckRule v h q e c r → AckRule w h q e c r
  ack_extends k = record { stamp = k.stamp; evidence = evidence_extends k.evidence; unstocked = k.unstocked; written = k.written; asked = k.asked }

  stock_extends : {h : List Entry} {q a s : ℕ} → StockRule v h q a s → StockRule w h q a s
  stock_extends k = record { evidence = evidence_extends k.evidence; highest = k.highest }

  pub justified_extends : {y : Entry} {h : List Entry} → Justified v y h → Justified w y h
  justified_extends j = record {
    pair = λ s n. pair_extends (j.pair s (honest_before x n));
    ack = λ s n. ack_extends (j.ack s (honest_before x n));
    stock = λ s n. stock_extends (j.stock s (honest_before x n));
    read = j.read;
    write = j.write;
  }

  pub good_extends : {h : List Entry} → Good v h → Good w h
  good_extends done = done
  good_extends (next j g) = next (justified_extends j) (good_extends g)
