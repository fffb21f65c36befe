-- What justified entries say of an honest replica: what it fetched, and that no pair it hands on has a lower stamp than one it served.
-- Assumes nothing.
use Rattle.std.proofs.Common.{ℕ, ◌≤◌, List, arith}
use Rattle.wire.specs.declared.entry.Entry.{Entry}
use Rattle.quorums.specs.Quorums.{Views, Honest}
use Rattle.histories.specs.Places.Somewhere.{here, there}
use Rattle.histories.specs.Places.Everywhere.{next}
use Rattle.histories.specs.Histories.{Serves, Served, Stocked, Evidence, Justified, Good}
use Rattle.histories.specs.Histories.Serves.{by_pair, by_ack}
use Rattle.histories.specs.Shapes.{StockEntry}
use Rattle.histories.proofs.Places.{beneath_rest, found}
use Rattle.histories.proofs.Growth.{evidence_grows}

-- the evidence of replica q for some stamp
pub record Evident (v : Views) (h : List Entry) (q e : ℕ) : Type 0 where
  pub stamp : ℕ
  pub evidence : Evidence v h q e stamp

module _ {v : Views} {q : ℕ} (honest : Honest v q) where
  -- an honest replica has evidence for what it hands on
  pub stocked_evidence : {h : List Entry} {r a s : ℕ} → Stocked h q r a s → Good v h → Evidence v h q a s
  stocked_evidence k good =
      let f = found k good in
      evidence_grows (beneath_rest f.place) (f.ruled.stock f.seen honest).evidence

  serves_evidence : {x : Entry} {h : List Entry} {e t : ℕ} → Justified v x h → Serves q e t x h → Evident v h q e
  serves_evidence {t = t} j (by_pair p) = record { stamp = t; evidence = (j.pair p honest).evidence }
  serves_evidence j (by_ack p w) = let k = j.ack p honest in record { stamp = k.stamp; evidence = k.evidence }

  -- and for some stamp where it serves
  pub served_evidence : {h : List Entry} {e t : ℕ} → Served h q e t → Good v h → Evident v h q e
  served_evidence k good =
      let f = found k good in
      let i = serves_evidence f.ruled f.seen in
      record { stamp = i.stamp; evidence = evidence_grows (beneath_rest f.place) i.evidence }

  -- the entry on top serves, one below hands on: not in the same epoch
  serves_last : {x : Entry} {h : List Entry} {r e s t : ℕ} → Justified v x h → Serves q e t x h → Stocked h q r e s → t ≤ s
  serves_last j (by_pair p) k = absurd (omega (arith, (j.pair p honest).unstocked k))
  serves_last j (by_ack p w) k = absurd (omega (arith, (j.ack p honest).unstocked k))

  -- one entry does not do both
  serves_stocks : {x : Entry} {h : List Entry} {r e s t : ℕ} → Serves q e t x h → StockEntry q r e s x → t ≤ s
  serves_stocks (by_pair p) k = absurd (omega (arith, p.kind, k.kind))
  serves_stocks (by_ack p w) k = absurd (omega (arith, p.kind, k.kind))

  -- an honest replica hands on no lower stamp of an epoch than one that it serves in that epoch, before or after
  pub served_stocked : {r e s t : ℕ} {h : List Entry} → Served h q e t → Stocked h q r e s → Good v h → t ≤ s
  served_stocked (here p) (here k) (next j good) = serves_stocks p k
  served_stocked (here p) (there k) (next j good) = serves_last j p k
  served_stocked (there p) (here k) (next j good) = (j.stock k honest).highest p
  served_stocked (there p) (there k) (next j good) = served_stocked p k good
