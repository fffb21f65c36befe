-- From epoch to epoch: what a replica fetched goes back, through honest replicas, to quorums of all earlier epochs, and has no lower stamp than what settled there.
-- Assumes nothing.
use Rattle.std.proofs.Common.{◌≡◌, ℕ, zero, suc, ◌+◌, ◌-◌, ◌<◌, ◌≤◌, true, List, refl, subst, arith}
use Rattle.wire.specs.declared.entry.Entry.{Entry}
use Rattle.wire.specs.Sets.{member}
use Rattle.quorums.specs.Quorums.{Views, Sound, Quorum, Honest}
use Rattle.quorums.proofs.Meeting.{quorums_meet, quorum_trusted}
use Rattle.histories.specs.Histories.{Stocked, Fetched, Settled, Good}
use Rattle.histories.proofs.Order.{stocked_evidence, served_evidence, served_stocked}

-- replica q has handed on its pair of epoch a
pub record HandedOn (h : List Entry) (q a : ℕ) : Type 0 where
  pub to : ℕ
  pub stamp : ℕ
  pub stocked : Stocked h q to a stamp

-- the honest members of a quorum have handed on their pairs of epoch a
pub record Passed (v : Views) (h : List Entry) (a : ℕ) : Type 0 where
  pub from : ℕ
  pub quorum : Quorum v a from
  pub handed : (q : ℕ) → member from q ≡ true → Honest v q → HandedOn h q a

-- some replica has fetched pairs of epoch a, none with a stamp above s
record FetchedBefore (v : Views) (h : List Entry) (a s : ℕ) : Type 0 where
  replica : ℕ
  stamp : ℕ
  low : stamp ≤ s
  fetched : Fetched v h replica a stamp

fetched_passed : {v : Views} {h : List Entry} {r a s : ℕ} → Fetched v h r a s → Passed v h a
fetched_passed {r = r} k = record { from = k.from; quorum = k.quorum; handed = λ q m n. let i = k.stocks q m in record { to = r; stamp = i.stamp; stocked = i.stocked } }

module _ {v : Views} {h : List Entry} (sound : Sound v) (good : Good v h) where
  -- an honest replica of those that handed on had fetched itself
  fetched_before : {r b s : ℕ} (a : ℕ) → b ≡ a + 1 → Fetched v h r b s → FetchedBefore v h a s
  fetched_before a e k =
      let q = quorum_trusted sound k.quorum in
      let i = k.stocks q.replica q.inside in
      record { replica = q.replica; stamp = i.stamp; low = i.low; fetched = (stocked_evidence q.honest i.stocked good).fetched a e }

  back : (d : ℕ) {r a b s : ℕ} → b ≡ a + d → Fetched v h r b s → Passed v h a
  back zero {a = a} {b = b} e k = let same : b ≡ a = omega arith in subst (Passed v h) same (fetched_passed k)
  back (suc d) {a = a} e k = back d refl (fetched_before (a + d) (omega arith) k).fetched

  -- what is fetched goes back to a quorum of each earlier epoch
  pub fetched_back : {r a b s : ℕ} → a ≤ b → Fetched v h r b s → Passed v h a
  fetched_back {a = a} {b = b} l k = back (b - a) (omega arith) k

  -- and so does what settled
  pub settled_back : {a e t : ℕ} → a < e → Settled v h e t → Passed v h a
  settled_back {e = e} l i =
      let q = quorum_trusted sound i.quorum in
      let f = served_evidence q.honest (i.served q.replica q.inside q.honest).served good in
      fetched_back (omega arith) (f.evidence.fetched (e - 1) (omega arith))

  -- of the epoch in which t settled
  settled_fetched : {r e s t : ℕ} → Settled v h e t → Fetched v h r e s → t ≤ s
  settled_fetched {e = e} i k =
      let q = quorums_meet v sound e i.by k.from i.quorum k.quorum in
      let f = i.served q.replica q.first q.honest in
      let g = k.stocks q.replica q.second in
      omega (arith, f.high, g.low, served_stocked q.honest f.served g.stocked good)

  inherited : (d : ℕ) {r e b s t : ℕ} → b ≡ e + d → Settled v h e t → Fetched v h r b s → t ≤ s
  inherited zero {r = r} {e = e} {b = b} {s = s} p i k = let same : b ≡ e = omega arith in settled_fetched i (subst (λ n. Fetched v h r n s) same k)
  inherited (suc d) {e = e} p i k = let f = fetched_before (e + d) (omega arith) k in omega (arith, f.low, inherited d refl i f.fetched)

  -- what is fetched of an epoch has no lower stamp than what settled there or earlier
  pub fetched_no_lower : {r e b s t : ℕ} → e ≤ b → Settled v h e t → Fetched v h r b s → t ≤ s
  fetched_no_lower {e = e} {b = b} l i k = inherited (b - e) (omega arith) i k
