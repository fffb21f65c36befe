-- What a quorum answers after a write settled has the write's stamp or a higher one.
-- Assumes nothing.
use Rattle.std.proofs.Common.{ℕ, ◌-◌, ◌<◌, ◌≤◌, List, ◌++◌, sym, subst, ⊎_elim, arith}
use Rattle.std.proofs.lemmas.Bool.{cases_order}
use Rattle.wire.specs.declared.entry.Entry.{Entry}
use Rattle.quorums.specs.Quorums.{Views, Sound, Honest}
use Rattle.quorums.proofs.Meeting.{quorums_meet, quorum_trusted}
use Rattle.histories.specs.Histories.{Settled, PairRule, Good}
use Rattle.histories.specs.Reads.{Answered, Collected, LaterReadsSeeSettledWrites}
use Rattle.histories.proofs.Places.{Beneath, somewhere_grows, everywhere_below, beneath_append, found_above}
use Rattle.histories.proofs.Growth.{settled_grows}
use Rattle.histories.proofs.Chains.{Passed, settled_back, fetched_no_lower}

-- an answer of replica q at a place above h, with stamp m or a lower one
record Reply (v : Views) (h : List Entry) (q e m : ℕ) : Type 0 where
  entry : Entry
  below : List Entry
  stamp : ℕ
  low : stamp ≤ m
  rule : PairRule v entry below q e stamp
  good : Good v below
  above : Beneath h below

reply : {v : Views} {h new : List Entry} {q e m : ℕ} → Good v (new ++ h) → Honest v q → Answered new q e m → Reply v h q e m
reply good n k =
    let f = found_above k.pair good in
    record { entry = f.entry; below = f.below; stamp = k.stamp; low = k.low; rule = f.ruled.pair f.seen n; good = f.rest; above = f.beneath }

module _ {v : Views} {h new : List Entry} (sound : Sound v) (good : Good v (new ++ h)) where
  -- answers of the epoch in which t settled
  in_epoch : {e t m : ℕ} → Settled v h e t → Collected v new e m → t ≤ m
  in_epoch {e} i k =
      let q = quorums_meet v sound e i.by k.from i.quorum k.quorum in
      let f = i.served q.replica q.first q.honest in
      let a = reply good q.honest (k.answered q.replica q.second q.honest) in
      omega (arith, f.high, a.low, a.rule.highest (somewhere_grows a.above f.served))

  -- answers of a later epoch
  in_later_epoch : {e t e' m : ℕ} → e < e' → Settled v h e t → Collected v new e' m → t ≤ m
  in_later_epoch {e' = e'} l i k =
      let q = quorum_trusted sound k.quorum in
      let a = reply good q.honest (k.answered q.replica q.inside q.honest) in
      let f = a.rule.evidence.fetched (e' - 1) (omega arith) in
      omega (arith, a.low, fetched_no_lower sound a.good (omega arith) (settled_grows a.above i) f)

  -- there are none of an epoch that a quorum has handed on
  none_passed : {e m : ℕ} → Passed v h e → Collected v new e m → ⊥
  none_passed {e} p k =
      let q = quorums_meet v sound e p.from k.from p.quorum k.quorum in
      let a = reply good q.honest (k.answered q.replica q.second q.honest) in
      omega (arith, a.rule.unstocked (somewhere_grows a.above (p.handed q.replica q.first q.honest).stocked))

  -- so there are none of an epoch before the one in which t settled
  none_earlier : {e t e' m : ℕ} → e' < e → Settled v h e t → Collected v new e' m → ⊥
  none_earlier l i k = none_passed (settled_back sound (everywhere_below (beneath_append new h) good) l i) k

pub late : LaterReadsSeeSettledWrites
late v sound h new good e t e' m i k = ⊎_elim
    (λ same. record { epochs = omega arith; stamps = in_epoch sound good i (subst (λ n. Collected v new n m) (sym same) k) })
    (⊎_elim
    (λ lt. record { epochs = omega arith; stamps = in_later_epoch sound good lt i k })
    (λ gt. absurd (none_earlier sound good gt i k)))
    (cases_order e e')
