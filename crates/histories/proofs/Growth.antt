-- What replicas and quorums have done stays done when entries are added.
-- Assumes nothing.
use Rattle.std.proofs.Common.{ℕ, List}
use Rattle.wire.specs.declared.entry.Entry.{Entry}
use Rattle.quorums.specs.Quorums.{Views}
use Rattle.histories.specs.Histories.{StockedTo, ServedFrom, Fetched, Evidence, Settled}
use Rattle.histories.specs.Reads.{Answered, Collected}
use Rattle.histories.proofs.Places.{Beneath, somewhere_grows}

module _ {g h : List Entry} (b : Beneath g h) where
  pub stocked_to_grows : {q r a s : ℕ} → StockedTo g q r a s → StockedTo h q r a s
  stocked_to_grows k = record { stamp = k.stamp; low = k.low; stocked = somewhere_grows b k.stocked }

  pub served_from_grows : {q e t : ℕ} → ServedFrom g q e t → ServedFrom h q e t
  served_from_grows k = record { stamp = k.stamp; high = k.high; served = somewhere_grows b k.served }

  pub fetched_grows : {v : Views} {r a s : ℕ} → Fetched v g r a s → Fetched v h r a s
  fetched_grows k = record { from = k.from; quorum = k.quorum; stocks = λ n m. stocked_to_grows (k.stocks n m) }

  pub evidence_grows : {v : Views} {r e s : ℕ} → Evidence v g r e s → Evidence v h r e s
  evidence_grows k = record { fetched = λ a n. fetched_grows (k.fetched a n) }

  pub settled_grows : {v : Views} {e t : ℕ} → Settled v g e t → Settled v h e t
  settled_grows k = record { by = k.by; quorum = k.quorum; served = λ q m n. served_from_grows (k.served q m n) }

  pub answered_grows : {q e m : ℕ} → Answered g q e m → Answered h q e m
  answered_grows k = record { stamp = k.stamp; low = k.low; pair = somewhere_grows b k.pair }

  pub collected_grows : {v : Views} {e m : ℕ} → Collected v g e m → Collected v h e m
  collected_grows k = record { from = k.from; quorum = k.quorum; answered = λ q i n. answered_grows (k.answered q i n) }
