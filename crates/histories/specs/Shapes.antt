-- The shapes of entries: who posts what, for which epoch, with which stamp. Replica q posts under the number 100 + q, and clients have numbers below 100.
use Rattle.std.specs.Prelude.{◌≡◌, ℕ, ◌+◌, ◌*◌, ◌<◌}
use Rattle.wire.specs.declared.entry.Entry.{Entry}

-- the stamp of an entry as one number: counts compare first, then writers
abbrev pub stamp_of : Entry → ℕ
stamp_of x = x.count * 256 + x.writer

-- client c asks in round r for the pairs of epoch e
pub record ReadEntry (c r e : ℕ) (x : Entry) : Type 0 where
  pub client : c < 100
  pub sender : x.sender ≡ c
  pub kind : x.kind ≡ 1
  pub round : x.round ≡ r
  pub epoch : x.epoch ≡ e

-- client c asks in round r that a pair with stamp s be stored in epoch e
pub record WriteEntry (c r e s : ℕ) (x : Entry) : Type 0 where
  pub client : c < 100
  pub sender : x.sender ≡ c
  pub kind : x.kind ≡ 2
  pub round : x.round ≡ r
  pub epoch : x.epoch ≡ e
  pub stamp : stamp_of x ≡ s

-- replica q answers a READ of epoch e by a pair with stamp s
pub record PairEntry (q e s : ℕ) (x : Entry) : Type 0 where
  pub sender : x.sender ≡ 100 + q
  pub kind : x.kind ≡ 4
  pub epoch : x.epoch ≡ e
  pub stamp : stamp_of x ≡ s

-- replica q answers a WRITE that client c posted in round r for epoch e
pub record AckEntry (q e c r : ℕ) (x : Entry) : Type 0 where
  pub sender : x.sender ≡ 100 + q
  pub kind : x.kind ≡ 5
  pub addressee : x.addressee ≡ c
  pub round : x.round ≡ r
  pub epoch : x.epoch ≡ e

-- replica q hands its pair of epoch a, with stamp s, on to replica r
pub record StockEntry (q r a s : ℕ) (x : Entry) : Type 0 where
  pub sender : x.sender ≡ 100 + q
  pub kind : x.kind ≡ 6
  pub addressee : x.addressee ≡ 100 + r
  pub epoch : x.epoch ≡ a
  pub stamp : stamp_of x ≡ s
