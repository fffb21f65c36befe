-- What replicas have done in a history, what a quorum has done, and when an entry of an honest party is justified by what lies below it.
use Rattle.std.specs.Prelude.{◌≡◌, ℕ, ◌+◌, ◌<◌, ◌≤◌, true, List}
use Rattle.wire.specs.declared.entry.Entry.{Entry}
use Rattle.wire.specs.Sets.{member}
use Rattle.quorums.specs.Quorums.{Views, Quorum, Honest}
use Rattle.histories.specs.Places.{Somewhere, Everywhere, Posted}
use Rattle.histories.specs.Shapes.{ReadEntry, WriteEntry, PairEntry, AckEntry, StockEntry}

-- x, right above h, shows that replica q holds stamp t or a higher one in epoch e: it answers a READ by t, or it answers the WRITE of t
pub data Serves (q e t : ℕ) (x : Entry) (h : List Entry) : Type 0 where
  by_pair : PairEntry q e t x → Serves q e t x h
  by_ack : {c r : ℕ} → AckEntry q e c r x → Posted (WriteEntry c r e t) h → Serves q e t x h

-- replica q has served stamp t in epoch e
abbrev pub Served : List Entry → ℕ → ℕ → ℕ → Type 0
Served h q e t = Somewhere (Serves q e t) h

-- replica q has handed its pair of epoch a, with stamp s, on to replica r
abbrev pub Stocked : List Entry → ℕ → ℕ → ℕ → ℕ → Type 0
Stocked h q r a s = Posted (StockEntry q r a s) h

-- the same, with stamp s or a lower one
pub record StockedTo (h : List Entry) (q r a s : ℕ) : Type 0 where
  pub stamp : ℕ
  pub low : stamp ≤ s
  pub stocked : Stocked h q r a stamp

-- replica q has served stamp t or a higher one in epoch e
pub record ServedFrom (h : List Entry) (q e t : ℕ) : Type 0 where
  pub stamp : ℕ
  pub high : t ≤ stamp
  pub served : Served h q e stamp

-- a quorum of epoch a has handed its pairs on to replica r, none with a stamp above s
pub record Fetched (v : Views) (h : List Entry) (r a s : ℕ) : Type 0 where
  pub from : ℕ
  pub quorum : Quorum v a from
  pub stocks : (n : ℕ) → member from n ≡ true → StockedTo h n r a s

-- replica r can hold stamp s in epoch e: a quorum of the epoch before has handed on no higher one. Epoch 0 has none before it.
pub record Evidence (v : Views) (h : List Entry) (r e s : ℕ) : Type 0 where
  pub fetched : (a : ℕ) → e ≡ a + 1 → Fetched v h r a s

-- the honest members of a quorum of epoch e have served stamp t or a higher one
pub record Settled (v : Views) (h : List Entry) (e t : ℕ) : Type 0 where
  pub by : ℕ
  pub quorum : Quorum v e by
  pub served : (q : ℕ) → member by q ≡ true → Honest v q → ServedFrom h q e t

-- an honest replica q answers a READ of epoch e by stamp s, with x: it fetched its pair, has handed on none of epoch e or a later one, has served no
-- higher stamp, and was asked
pub record PairRule (v : Views) (x : Entry) (h : List Entry) (q e s : ℕ) : Type 0 where
  pub evidence : Evidence v h q e s
  pub unstocked : {r a u : ℕ} → Stocked h q r a u → a < e
  pub highest : {d t : ℕ} → Served h q d t → t ≤ s
  pub asked : Posted (ReadEntry x.addressee x.round e) h

-- an honest replica q answers a WRITE of client c, round r and epoch e: it fetched a pair, has handed on none of epoch e or a later one, and was asked
pub record AckRule (v : Views) (h : List Entry) (q e c r : ℕ) : Type 0 where
  pub stamp : ℕ
  pub evidence : Evidence v h q e stamp
  pub unstocked : {o a u : ℕ} → Stocked h q o a u → a < e
  pub written : ℕ
  pub asked : Posted (WriteEntry c r e written) h

-- an honest replica q hands on its pair of epoch a with stamp s: it fetched its pair, and has served no higher stamp
pub record StockRule (v : Views) (h : List Entry) (q a s : ℕ) : Type 0 where
  pub evidence : Evidence v h q a s
  pub highest : {d t : ℕ} → Served h q d t → t ≤ s

-- client c has asked for nothing in round r or a later one
pub record Fresh (h : List Entry) (c r : ℕ) : Type 0 where
  pub reads : {k e : ℕ} → Posted (ReadEntry c k e) h → k < r
  pub writes : {k e s : ℕ} → Posted (WriteEntry c k e s) h → k < r

-- x may be posted by an honest party right above h; replicas that lie may post anything
pub record Justified (v : Views) (x : Entry) (h : List Entry) : Type 0 where
  pub pair : {q e s : ℕ} → PairEntry q e s x → Honest v q → PairRule v x h q e s
  pub ack : {q e c r : ℕ} → AckEntry q e c r x → Honest v q → AckRule v h q e c r
  pub stock : {q r a s : ℕ} → StockEntry q r a s x → Honest v q → StockRule v h q a s
  pub read : {c r e : ℕ} → ReadEntry c r e x → Fresh h c r
  pub write : {c r e s : ℕ} → WriteEntry c r e s x → Fresh h c r

-- each entry is justified by what lies below it
abbrev pub Good : Views → List Entry → Type 0
Good v h = Everywhere (Justified v) h
