-- A client asks once in a round: two READs or WRITEs of one client and round stand at one place, and what answers them stands above it.
-- Assumes nothing.
use Rattle.std.proofs.Common.{◌≡◌, ℕ, List, ◌∷◌, ◌++◌, sym, ◌∙◌, subst, ⊎_elim, arith}
use Rattle.wire.specs.declared.entry.Entry.{Entry}
use Rattle.quorums.specs.Quorums.{Views, Honest}
use Rattle.histories.specs.Places.{Posted}
use Rattle.histories.specs.Places.Somewhere.{here, there}
use Rattle.histories.specs.Places.Everywhere.{next}
use Rattle.histories.specs.Shapes.{ReadEntry, WriteEntry, PairEntry, AckEntry}
use Rattle.histories.specs.Histories.{Served, Fresh, Justified, Good}
use Rattle.histories.specs.Histories.Serves.{by_ack}
use Rattle.histories.proofs.Places.{found, beneath_rest, somewhere_grows, everywhere_below, beneath_append, posted_map, posted_split}

-- x asks something for client c in round r
pub data Asks (c r : ℕ) (x : Entry) : Type 0 where
  by_read : {e : ℕ} → ReadEntry c r e x → Asks c r x
  by_write : {e s : ℕ} → WriteEntry c r e s x → Asks c r x

pub asks_fresh : {v : Views} {x : Entry} {h : List Entry} {c r : ℕ} → Asks c r x → Justified v x h → Fresh h c r
asks_fresh (by_read k) j = j.read k
asks_fresh (by_write k) j = j.write k

-- in a new round nothing was asked before
fresh_none : {c r : ℕ} {h : List Entry} → Posted (Asks c r) h → Fresh h c r → ⊥
fresh_none (here (by_read k)) f = omega (arith, f.reads (here k))
fresh_none (here (by_write k)) f = omega (arith, f.writes (here k))
fresh_none (there s) f = fresh_none s (record { reads = λ k. f.reads (there k); writes = λ k. f.writes (there k) })

-- an entry of both shapes
pub record Both (P Q : Entry → Type 0) (x : Entry) : Type 0 where
  pub first : P x
  pub second : Q x

-- what one client asks in one round stands at one place
pub one_ask : {c r : ℕ} {P Q : Entry → Type 0} {v : Views} {h : List Entry} → ((x : Entry) → P x → Asks c r x) → ((x : Entry) → Q x → Asks c r x) → Posted P h → Posted Q h → Good v h → Posted (Both P Q) h
one_ask p q (here a) (here b) (next j g) = here (record { first = a; second = b })
one_ask p q (here {x = x} a) (there b) (next j g) = absurd (fresh_none (posted_map q b) (asks_fresh (p x a) j))
one_ask p q (there a) (here {x = x} b) (next j g) = absurd (fresh_none (posted_map p a) (asks_fresh (q x b) j))
one_ask p q (there a) (there b) (next j g) = there (one_ask p q a b g)

-- epochs and stamps agree
pub record SameWrite (e t e' t' : ℕ) : Type 0 where
  pub epochs : e ≡ e'
  pub stamps : t ≡ t'

module _ {v : Views} {h : List Entry} (good : Good v h) {c r : ℕ} where
  pub one_write : {e t e' t' : ℕ} → Posted (WriteEntry c r e t) h → Posted (WriteEntry c r e' t') h → SameWrite e t e' t'
  one_write a b =
      let f = (found (one_ask (λ x. by_write) (λ x. by_write) a b good) good).seen in
      record { epochs = sym f.first.epoch ∙ f.second.epoch; stamps = sym f.first.stamp ∙ f.second.stamp }

  pub one_read : {e e' : ℕ} → Posted (ReadEntry c r e) h → Posted (ReadEntry c r e') h → e ≡ e'
  one_read a b = let f = (found (one_ask (λ x. by_read) (λ x. by_read) a b good) good).seen in sym f.first.epoch ∙ f.second.epoch

  -- a round in which a client reads is none in which it writes
  pub read_or_write : {e e' t : ℕ} → Posted (ReadEntry c r e) h → Posted (WriteEntry c r e' t) h → ⊥
  read_or_write a b = let f = (found (one_ask (λ x. by_read) (λ x. by_write) a b good) good).seen in omega (arith, f.first.kind, f.second.kind)

  -- an honest replica that answers a WRITE has served its stamp
  pub acked_served : {q e e' t : ℕ} → Honest v q → Posted (AckEntry q e c r) h → Posted (WriteEntry c r e' t) h → Served h q e t
  acked_served {q = q} {e = e} n a w =
      let f = found a good in
      let k = f.ruled.ack f.seen n in
      let t_same = (one_write (somewhere_grows (beneath_rest f.place) k.asked) w).stamps in
      subst (Served h q e) t_same (somewhere_grows f.place (here (by_ack f.seen k.asked)))

-- replica q answers by stamp s the READ that client c posted in round r for epoch e
pub record PairTo (q e s c r : ℕ) (x : Entry) : Type 0 where
  pub pair : PairEntry q e s x
  pub addressee : x.addressee ≡ c
  pub round : x.round ≡ r

read_at : {c c' r r' e : ℕ} {x : Entry} → c ≡ c' → r ≡ r' → ReadEntry c r e x → ReadEntry c' r' e x
read_at p q k = record { client = omega (arith, p, k.client); sender = k.sender ∙ p; kind = k.kind; round = k.round ∙ q; epoch = k.epoch }

-- an honest replica answers a READ above it
module _ {v : Views} {x : Entry} {c r e : ℕ} (read : ReadEntry c r e x) {q s : ℕ} (honest : Honest v q) where
  not_before : {h : List Entry} → Good v (x ∷ h) → Posted (PairTo q e s c r) h → ⊥
  not_before (next j good) a =
      let f = found a good in
      let asked = (f.ruled.pair f.seen.pair honest).asked in
      let old = posted_map (λ y k. by_read (read_at f.seen.addressee f.seen.round k)) asked in
      fresh_none (somewhere_grows (beneath_rest f.place) old) (j.read read)

  not_up_to : {h : List Entry} → Good v (x ∷ h) → Posted (PairTo q e s c r) (x ∷ h) → ⊥
  not_up_to good (here k) = omega (arith, read.kind, k.pair.kind)
  not_up_to good (there a) = not_before good a

  pub answer_above : (new h : List Entry) → Good v (new ++ (x ∷ h)) → Posted (PairTo q e s c r) (new ++ (x ∷ h)) → Posted (PairTo q e s c r) new
  answer_above new h good a =
      ⊎_elim (λ above. above) (λ under. absurd (not_up_to (everywhere_below (beneath_append new (x ∷ h)) good) under)) (posted_split new a)
