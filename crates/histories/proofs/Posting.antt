-- When a new entry is justified: by the one rule of its shape, by a sender that may lie, or by a kind without a rule.
-- Assumes nothing.
use Rattle.std.proofs.Common.{◌≡◌, ℕ, ◌+◌, true, ◌≢◌, List, sym, ◌∙◌, subst, subst₂, arith}
use mathlib.Core.Path.{subst₃}
use Rattle.std.proofs.lemmas.Bool.{both_ways}
use Rattle.wire.specs.declared.entry.Entry.{Entry}
use Rattle.wire.specs.Sets.{member}
use Rattle.quorums.specs.Quorums.{Views, Honest}
use Rattle.histories.specs.Shapes.{ReadEntry, WriteEntry, PairEntry, AckEntry, StockEntry}
use Rattle.histories.specs.Histories.{PairRule, AckRule, StockRule, Fresh, Justified}

-- the sender of x is a replica that may lie
pub record FromMarked (v : Views) (x : Entry) : Type 0 where
  pub replica : ℕ
  pub sender : x.sender ≡ 100 + replica
  pub marked : member v.marked replica ≡ true

liar : {v : Views} {x : Entry} {q : ℕ} → FromMarked v x → Honest v q → x.sender ≡ 100 + q → ⊥
liar {v} {x} {q} m n s =
    let same : q ≡ m.replica = omega (arith, m.sender) in
    both_ways (member v.marked m.replica) (subst (Honest v) same n).unmarked m.marked

module _ {v : Views} {x : Entry} {h : List Entry} where
  pair_at : {q e s q' e' s' : ℕ} → PairEntry q e s x → (Honest v q → PairRule v x h q e s) → PairEntry q' e' s' x → Honest v q' → PairRule v x h q' e' s'
  pair_at {q = q} {q' = q'} p rule k n =
      let same : q ≡ q' = omega (arith, p.sender, k.sender) in
      subst₃ (PairRule v x h) same (sym p.epoch ∙ k.epoch) (sym p.stamp ∙ k.stamp) (rule (subst (Honest v) (sym same) n))

  ack_at : {q e c r q' e' c' r' : ℕ} → AckEntry q e c r x → (Honest v q → AckRule v h q e c r) → AckEntry q' e' c' r' x → Honest v q' → AckRule v h q' e' c' r'
  ack_at {q = q} {e = e} {q' = q'} {c' = c'} {r' = r'} p rule k n =
      let same : q ≡ q' = omega (arith, p.sender, k.sender) in
      subst₂ (λ i j. AckRule v h i j c' r') same (sym p.epoch ∙ k.epoch)
      (subst₂ (AckRule v h q e) (sym p.addressee ∙ k.addressee) (sym p.round ∙ k.round) (rule (subst (Honest v) (sym same) n)))

  stock_at : {q r a s q' r' a' s' : ℕ} → StockEntry q r a s x → (Honest v q → StockRule v h q a s) → StockEntry q' r' a' s' x → Honest v q' → StockRule v h q' a' s'
  stock_at {q = q} {q' = q'} p rule k n =
      let same : q ≡ q' = omega (arith, p.sender, k.sender) in
      subst₃ (StockRule v h) same (sym p.epoch ∙ k.epoch) (sym p.stamp ∙ k.stamp) (rule (subst (Honest v) (sym same) n))

  -- a PAIR, an ACK, a STOCK, a READ, a WRITE
  pub justified_pair : {q e s : ℕ} → PairEntry q e s x → (Honest v q → PairRule v x h q e s) → Justified v x h
  justified_pair p rule = record {
    pair = pair_at p rule;
    ack = λ k n. absurd (omega (arith, p.kind, k.kind));
    stock = λ k n. absurd (omega (arith, p.kind, k.kind));
    read = λ k. absurd (omega (arith, p.kind, k.kind));
    write = λ k. absurd (omega (arith, p.kind, k.kind));
  }

  pub justified_ack : {q e c r : ℕ} → AckEntry q e c r x → (Honest v q → AckRule v h q e c r) → Justified v x h
  justified_ack p rule = record {
    pair = λ k n. absurd (omega (arith, p.kind, k.kind));
    ack = ack_at p rule;
    stock = λ k n. absurd (omega (arith, p.kind, k.kind));
    read = λ k. absurd (omega (arith, p.kind, k.kind));
    write = λ k. absurd (omega (arith, p.kind, k.kind));
  }

  pub justified_stock : {q r a s : ℕ} → StockEntry q r a s x → (Honest v q → StockRule v h q a s) → Justified v x h
  justified_stock p rule = record {
    pair = λ k n. absurd (omega (arith, p.kind, k.kind));
    ack = λ k n. absurd (omega (arith, p.kind, k.kind));
    stock = stock_at p rule;
    read = λ k. absurd (omega (arith, p.kind, k.kind));
    write = λ k. absurd (omega (arith, p.kind, k.kind));
  }

  pub justified_read : {c r e : ℕ} → ReadEntry c r e x → Fresh h c r → Justified v x h
  justified_read p fresh = record {
    pair = λ k n. absurd (omega (arith, p.kind, k.kind));
    ack = λ k n. absurd (omega (arith, p.kind, k.kind));
    stock = λ k n. absurd (omega (arith, p.kind, k.kind));
    read = λ k. subst₂ (Fresh h) (sym p.sender ∙ k.sender) (sym p.round ∙ k.round) fresh;
    write = λ k. absurd (omega (arith, p.kind, k.kind));
  }

  pub justified_write : {c r e s : ℕ} → WriteEntry c r e s x → Fresh h c r → Justified v x h
  justified_write p fresh = record {
    pair = λ k n. absurd (omega (arith, p.kind, k.kind));
    ack = λ k n. absurd (omega (arith, p.kind, k.kind));
    stock = λ k n. absurd (omega (arith, p.kind, k.kind));
    read = λ k. absurd (omega (arith, p.kind, k.kind));
    write = λ k. subst₂ (Fresh h) (sym p.sender ∙ k.sender) (sym p.round ∙ k.round) fresh;
  }

  -- whatever a replica posts that may lie
  pub justified_marked : FromMarked v x → Justified v x h
  justified_marked m = record {
    pair = λ k n. absurd (liar m n k.sender);
    ack = λ k n. absurd (liar m n k.sender);
    stock = λ k n. absurd (liar m n k.sender);
    read = λ k. absurd (omega (arith, m.sender, k.client, k.sender));
    write = λ k. absurd (omega (arith, m.sender, k.client, k.sender));
  }

-- entries of this kind follow no rule; `omega arith` proves it of TRANSFER, CONFIG and BEHIND, whose numbers are 3, 7 and 8
pub record Unruled (kind : ℕ) : Type 0 where
  pub no_read : kind ≢ 1
  pub no_write : kind ≢ 2
  pub no_pair : kind ≢ 4
  pub no_ack : kind ≢ 5
  pub no_stock : kind ≢ 6

pub justified_unruled : {v : Views} {x : Entry} {h : List Entry} → Unruled x.kind → Justified v x h
justified_unruled u = record {
  pair = λ k n. absurd (u.no_pair k.kind);
  ack = λ k n. absurd (u.no_ack k.kind);
  stock = λ k n. absurd (u.no_stock k.kind);
  read = λ k. absurd (u.no_read k.kind);
  write = λ k. absurd (u.no_write k.kind);
}
