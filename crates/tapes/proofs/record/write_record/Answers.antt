-- The record is written field by field, each behind those before it.
use Rattle.std.proofs.Common.{◌≡◌, ℕ, ◌≤◌, Bool, true, false, cond, List, [], ◌∷◌, ◌++◌, length, take, sym, refl, ap, ◌∙◌, arith, rules}
use Rattle.std.proofs.lemmas.List.{take_all}
use Rattle.std.specs.Int.{w32, w64, to_le_bytes, from_bool}
use Rattle.tapes.specs.Records.{head, encoded}
use Rattle.tapes.proofs.record.write_record.Goals as goal

-- a field that was written
field : {out known bytes : List ℕ} (front : List ℕ) → out ≡ front ++ bytes → bytes ≡ known → out ≡ front ++ known
field front p q = p ∙ ap (λ x. front ++ x) q

-- one more field, behind a front that is known
behind : (out front known field : List ℕ) → front ≡ known → out ≡ front ++ field → out ≡ known ++ field
behind out front known field p q = q ∙ ap (λ x. x ++ field) p

byte : (b : Bool) → from_bool b ≡ cond b 1 0
byte true = refl
byte false = refl

pub returns : goal.returns
unfolding encoded
returns c =
    let n = c.args.replica.number in
    let card = c.args.card in
    let out = c.put-11.new.out in
    let whole : length out ≤ 72 = omega arith in
    let first : take 8 c.put-2.new.out ≡ head n card =
    behind _ _ _ _ c.put.ensures c.put-2.ensures
    ∙ (λ i. 66 ∷ 73 ∷ 78 ∷ 49 ∷ c.number.ensures.value i ∷ (c.from.ensures ∙ byte card.ready) i ∷ card.pair.stamp.writer ∷ 0 ∷ []) in
    let value : out ≡ encoded n card =
    sym (take_all 72 out whole)
    ∙ behind _ _ _ (to_le_bytes w64 card.pair.seal.0) (
    behind _ _ _ (to_le_bytes w64 card.pair.word.0) (
    behind _ _ _ (to_le_bytes w64 card.heard.0) (
    behind _ _ _ (to_le_bytes w64 card.previous_seal.0) (
    behind _ _ _ (to_le_bytes w64 card.previous.0) (
    behind _ _ _ (to_le_bytes w64 card.seal.0) (
    behind _ _ _ (to_le_bytes w64 card.set.0) (
    behind _ _ _ (to_le_bytes w32 card.pair.stamp.count) (
    behind _ _ _ (to_le_bytes w32 card.epoch) first
    (field _ c.put-3.ensures c.to_le_bytes.ensures)) (field _ c.put-4.ensures c.to_le_bytes-2.ensures)) (field _ c.put-5.ensures c.to_le_bytes-3.ensures))
    (field _ c.put-6.ensures c.to_le_bytes-4.ensures)) (field _ c.put-7.ensures c.to_le_bytes-5.ensures)) (field _ c.put-8.ensures c.to_le_bytes-6.ensures))
    (field _ c.put-9.ensures c.to_le_bytes-7.ensures)) (field _ c.put-10.ensures c.to_le_bytes-8.ensures)) (field _ c.put-11.ensures c.to_le_bytes-9.ensures) in
    record { value = value; fits = search rules }
