-- A record gives back the replica's number and the card that it was written from. Assumes nothing.
use Rattle.std.proofs.Common.{◌≡◌, ℕ, Bool, true, false, cond, eqb, length, refl}
use Rattle.std.proofs.lemmas.Nat.{from_le_bytes-to_le_bytes_4, from_le_bytes-to_le_bytes_8}
use Rattle.stores.specs.declared.card.Card.{Card}
use Rattle.tapes.specs.Records.{encoded, decoded, Fitting}

yes : (b : Bool) → eqb (cond b 1 0) 1 ≡ b
yes true = refl
yes false = refl

pub length_encoded : (n : ℕ) (c : Card) → length (encoded n c) ≡ 72
unfolding encoded
length_encoded n c = refl

pub decoded_encoded : (n : ℕ) (c : Card) → Fitting c → decoded (encoded n c) ≡ record { replica = n; card = c }
unfolding encoded decoded
decoded_encoded n c f = λ i. record {
  replica = n;
  card = record {
    epoch = from_le_bytes-to_le_bytes_4 c.epoch f.epoch i;
    set = record { 0 = from_le_bytes-to_le_bytes_8 c.set.0 f.set i };
    seal = record { 0 = from_le_bytes-to_le_bytes_8 c.seal.0 f.seal i };
    previous = record { 0 = from_le_bytes-to_le_bytes_8 c.previous.0 f.previous i };
    previous_seal = record { 0 = from_le_bytes-to_le_bytes_8 c.previous_seal.0 f.previous_seal i };
    heard = record { 0 = from_le_bytes-to_le_bytes_8 c.heard.0 f.heard i };
    ready = yes c.ready i;
    pair = record {
      stamp = record { count = from_le_bytes-to_le_bytes_4 c.pair.stamp.count f.count i; writer = c.pair.stamp.writer };
      word = record { 0 = from_le_bytes-to_le_bytes_8 c.pair.word.0 f.word i };
      seal = record { 0 = from_le_bytes-to_le_bytes_8 c.pair.seal.0 f.pair_seal i };
    };
  };
}
