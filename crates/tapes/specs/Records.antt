-- The record of a card: 72 bytes, each number with its lowest byte first.
use Rattle.std.specs.Prelude.{ℕ, ◌^◌, ◌<◌, Bool, cond, List, [], ◌∷◌, ◌++◌, take, drop, ◌==◌, nat_eq, slice_index}
use Rattle.std.specs.Int.{w32, w64, from_le_bytes, to_le_bytes}
use Rattle.std.specs.List.{starts_with}
use Rattle.stores.specs.declared.card.Card.{Card}

-- the mark, the replica, whether it is ready (1 is yes), the writer, a zero
abbrev pub head : ℕ → Card → List ℕ
head n c = 66 ∷ 73 ∷ 78 ∷ 49 ∷ n ∷ cond c.ready 1 0 ∷ c.pair.stamp.writer ∷ 0 ∷ []

-- the record of a replica's number and its card
unfoldable pub encoded : ℕ → Card → List ℕ
encoded n c =
    head n c
    ++ to_le_bytes w32 c.epoch ++ to_le_bytes w32 c.pair.stamp.count
    ++ to_le_bytes w64 c.set.0 ++ to_le_bytes w64 c.seal.0
    ++ to_le_bytes w64 c.previous.0 ++ to_le_bytes w64 c.previous_seal.0
    ++ to_le_bytes w64 c.heard.0
    ++ to_le_bytes w64 c.pair.word.0 ++ to_le_bytes w64 c.pair.seal.0

-- whether a record begins with its mark
abbrev pub marked : List ℕ → Bool
marked xs = starts_with nat_eq xs (66 ∷ 73 ∷ 78 ∷ 49 ∷ [])

-- the number in the 4 bytes at this place
abbrev pub four : List ℕ → ℕ → ℕ
four xs at = from_le_bytes w32 (take 4 (drop at xs))

-- the number in the 8 bytes at this place
abbrev pub eight : List ℕ → ℕ → ℕ
eight xs at = from_le_bytes w64 (take 8 (drop at xs))

pub record Decoded : Type 0 where
  pub replica : ℕ
  pub card : Card

-- whose record these 72 bytes are, and the card in it: the mark and the zero are not looked at
unfoldable pub decoded : List ℕ → Decoded
decoded xs = record {
  replica = slice_index xs 4;
  card = record {
    epoch = four xs 8;
    set = record { 0 = eight xs 16 };
    seal = record { 0 = eight xs 24 };
    previous = record { 0 = eight xs 32 };
    previous_seal = record { 0 = eight xs 40 };
    heard = record { 0 = eight xs 48 };
    ready = (slice_index xs 5 == 1);
    pair = record {
      stamp = record { count = four xs 12; writer = slice_index xs 6 };
      word = record { 0 = eight xs 56 };
      seal = record { 0 = eight xs 64 };
    };
  };
}

-- the numbers of a card fit their bytes
pub record Fitting (c : Card) : Type 0 where
  pub epoch : c.epoch < 2 ^ 32
  pub count : c.pair.stamp.count < 2 ^ 32
  pub set : c.set.0 < 2 ^ 64
  pub seal : c.seal.0 < 2 ^ 64
  pub previous : c.previous.0 < 2 ^ 64
  pub previous_seal : c.previous_seal.0 < 2 ^ 64
  pub heard : c.heard.0 < 2 ^ 64
  pub word : c.pair.word.0 < 2 ^ 64
  pub pair_seal : c.pair.seal.0 < 2 ^ 64
