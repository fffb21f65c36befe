-- The entries that parties post: which fields each kind uses; a field that is not used is 0.
use Rattle.std.specs.Prelude.{ℕ}
use Rattle.wire.specs.declared.entry.Entry.{Entry}
use Rattle.wire.specs.declared.pair.Configuration.{Configuration}
use Rattle.wire.specs.declared.pair.Pair.{Pair}

-- sender, kind, addressee, round, epoch, and no pair
abbrev pub plain : ℕ → ℕ → ℕ → ℕ → ℕ → Entry
plain sender kind addressee round epoch = record {
  sender = sender;
  kind = kind;
  addressee = addressee;
  round = round;
  epoch = epoch;
  count = 0;
  writer = 0;
  word = record { 0 = 0 };
  seal = record { 0 = 0 };
}

-- the same with a pair
abbrev pub paired : ℕ → ℕ → ℕ → ℕ → ℕ → Pair → Entry
paired sender kind addressee round epoch p = record {
  sender = sender;
  kind = kind;
  addressee = addressee;
  round = round;
  epoch = epoch;
  count = p.stamp.count;
  writer = p.stamp.writer;
  word = p.word;
  seal = p.seal;
}

-- a configuration of this kind of entry, the set in the word
abbrev pub configured : ℕ → ℕ → Configuration → Entry
configured sender kind c = record {
  sender = sender;
  kind = kind;
  addressee = 0;
  round = 0;
  epoch = c.epoch;
  count = 0;
  writer = 0;
  word = record { 0 = c.set.0 };
  seal = c.seal;
}

-- client to any replica, in a round and an epoch
abbrev pub read_entry : ℕ → ℕ → ℕ → Entry
read_entry client round epoch = plain client 1 0 round epoch

abbrev pub write_entry : ℕ → ℕ → ℕ → Pair → Entry
write_entry client round epoch p = paired client 2 0 round epoch p

-- replica to any replica
abbrev pub transfer_entry : ℕ → Configuration → Entry
transfer_entry sender c = configured sender 3 c

-- the answers go to the sender of what was asked and repeat its round and epoch
abbrev pub pair_entry : ℕ → Entry → Pair → Entry
pair_entry sender asked p = paired sender 4 asked.sender asked.round asked.epoch p

abbrev pub ack_entry : ℕ → Entry → Entry
ack_entry sender asked = plain sender 5 asked.sender asked.round asked.epoch

abbrev pub stock_entry : ℕ → Entry → Pair → Entry
stock_entry sender asked p = paired sender 6 asked.sender asked.round asked.epoch p

-- anyone to any client or replica
abbrev pub config_entry : ℕ → Configuration → Entry
config_entry sender c = configured sender 7 c

abbrev pub behind_entry : ℕ → Entry → Entry
behind_entry sender asked = plain sender 8 asked.sender asked.round asked.epoch
