-- What the rules of a hall count as genuine: its opening pair and first configuration, and what its parties have sealed.
use Rattle.std.specs.Prelude.{ℕ, ◌+◌, ◌*◌, Bool, true, ◌&&◌, ◌||◌, Some, None, Option, ◌==◌, nat_le}
use Rattle.wire.specs.declared.entry.Entry.{Entry}
use Rattle.wire.specs.declared.entry.EntryKind.{EntryKind}
use Rattle.wire.specs.declared.entry.EntryKind.TheVariants.{Read, Write, Transfer, Pair as APair, Ack, Stock, Config, Behind}
use Rattle.wire.specs.declared.pair.Configuration.{Configuration}
use Rattle.wire.specs.declared.pair.Pair.{Pair}
use Rattle.wire.specs.declared.pair.Seal.{Seal}
use Rattle.wire.specs.declared.text.Text.{Text}
use Rattle.wire.specs.Entries.{kind_of, pair_of, configuration_of}
use Rattle.wire.specs.Texts.{pair_text, configuration_text}
use Rattle.rules.specs.declared.rules.Rules.{Rules}

-- how many replicas of a set have to answer
abbrev pub quorum_size : Rules → ℕ
quorum_size rules = 2 * rules.faults + 1

-- count 0, writer 0, the opening value's word, seal 0
abbrev pub opening_pair : Rules → Pair
opening_pair rules = record { stamp = record { count = 0; writer = 0 }; word = rules.opening; seal = record { 0 = 0 } }

-- epoch 0 with the first set and seal 0
abbrev pub first_configuration : Rules → Configuration
first_configuration rules = record { epoch = 0; set = rules.first; seal = record { 0 = 0 } }

-- equal in all four numbers
abbrev pub same_pair : Pair → Pair → Bool
same_pair p q =
    (p.stamp.count == q.stamp.count && p.stamp.writer == q.stamp.writer)
    && (p.word.0 == q.word.0 && p.seal.0 == q.seal.0)

-- equal in all three numbers
abbrev pub same_configuration : Configuration → Configuration → Bool
same_configuration c d = c.epoch == d.epoch && (c.set.0 == d.set.0 && c.seal.0 == d.seal.0)

abbrev pub is_client : Rules → ℕ → Bool
is_client rules party = nat_le 1 party && nat_le party rules.clients

-- `checks` says which seals are genuine for a text; `kind` is the number of the record kind
-- a pair is genuine if it is the opening pair, or its writer is a client of the hall and the seal checks
abbrev pub genuine_pair : Rules → ℕ → (Text → Seal → Bool) → Pair → Bool
genuine_pair rules kind checks p =
    same_pair p (opening_pair rules) || (is_client rules p.stamp.writer && checks (pair_text kind p) p.seal)

-- a configuration is genuine if it is the first one, or its seal checks for the source's text
abbrev pub genuine_configuration : Rules → (Text → Seal → Bool) → Configuration → Bool
genuine_configuration rules checks c =
    same_configuration c (first_configuration rules) || checks (configuration_text c) c.seal

-- what an entry carries is genuine: WRITE, PAIR and STOCK a pair, TRANSFER and CONFIG a configuration, the others nothing
abbrev pub genuine_by_kind : Option EntryKind → Rules → ℕ → (Text → Seal → Bool) → Entry → Bool
genuine_by_kind None rules kind checks e = true
genuine_by_kind (Some Read) rules kind checks e = true
genuine_by_kind (Some Write) rules kind checks e = genuine_pair rules kind checks (pair_of e)
genuine_by_kind (Some Transfer) rules kind checks e = genuine_configuration rules checks (configuration_of e)
genuine_by_kind (Some APair) rules kind checks e = genuine_pair rules kind checks (pair_of e)
genuine_by_kind (Some Ack) rules kind checks e = true
genuine_by_kind (Some Stock) rules kind checks e = genuine_pair rules kind checks (pair_of e)
genuine_by_kind (Some Config) rules kind checks e = genuine_configuration rules checks (configuration_of e)
genuine_by_kind (Some Behind) rules kind checks e = true

abbrev pub genuine_entry : Rules → ℕ → (Text → Seal → Bool) → Entry → Bool
genuine_entry rules kind checks e = genuine_by_kind (kind_of e.kind) rules kind checks e
