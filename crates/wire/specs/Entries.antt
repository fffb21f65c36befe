-- The kinds of entry with their numbers, and what an entry carries.
use Rattle.std.specs.Prelude.{◌≡◌, ℕ, cond, Some, None, Option, Result, IfOk, ◌==◌}
use Rattle.std.specs.Option.{ok_or}
use Rattle.wire.specs.declared.entry.Entry.{Entry}
use Rattle.wire.specs.declared.entry.EntryKind.{EntryKind}
use Rattle.wire.specs.declared.entry.EntryKind.TheVariants.{Read, Write, Transfer, Pair as APair, Ack, Stock, Config, Behind}
use Rattle.wire.specs.declared.entry.UnknownKind.{UnknownKind}
use Rattle.wire.specs.declared.pair.Pair.{Pair}
use Rattle.wire.specs.declared.pair.Configuration.{Configuration}

abbrev pub kind_number : EntryKind → ℕ
kind_number Read = 1
kind_number Write = 2
kind_number Transfer = 3
kind_number APair = 4
kind_number Ack = 5
kind_number Stock = 6
kind_number Config = 7
kind_number Behind = 8

abbrev pub kind_of : ℕ → Option EntryKind
kind_of n =
    cond (n == 1) (Some Read)
    (cond (n == 2) (Some Write)
    (cond (n == 3) (Some Transfer)
    (cond (n == 4) (Some APair)
    (cond (n == 5) (Some Ack)
    (cond (n == 6) (Some Stock)
    (cond (n == 7) (Some Config)
    (cond (n == 8) (Some Behind) None)))))))

-- what a number decodes to, and the number of what it decodes to
pub record Decodes (n : ℕ) (r : Result EntryKind UnknownKind) : Type 0 where
  pub value : r ≡ ok_or (kind_of n) (record { 0 = n })
  pub exact : IfOk r (λ k. kind_number k ≡ n)

pub record Encodes (k : EntryKind) (n : ℕ) : Type 0 where
  pub value : n ≡ kind_number k
  pub back : kind_of n ≡ Some k

-- the pair that an entry carries: WRITE, PAIR and STOCK do
abbrev pub pair_of : Entry → Pair
pair_of e = record { stamp = record { count = e.count; writer = e.writer }; word = e.word; seal = e.seal }

-- the configuration that an entry carries, its set in the word: TRANSFER and CONFIG do
abbrev pub configuration_of : Entry → Configuration
configuration_of e = record { epoch = e.epoch; set = record { 0 = e.word.0 }; seal = e.seal }
