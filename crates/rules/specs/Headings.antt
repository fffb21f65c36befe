-- The heading of an entry.
use Rattle.std.specs.Prelude.{ℕ}
use Rattle.wire.specs.declared.entry.Entry.{Entry}
use Rattle.rules.specs.declared.posts.Heading.{Heading}

-- an answer goes to the sender of what was asked, and repeats its round and epoch
abbrev pub answering : ℕ → Entry → Heading
answering sender asked = record { sender = sender; addressee = asked.sender; round = asked.round; epoch = asked.epoch }
