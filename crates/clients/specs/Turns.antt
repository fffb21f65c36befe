-- What a client makes of an entry: the line that comes of it with an entry to post or none, or an objection.
-- Each rule is one definition; its checks stand in the order in which they are made.
use Rattle.std.specs.Prelude.{ℕ, ◌+◌, max, Bool, cond, not, ◌&&◌, Some, None, Ok, Err, Option, Result, ◌==◌, count_ones, nat_le, nat_lt}
use Rattle.kinds.specs.declared.word.Word.{Word}
use Rattle.wire.specs.declared.entry.Entry.{Entry}
use Rattle.wire.specs.declared.entry.EntryKind.{EntryKind}
use Rattle.wire.specs.declared.entry.EntryKind.TheVariants.{Read, Write, Transfer, Pair as APair, Ack, Stock, Config, Behind}
use Rattle.wire.specs.declared.pair.Pair.{Pair}
use Rattle.wire.specs.Entries.{kind_of, pair_of, configuration_of}
use Rattle.wire.specs.Sets.{member}
use Rattle.wire.specs.Parties.{Client, Replica}
use Rattle.rules.specs.declared.objection.Objection.{Objection}
use Rattle.rules.specs.declared.objection.Objection.TheVariants.{TooHigh, NotGenuine, NotMember, AlreadyCounted, NotAwaited, NotNext}
use Rattle.rules.specs.declared.rules.Rules.{Rules}
use Rattle.rules.specs.Genuine.{quorum_size}
use Rattle.rules.specs.Posts.{read_entry, write_entry, config_entry}
use Rattle.rules.specs.Senders.{sender_within}
use Rattle.clients.specs.declared.line.Line.{Line}
use Rattle.clients.specs.declared.line.Stage.{Stage}
use Rattle.clients.specs.declared.line.Stage.TheVariants.{Idle, Reading, Writing, WritingBack, Over}
use Rattle.clients.specs.declared.turn.Turn.{Turn}
use Rattle.clients.specs.declared.turn.Turn.TheVariants.{Moves, Stamps}
use Rattle.clients.specs.Lines.{no_pair, is_open, is_reading, is_writing, opened, configured_as, ended, counting, hearing, stamped}

abbrev pub Verdict : Type 0
Verdict = Result Turn Objection

-- the line becomes this, and this entry is posted
abbrev pub moves : Line → Option Entry → Verdict
moves line post = Ok (Moves line post)

-- what goes on with one more than a number of 32 bits, or that the number is too high
abbrev pub after : ℕ → (ℕ → Verdict) → Verdict
after n go = cond (nat_lt n 4294967295) (go (n + 1)) (Err TooHigh)

-- one more than a number of 32 bits, as far as there is one
abbrev pub one_more : ℕ → Result ℕ Objection
one_more n = cond (nat_lt n 4294967295) (Ok (n + 1)) (Err TooHigh)

-- what is posted in a round that asks for pairs, and in one with a pair in flight
abbrev pub read_of : Client → Line → Entry
read_of client line = read_entry client.number line.round line.configuration.epoch

abbrev pub write_of : Client → Line → Entry
write_of client line = write_entry client.number line.round line.configuration.epoch line.highest

abbrev pub with_read : Client → Line → Verdict
with_read client line = moves line (Some (read_of client line))

abbrev pub with_write : Client → Line → Verdict
with_write client line = moves line (Some (write_of client line))

-- the next round asks for pairs
abbrev pub reads_next : Client → Line → Verdict
reads_next client line = after line.round (λ round. with_read client (opened line Reading round no_pair))

-- the next round, of this stage, has the line's highest pair in flight
abbrev pub writes_next : Stage → Client → Line → Verdict
writes_next stage client line = after line.round (λ round. with_write client (opened line stage round line.highest))

-- the pair of a write: one above the larger of the highest count heard and the client's own last; not sealed yet
abbrev pub unsealed : Client → ℕ → Word → Pair
unsealed client count word = record { stamp = record { count = count; writer = client.number }; word = word; seal = record { 0 = 0 } }

-- a round of reading closes:
-- a read whose stamps all agree is over with that pair; another writes its highest pair back in the next round;
-- a write takes its stamp, and writes in the next round
abbrev pub closing : Option Word → Client → Line → Verdict
closing None client line =
    cond line.agree (moves (ended line) None) (writes_next WritingBack client line)
closing (Some word) client line =
    after (max line.highest.stamp.count line.last_count) (λ count.
    after line.round (λ round.
    Ok (Stamps (stamped line round (unsealed client count word)))))

-- whether 2f+1 are counted
abbrev pub is_quorum : Rules → Line → Bool
is_quorum rules line = nat_le (quorum_size rules) (count_ones line.counted.0)

abbrev pub pair_heard : Rules → Client → Line → Verdict
pair_heard rules client line = cond (is_quorum rules line) (closing line.word client line) (moves line None)

abbrev pub ack_heard : Rules → Line → Verdict
ack_heard rules line = cond (is_quorum rules line) (moves (ended line) None) (moves line None)

-- PAIR from a member of the client's set: once from each, with a genuine pair
abbrev pub on_pair_from : Option Replica → Rules → Client → Line → Entry → Bool → Verdict
on_pair_from None rules client line e genuine = Err NotMember
on_pair_from (Some from) rules client line e genuine =
    cond (member line.counted.0 from.number) (Err AlreadyCounted)
    (cond (not genuine) (Err NotGenuine)
    (pair_heard rules client (hearing line from (pair_of e))))

-- PAIR is awaited while reading, for the round that is open
abbrev pub on_pair : Rules → Client → Line → Entry → Bool → Verdict
on_pair rules client line e genuine =
    cond (not (is_reading line.stage && e.round == line.round)) (Err NotAwaited)
    (on_pair_from (sender_within line.configuration.set.0 e.sender) rules client line e genuine)

-- ACK from a member of the client's set: once from each
abbrev pub on_ack_from : Option Replica → Rules → Line → Verdict
on_ack_from None rules line = Err NotMember
on_ack_from (Some from) rules line =
    cond (member line.counted.0 from.number) (Err AlreadyCounted)
    (ack_heard rules (counting line from))

-- ACK is awaited while writing or writing back, for the round that is open
abbrev pub on_ack : Rules → Line → Entry → Verdict
on_ack rules line e =
    cond (not (is_writing line.stage && e.round == line.round)) (Err NotAwaited)
    (on_ack_from (sender_within line.configuration.set.0 e.sender) rules line)

-- in a new configuration a client without an open round goes on as it was;
-- a writing client sends the same pair in a new round, any other reads again
abbrev pub reopening : Stage → Client → Line → Verdict
reopening Idle client line = moves line None
reopening Reading client line = reads_next client line
reopening Writing client line = writes_next Writing client line
reopening WritingBack client line = reads_next client line
reopening Over client line = moves line None

-- CONFIG: it has to be newer, and genuine
abbrev pub on_config : Client → Line → Entry → Bool → Verdict
on_config client line e genuine =
    cond (nat_le e.epoch line.configuration.epoch) (Err NotNext)
    (cond (not genuine) (Err NotGenuine)
    (reopening line.stage client (configured_as line (configuration_of e))))

-- BEHIND for the open round: CONFIG with the client's configuration
abbrev pub on_behind : Client → Line → Entry → Verdict
on_behind client line e =
    cond (not (is_open line.stage && e.round == line.round)) (Err NotAwaited)
    (moves line (Some (config_entry client.number line.configuration)))

abbrev pub decided_by_kind : Option EntryKind → Rules → Client → Line → Entry → Bool → Verdict
decided_by_kind None rules client line e genuine = Err NotAwaited
decided_by_kind (Some Read) rules client line e genuine = Err NotAwaited
decided_by_kind (Some Write) rules client line e genuine = Err NotAwaited
decided_by_kind (Some Transfer) rules client line e genuine = Err NotAwaited
decided_by_kind (Some APair) rules client line e genuine = on_pair rules client line e genuine
decided_by_kind (Some Ack) rules client line e genuine = on_ack rules line e
decided_by_kind (Some Stock) rules client line e genuine = Err NotAwaited
decided_by_kind (Some Config) rules client line e genuine = on_config client line e genuine
decided_by_kind (Some Behind) rules client line e genuine = on_behind client line e

-- what a client with this line makes of an entry; `genuine` says whether what the entry carries is genuine
abbrev pub decided : Rules → Client → Line → Entry → Bool → Verdict
decided rules client line e genuine = decided_by_kind (kind_of e.kind) rules client line e genuine
