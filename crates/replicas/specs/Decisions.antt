-- What a replica decides on an entry: a card to save or none, an entry to post or none, or an objection.
-- Each rule is one definition; its checks stand in the order in which they are made.
use Rattle.std.specs.Prelude.{ℕ, ◌+◌, Bool, false, cond, not, ◌&&◌, Some, None, Ok, Err, Option, Result, ◌==◌, count_ones, nat_le, nat_lt}
use Rattle.wire.specs.declared.entry.Entry.{Entry}
use Rattle.wire.specs.declared.entry.EntryKind.{EntryKind}
use Rattle.wire.specs.declared.entry.EntryKind.TheVariants.{Read, Write, Transfer, Pair as APair, Ack, Stock, Config, Behind}
use Rattle.wire.specs.declared.pair.Configuration.{Configuration}
use Rattle.wire.specs.declared.pair.Pair.{Pair}
use Rattle.wire.specs.Entries.{kind_of, pair_of, configuration_of}
use Rattle.wire.specs.Sets.{member, inserted}
use Rattle.wire.specs.Stamps.{above}
use Rattle.wire.specs.Parties.{Replica}
use Rattle.stores.specs.declared.card.Card.{Card}
use Rattle.rules.specs.declared.objection.Objection.{Objection}
use Rattle.rules.specs.declared.objection.Objection.TheVariants.{NotGenuine, NotMember, AlreadyCounted, NotAwaited, NotNext, NotReady}
use Rattle.rules.specs.declared.rules.Rules.{Rules}
use Rattle.rules.specs.Genuine.{quorum_size}
use Rattle.rules.specs.Posts.{pair_entry, ack_entry, stock_entry, config_entry, behind_entry, transfer_entry}
use Rattle.rules.specs.Senders.{sender_within}
use Rattle.replicas.specs.declared.decision.Decision.{Decision}

abbrev pub Verdict : Type 0
Verdict = Result Decision Objection

-- saves nothing and posts this entry
abbrev pub posts : Entry → Verdict
posts e = Ok (record { save = None; post = Some e })

-- saves this card, and posts this entry or none
abbrev pub saves : Card → Option Entry → Verdict
saves card post = Ok (record { save = Some card; post = post })

-- the party number of a replica
abbrev pub party : Replica → ℕ
party replica = 100 + replica.number

-- the configuration that the replica is in
abbrev pub present : Card → Configuration
present card = record { epoch = card.epoch; set = card.set; seal = card.seal }

-- it belongs to its present set
abbrev pub is_member : Replica → Card → Bool
is_member replica card = member card.set.0 replica.number

-- the card with another pair
abbrev pub holding : Card → Pair → Card
holding card pair = record card { pair = pair }

-- the card in the next configuration: present becomes previous, nobody is heard, it is not ready, the pair is kept
abbrev pub entering : Card → Configuration → Card
entering card new = record {
  epoch = new.epoch;
  set = new.set;
  seal = new.seal;
  previous = card.set;
  previous_seal = card.seal;
  heard = record { 0 = 0 };
  ready = false;
  pair = card.pair;
}

-- the higher of two pairs, the first if their stamps are equal
abbrev pub higher : Pair → Pair → Pair
higher mine other = cond (above other.stamp mine.stamp) other mine

-- the card after the pair of one more member of the previous set: 2f+1 make it ready
abbrev pub stocked : Rules → Card → Replica → Pair → Card
stocked rules card from pair = record card {
  heard = record { 0 = inserted card.heard.0 from.number };
  ready = nat_le (quorum_size rules) (count_ones (inserted card.heard.0 from.number));
  pair = higher card.pair pair;
}

-- READ and WRITE: an earlier epoch is answered by CONFIG, a later one by BEHIND;
-- then the replica has to be in its set, and ready
abbrev pub serving : Replica → Card → Entry → Verdict → Verdict
serving replica card e answer =
    cond (nat_lt e.epoch card.epoch) (posts (config_entry (party replica) (present card)))
    (cond (nat_lt card.epoch e.epoch) (posts (behind_entry (party replica) e))
    (cond (not (is_member replica card)) (Err NotMember)
    (cond (not card.ready) (Err NotReady)
    answer)))

-- READ gets PAIR with the card's pair
abbrev pub on_read : Replica → Card → Entry → Verdict
on_read replica card e = serving replica card e (posts (pair_entry (party replica) e card.pair))

-- WRITE: the pair has to be genuine; a higher stamp is saved; ACK
abbrev pub on_write : Replica → Card → Entry → Bool → Verdict
on_write replica card e genuine =
    serving replica card e
    (cond (not genuine) (Err NotGenuine)
    (cond (above (pair_of e).stamp card.pair.stamp) (saves (holding card (pair_of e)) (Some (ack_entry (party replica) e)))
    (posts (ack_entry (party replica) e))))

-- CONFIG: it has to be the next epoch, and genuine; a member leaves its epoch only when it is ready in it;
-- a member of the new set then asks for stock, showing the configuration that it comes from
abbrev pub on_config : Replica → Card → Entry → Bool → Verdict
on_config replica card e genuine =
    cond (not (e.epoch == card.epoch + 1)) (Err NotNext)
    (cond (not genuine) (Err NotGenuine)
    (cond (is_member replica card && not card.ready) (Err NotReady)
    (saves (entering card (configuration_of e))
    (cond (member e.word.0 replica.number) (Some (transfer_entry (party replica) (present card))) None))))

-- TRANSFER: the configuration shown has to be genuine, and this replica in it;
-- it has to have left that epoch, else BEHIND; STOCK with the card's pair
abbrev pub on_transfer : Replica → Card → Entry → Bool → Verdict
on_transfer replica card e genuine =
    cond (not genuine) (Err NotGenuine)
    (cond (not (member e.word.0 replica.number)) (Err NotMember)
    (cond (nat_le card.epoch e.epoch) (posts (behind_entry (party replica) e))
    (posts (stock_entry (party replica) e card.pair))))

-- STOCK from a member of the previous set: once from each, with a genuine pair
abbrev pub on_stock_from : Option Replica → Rules → Card → Entry → Bool → Verdict
on_stock_from None rules card e genuine = Err NotMember
on_stock_from (Some from) rules card e genuine =
    cond (member card.heard.0 from.number) (Err AlreadyCounted)
    (cond (not genuine) (Err NotGenuine)
    (saves (stocked rules card from (pair_of e)) None))

-- STOCK is awaited by a member that is not ready, for the epoch before its own
abbrev pub on_stock : Rules → Replica → Card → Entry → Bool → Verdict
on_stock rules replica card e genuine =
    cond (not (is_member replica card && (not card.ready && e.epoch + 1 == card.epoch))) (Err NotAwaited)
    (on_stock_from (sender_within card.previous.0 e.sender) rules card e genuine)

-- BEHIND: CONFIG with the card's configuration
abbrev pub on_behind : Replica → Card → Verdict
on_behind replica card = posts (config_entry (party replica) (present card))

abbrev pub decided_by_kind : Option EntryKind → Rules → Replica → Card → Entry → Bool → Verdict
decided_by_kind None rules replica card e genuine = Err NotAwaited
decided_by_kind (Some Read) rules replica card e genuine = on_read replica card e
decided_by_kind (Some Write) rules replica card e genuine = on_write replica card e genuine
decided_by_kind (Some Transfer) rules replica card e genuine = on_transfer replica card e genuine
decided_by_kind (Some APair) rules replica card e genuine = Err NotAwaited
decided_by_kind (Some Ack) rules replica card e genuine = Err NotAwaited
decided_by_kind (Some Stock) rules replica card e genuine = on_stock rules replica card e genuine
decided_by_kind (Some Config) rules replica card e genuine = on_config replica card e genuine
decided_by_kind (Some Behind) rules replica card e genuine = on_behind replica card

-- what a replica with this card decides; `genuine` says whether what the entry carries is genuine
abbrev pub decided : Rules → Replica → Card → Entry → Bool → Verdict
decided rules replica card e genuine = decided_by_kind (kind_of e.kind) rules replica card e genuine
