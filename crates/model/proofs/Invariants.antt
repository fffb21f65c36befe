-- What holds of every world that a run reaches: of its roll, its sealed texts, its cards, its seats and its log.
-- Nothing here is assumed: `Holds` is proved for the opening, and kept by every call of a run whose seals are not forged.
use Rattle.std.proofs.Common.{◌≡◌, ℕ, ◌+◌, ◌*◌, ◌^◌, ◌<◌, ◌≤◌, min, Bool, true, false, List, [], ◌∷◌, ◌++◌, reverse, length, get_or, Some, None, Option}
use mathlib.Core.List.{Memᴰ}
use lib.Count.{ones}
use Rattle.kinds.specs.declared.word.Word.{Word}
use Rattle.wire.specs.declared.entry.Entry.{Entry}
use Rattle.wire.specs.declared.pair.Configuration.{Configuration}
use Rattle.wire.specs.declared.pair.Pair.{Pair}
use Rattle.wire.specs.declared.pair.Seal.{Seal}
use Rattle.wire.specs.declared.text.Text.{Text}
use Rattle.wire.specs.Entries.{pair_of}
use Rattle.wire.specs.Sets.{member}
use Rattle.wire.specs.Texts.{pair_text, configuration_text}
use Rattle.stores.specs.declared.card.Card.{Card}
use Rattle.rules.specs.declared.rules.Rules.{Rules}
use Rattle.rules.specs.Genuine.{genuine_pair}
use Rattle.clients.specs.declared.line.Line.{Line}
use Rattle.clients.specs.declared.line.Stage.{Stage}
use Rattle.clients.specs.declared.line.Stage.TheVariants.{Idle, Reading, Writing, WritingBack, Over}
use Rattle.clients.specs.Lines.{is_idle, is_open}
use Rattle.quorums.specs.Quorums.{Views, Sound, Within, Honest}
use Rattle.histories.specs.Places.{Posted}
use Rattle.histories.specs.Shapes.{ReadEntry, WriteEntry, PairEntry, AckEntry}
use Rattle.histories.specs.Histories.{Served, Stocked, StockedTo, Evidence, Settled, Good}
use Rattle.histories.specs.Reads.{Answered}
use Rattle.halls.specs.declared.operation.Operation.{Operation}
use Rattle.halls.specs.declared.seat.Seat.{Seat}
use Rattle.model.specs.Tables.{places}
use Rattle.model.specs.Halls.{Hall, World, no_entry, no_operation, no_configuration, has_its_tables, seat_of, operation_of, end_of}
use Rattle.model.specs.Runs.{text_of, is_honest_text}
use Rattle.model.specs.Delivering.{entry_of}

-- the configuration of an epoch, all 0 past the last
abbrev pub issued_as : Hall → ℕ → Configuration
issued_as h e = get_or h.roll.list e no_configuration

-- the replica sets of the epochs of a roll
abbrev pub views_of : Rules → ℕ → List Configuration → Views
views_of rules marked list = record {
  faults = rules.faults;
  issued = length list;
  set = λ e. (get_or list e no_configuration).set.0;
  marked = marked;
}

abbrev pub views : Hall → Views
views h = views_of h.rules h.marked h.roll.list

-- the posted entries, newest first
unfoldable pub history : Hall → List Entry
history h = reverse h.post.list

-- a stamp as one number
abbrev pub stamp_number : Pair → ℕ
stamp_number p = p.stamp.count * 256 + p.stamp.writer

-- the configuration is that of its epoch, seals aside
pub record KnownConfiguration (h : Hall) (c : Configuration) : Type 0 where
  pub issued : c.epoch < length h.roll.list
  pub set : c.set.0 ≡ (issued_as h c.epoch).set.0

-- a logged write that has taken its stamp
pub record StampedWrite (h : Hall) (k : ℕ) : Type 0 where
  pub logged : k < length h.log.list
  pub writes : (operation_of h k).writes ≡ true
  pub stamped : 0 < (operation_of h k).pair.stamp.count

-- the pair is, seals aside, the opening pair or that of a logged write
pub data KnownPair (h : Hall) (p : Pair) : Type 0 where
  the_opening : p.stamp.count ≡ 0 → p.stamp.writer ≡ 0 → p.word ≡ h.rules.opening → KnownPair h p
  a_write : (k : ℕ) → StampedWrite h k → (operation_of h k).pair.stamp ≡ p.stamp → (operation_of h k).pair.word ≡ p.word → KnownPair h p

-- the text is that of an issued configuration, or of a logged write
pub data KnownText (kind : ℕ) (h : Hall) (t : Text) : Type 0 where
  of_configuration : (e : ℕ) → e < length h.roll.list → t ≡ configuration_text (issued_as h e) → KnownText kind h t
  of_write : (k : ℕ) → StampedWrite h k → t ≡ pair_text kind (operation_of h k).pair → KnownText kind h t

-- the pair checks
abbrev pub Genuine : ℕ → World → Pair → Type 0
Genuine kind w p = genuine_pair w.hall.rules kind w.genuine p ≡ true

-- at least one fault, and no more parties than there are numbers for them
pub record Limited (rules : Rules) : Type 0 where
  pub faults : 1 ≤ rules.faults
  pub replicas : rules.replicas ≤ 64
  pub clients : rules.clients ≤ 32

-- the tables keep their lengths, and these are small
pub record Sized (h : Hall) : Type 0 where
  pub tables : has_its_tables h ≡ true
  pub limits : Limited h.rules
  pub open limits use *
  pub post_limit : places h.post ≤ 4096
  pub log_limit : places h.log ≤ 1024

-- of a roll, in a hall with these rules and marks
pub record RollRule (rules : Rules) (marked : ℕ) (list : List Configuration) (newest : ℕ) : Type 0 where
  pub sound : Sound (views_of rules marked list)
  pub some : 0 < length list
  pub first : (get_or list 0 no_configuration).set.0 ≡ rules.first.0
  pub epochs : (e : ℕ) → e < length list → (get_or list e no_configuration).epoch ≡ e
  pub source : newest + 1 ≡ length list
  -- every set is one of the hall's replicas
  pub inside : (e : ℕ) → e < length list → (get_or list e no_configuration).set.0 < 2 ^ rules.replicas

-- of the card of an honest replica q
pub record CardRule (kind : ℕ) (w : World) (q : ℕ) (card : Card) : Type 0 where
  pub issued : card.epoch < length w.hall.roll.list
  pub set : card.set.0 ≡ (issued_as w.hall card.epoch).set.0
  pub previous : (a : ℕ) → card.epoch ≡ a + 1 → card.previous.0 ≡ (issued_as w.hall a).set.0
  -- what it has served is not above its stamp, what it has given as stock is of an epoch that it has left
  pub served : {e t : ℕ} → Served (history w.hall) q e t → t ≤ stamp_number card.pair
  pub stocked : {r a s : ℕ} → Stocked (history w.hall) q r a s → a < card.epoch
  -- it has fetched its state in each epoch that it was a member of and has left, and where it is ready
  pub left : (e : ℕ) → e < card.epoch → member (issued_as w.hall e).set.0 q ≡ true → Evidence (views w.hall) (history w.hall) q e (stamp_number card.pair)
  pub ready : card.ready ≡ true → Evidence (views w.hall) (history w.hall) q card.epoch (stamp_number card.pair)
  -- whom it has heard has given it stock
  pub heard : (n a : ℕ) → member card.heard.0 n ≡ true → card.epoch ≡ a + 1 → StockedTo (history w.hall) n q a (stamp_number card.pair)
  pub heard_within : (a : ℕ) → card.epoch ≡ a + 1 → Within card.heard.0 (issued_as w.hall a).set.0
  pub known : KnownPair w.hall card.pair
  pub genuine : Genuine kind w card.pair

-- the replica has a card, and an honest one's is as it should be
pub record CardOf (kind : ℕ) (w : World) (q : ℕ) : Type 0 where
  pub card : Card
  pub kept : w.hall.place q ≡ Some card
  pub rule : Honest (views w.hall) q → CardRule kind w q card

-- of a PAIR or ACK that an honest replica has posted: it is a member of that epoch's set, and its pair is genuine
pub record AnswerRule (kind : ℕ) (w : World) (x : Entry) : Type 0 where
  pub pair : {q e s : ℕ} → PairEntry q e s x → Honest (views w.hall) q → member (issued_as w.hall e).set.0 q ≡ true
  pub ack : {q e c r : ℕ} → AckEntry q e c r x → Honest (views w.hall) q → member (issued_as w.hall e).set.0 q ≡ true
  pub genuine : {q e s : ℕ} → PairEntry q e s x → Honest (views w.hall) q → Genuine kind w (pair_of x)

-- the operation at place k of the log had ended before the one at place j began
pub record OverBefore (h : Hall) (k j : ℕ) : Type 0 where
  pub logged : k < length h.log.list
  pub over : 0 < end_of (operation_of h k)
  pub before : end_of (operation_of h k) < (operation_of h j).began

-- settled in some epoch
pub record SettledSomewhere (v : Views) (past : List Entry) (t : ℕ) : Type 0 where
  pub epoch : ℕ
  pub settled : Settled v past epoch t

-- the READ of a round stands in the history, and below it everything was settled that had ended before this operation began;
-- a write has no stamp yet, and a seal left for it
pub record AskedRule (w : World) (c round epoch operation : ℕ) : Type 0 where
  pub newer : List Entry
  pub read : Entry
  pub older : List Entry
  pub splits : history w.hall ≡ newer ++ (read ∷ older)
  pub asked : ReadEntry c round epoch read
  pub before : (k : ℕ) → OverBefore w.hall k operation → SettledSomewhere (views w.hall) older (stamp_number (operation_of w.hall k).pair)
  pub unstamped : (operation_of w.hall operation).writes ≡ true → (operation_of w.hall operation).pair.stamp.count ≡ 0
  pub seal_left : (operation_of w.hall operation).writes ≡ true → 0 < w.hall.seals c

-- while reading: the READ of this round stands in the history, and each counted replica, if honest, has answered above it
pub record ReadingRule (kind : ℕ) (w : World) (c : ℕ) (line : Line) (operation : ℕ) : Type 0 where
  pub read_asked : AskedRule w c line.round line.configuration.epoch operation
  pub open read_asked use *
  pub answered : (n : ℕ) → member line.counted.0 n ≡ true → Honest (views w.hall) n → Answered newer n line.configuration.epoch (stamp_number line.highest)
  pub agreed : line.agree ≡ true → (n : ℕ) → member line.counted.0 n ≡ true → Honest (views w.hall) n → Served (history w.hall) n line.configuration.epoch (stamp_number line.highest)
  pub highest : (line.counted.0 ≡ 0 → ⊥) → KnownPair w.hall line.highest
  pub genuine : (line.counted.0 ≡ 0 → ⊥) → Genuine kind w line.highest

-- the pair that an operation ends with: a write's own, or one that is not below what had ended before the read began
pub record EndPair (w : World) (pair : Pair) (operation : ℕ) (writes : Bool) : Type 0 where
  pub known : KnownPair w.hall pair
  pub writes_is : (operation_of w.hall operation).writes ≡ writes
  pub stamped : writes ≡ true → StampedWrite w.hall operation
  pub own_pair : writes ≡ true → (operation_of w.hall operation).pair ≡ pair
  pub after : writes ≡ false → (k : ℕ) → OverBefore w.hall k operation → stamp_number (operation_of w.hall k).pair ≤ stamp_number pair

-- while writing or writing back: the WRITE of this round with the pair in flight stands in the history,
-- and each counted replica, if honest, has served that pair
pub record SendingRule (kind : ℕ) (w : World) (c : ℕ) (line : Line) (operation : ℕ) (writes : Bool) : Type 0 where
  pub asked : Posted (WriteEntry c line.round line.configuration.epoch (stamp_number line.highest)) (history w.hall)
  pub served : (n : ℕ) → member line.counted.0 n ≡ true → Honest (views w.hall) n → Served (history w.hall) n line.configuration.epoch (stamp_number line.highest)
  pub genuine : Genuine kind w line.highest
  pub ends_with : EndPair w line.highest operation writes
  pub open ends_with use *

-- once the operation is over: it has ended, with this pair
pub record OverRule (w : World) (pair : Pair) (operation : ℕ) : Type 0 where
  pub ended : 0 < end_of (operation_of w.hall operation)
  pub with_pair : (operation_of w.hall operation).pair ≡ pair

-- a round is open: the operation has not ended, and fewer than 2f+1 are counted
pub record OpenRule (w : World) (counted set operation : ℕ) : Type 0 where
  pub unended : end_of (operation_of w.hall operation) ≡ 0
  pub within : Within counted set
  pub few : ones counted < 2 * w.hall.rules.faults + 1

-- the operation of a seat that is not idle, which is to write this word or to read
pub record OwnRule (w : World) (c : ℕ) (to_write : Option Word) (operation : ℕ) : Type 0 where
  pub logged : operation < length w.hall.log.list
  pub client : (operation_of w.hall operation).client ≡ c
  pub reads : to_write ≡ None → (operation_of w.hall operation).writes ≡ false
  pub writes : (word : Word) → to_write ≡ Some word → (operation_of w.hall operation).writes ≡ true
  pub word : (word : Word) → to_write ≡ Some word → (operation_of w.hall operation).pair.word ≡ word

-- what client c has asked, stamped and begun so far
pub record PastRule (w : World) (c round last_count operation : ℕ) : Type 0 where
  pub reads : {k e : ℕ} → Posted (ReadEntry c k e) (history w.hall) → k ≤ round
  pub writes : {k e s : ℕ} → Posted (WriteEntry c k e s) (history w.hall) → k ≤ round
  -- each round and each stamp went with an entry of its own
  pub round_low : round ≤ length w.hall.post.list
  pub count_low : last_count ≤ length w.hall.post.list
  -- its stamps are not above its last count
  pub counts : (k : ℕ) → StampedWrite w.hall k → (operation_of w.hall k).client ≡ c → (operation_of w.hall k).pair.stamp.count ≤ last_count
  -- no operation of the client is newer
  pub newest : (k : ℕ) → k < length w.hall.log.list → (operation_of w.hall k).client ≡ c → k ≤ operation

-- what a seat keeps in every stage
pub record SeatBase (w : World) (c : ℕ) (line : Line) (operation : ℕ) : Type 0 where
  pub configuration : KnownConfiguration w.hall line.configuration
  pub past : PastRule w c line.round line.last_count operation
  pub open past use *
  pub own : is_idle line.stage ≡ false → OwnRule w c line.word operation
  pub opens : is_open line.stage ≡ true → OpenRule w line.counted.0 line.configuration.set.0 operation

-- what a seat keeps in one stage
abbrev pub InStage : ℕ → World → ℕ → Line → ℕ → Stage → Type 0
InStage kind w c line operation Idle = Unit {0}
InStage kind w c line operation Reading = ReadingRule kind w c line operation
InStage kind w c line operation Writing = SendingRule kind w c line operation true
InStage kind w c line operation WritingBack = SendingRule kind w c line operation false
InStage kind w c line operation Over = OverRule w line.highest operation

-- of the seat of client c
pub record SeatRule (kind : ℕ) (w : World) (c : ℕ) (seat : Seat) : Type 0 where
  pub base : SeatBase w c seat.line seat.operation
  pub open base use *
  pub stage : InStage kind w c seat.line seat.operation seat.line.stage

-- of the operation at place k of the log
pub record OperationRule (w : World) (k : ℕ) : Type 0 where
  pub client_low : 1 ≤ (operation_of w.hall k).client
  pub client_high : (operation_of w.hall k).client ≤ w.hall.rules.clients
  pub began : 0 < (operation_of w.hall k).began
  pub began_by : (operation_of w.hall k).began ≤ w.hall.moment
  pub ended_after : 0 < end_of (operation_of w.hall k) → (operation_of w.hall k).began < end_of (operation_of w.hall k)
  pub ended_by : end_of (operation_of w.hall k) ≤ w.hall.moment
  pub settled : 0 < end_of (operation_of w.hall k) → SettledSomewhere (views w.hall) (history w.hall) (stamp_number (operation_of w.hall k).pair)
  pub known : 0 < end_of (operation_of w.hall k) → KnownPair w.hall (operation_of w.hall k).pair
  -- a write's writer is its client, and a write that has ended has its stamp
  pub writer : (operation_of w.hall k).writes ≡ true → 0 < (operation_of w.hall k).pair.stamp.count → (operation_of w.hall k).pair.stamp.writer ≡ (operation_of w.hall k).client
  pub stamped : (operation_of w.hall k).writes ≡ true → 0 < end_of (operation_of w.hall k) → 0 < (operation_of w.hall k).pair.stamp.count
  pub low : (operation_of w.hall k).writes ≡ true → (operation_of w.hall k).pair.stamp.count ≤ length w.hall.post.list

-- how many operations have ended
unfoldable pub ends : List Operation → ℕ
ends [] = 0
ends (op ∷ ops) = min 1 (end_of op) + ends ops

pub record LogRule (w : World) : Type 0 where
  -- each begin and each end has taken one moment
  pub moments : w.hall.moment ≡ length w.hall.log.list + ends w.hall.log.list
  pub each : (k : ℕ) → k < length w.hall.log.list → OperationRule w k
  pub rising : (j k : ℕ) → j < k → k < length w.hall.log.list → (operation_of w.hall j).began < (operation_of w.hall k).began
  -- no two writes have the same stamp
  pub own_stamp : (j k : ℕ) → StampedWrite w.hall j → StampedWrite w.hall k → stamp_number (operation_of w.hall j).pair ≡ stamp_number (operation_of w.hall k).pair → j ≡ k
  -- stamps do not fall in real time, and rise at writes
  pub falls_not : (j k : ℕ) → OverBefore w.hall j k → k < length w.hall.log.list → (operation_of w.hall k).writes ≡ false → 0 < end_of (operation_of w.hall k) → stamp_number (operation_of w.hall j).pair ≤ stamp_number (operation_of w.hall k).pair
  pub rises : (j k : ℕ) → OverBefore w.hall j k → StampedWrite w.hall k → stamp_number (operation_of w.hall j).pair < stamp_number (operation_of w.hall k).pair

-- all of it; `sealed` are the texts that the calls so far have sealed
pub record Holds (kind : ℕ) (sealed : List Text) (w : World) : Type 0 where
  pub sized : Sized w.hall
  pub roll : RollRule w.hall.rules w.hall.marked w.hall.roll.list w.hall.source.newest
  pub good : Good (views w.hall) (history w.hall)
  pub answers : (n : ℕ) → n < length w.hall.post.list → AnswerRule kind w (entry_of w.hall n)
  pub cards : (q : ℕ) → q < w.hall.rules.replicas → CardOf kind w q
  pub seats : (c : ℕ) → 1 ≤ c → c ≤ w.hall.rules.clients → SeatRule kind w c (seat_of w.hall c)
  pub log : LogRule w
  pub texts : (t : Text) → Memᴰ t sealed → KnownText kind w.hall t

-- a posted seal checks, for a text of the source or of a client, only for one among these
pub record UnforgedNow (kind : ℕ) (sealed : List Text) (w : World) : Type 0 where
  pub known : (n : ℕ) → n < length w.hall.post.list → (t : Text) → text_of kind (entry_of w.hall n) ≡ Some t → is_honest_text w.hall.rules t ≡ true → w.genuine t (entry_of w.hall n).seal ≡ true → Memᴰ t sealed

-- the roll goes on as this list, and rules and marks stay
pub record RollGrows (h : Hall) (r : Rules) (m : ℕ) (list : List Configuration) : Type 0 where
  pub rules : r ≡ h.rules
  pub marked : m ≡ h.marked
  pub issued : length h.roll.list ≤ length list
  pub roll : (e : ℕ) → e < length h.roll.list → get_or list e no_configuration ≡ issued_as h e

-- the post goes on as this list
pub record PostGrows (h : Hall) (list : List Entry) : Type 0 where
  pub posted : List Entry
  pub past : reverse list ≡ posted ++ history h
  pub entries : length h.post.list ≤ length list
  pub same_entries : (n : ℕ) → n < length h.post.list → get_or list n no_entry ≡ entry_of h n

-- the log goes on as this list, at this moment: what was said of an operation stands
pub record LogGrows (h : Hall) (ops : List Operation) (now : ℕ) : Type 0 where
  pub moment : h.moment ≤ now
  pub logged : length h.log.list ≤ length ops
  pub client : (k : ℕ) → k < length h.log.list → (get_or ops k no_operation).client ≡ (operation_of h k).client
  pub writes : (k : ℕ) → k < length h.log.list → (get_or ops k no_operation).writes ≡ (operation_of h k).writes
  pub began : (k : ℕ) → k < length h.log.list → (get_or ops k no_operation).began ≡ (operation_of h k).began
  -- a stamp once taken stays, and so does all of an operation that has ended; what ends now ends at a new moment
  pub stamp : (k : ℕ) → StampedWrite h k → (get_or ops k no_operation).pair ≡ (operation_of h k).pair
  pub ended : (k : ℕ) → 0 < end_of (operation_of h k) → get_or ops k no_operation ≡ operation_of h k
  pub ending : (k : ℕ) → end_of (operation_of h k) ≡ 0 → 0 < end_of (get_or ops k no_operation) → h.moment < end_of (get_or ops k no_operation)

-- one world is later than another: what is fixed stays, and what grows has grown
pub record Later (w w' : World) : Type 0 where
  pub rolls : RollGrows w.hall w'.hall.rules w'.hall.marked w'.hall.roll.list
  pub open rolls use *
  pub posts : PostGrows w.hall w'.hall.post.list
  pub open posts use *
  pub logs : LogGrows w.hall w'.hall.log.list w'.hall.moment
  pub open logs use *
  pub genuine : (t : Text) (s : Seal) → w.genuine t s ≡ true → w'.genuine t s ≡ true
