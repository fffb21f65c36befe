-- Runs: what an opening leaves, any list of calls from there on, and that no seal is forged.
use Rattle.std.specs.Prelude.{◌≡◌, ℕ, ◌+◌, ◌<◌, ◌≤◌, Bool, true, false, ◌||◌, [], ◌∷◌, length, Some, None, Option, ◌==◌}
use Rattle.kinds.specs.declared.word.Word.{Word}
use Rattle.wire.specs.declared.entry.Entry.{Entry}
use Rattle.wire.specs.declared.entry.EntryKind.{EntryKind}
use Rattle.wire.specs.declared.entry.EntryKind.TheVariants.{Write, Transfer, Pair as APair, Stock, Config}
use Rattle.wire.specs.declared.pair.Seal.{Seal}
use Rattle.wire.specs.declared.text.Text.{Text}
use Rattle.wire.specs.Entries.{kind_of, pair_of, configuration_of}
use Rattle.wire.specs.Sets.{member}
use Rattle.wire.specs.Texts.{pair_text, configuration_text}
use Rattle.stores.specs.declared.card.Card.{Card}
use Rattle.rules.specs.declared.rules.Rules.{Rules}
use Rattle.rules.specs.Genuine.{opening_pair, first_configuration, is_client}
use Rattle.clients.specs.Lines.{idle_line}
use Rattle.halls.specs.declared.seat.Seat.{Seat}
use Rattle.model.specs.Tables.{places}
use Rattle.kinds.specs.Kinds.{RecordKind}
use Rattle.model.specs.Halls.{Hall, World, has_its_tables, seat_of}
use Rattle.model.specs.Answers.{Answer}
use Rattle.model.specs.Issuing.{is_right_set, has_too_many_marked}
use Rattle.model.specs.Calls.{Call, Step}
use Rattle.model.specs.Delivering.{entry_of}

-- the laws of a record kind: its number, a value's word gives back that value, no other word does
pub record Lawful {V : Type 0} (kind : RecordKind V) : Type 0 where
  pub numbered : kind.number ≤ 63
  pub kept : (v : V) → kind.value (kind.word v) ≡ Some v
  pub exact : (w : Word) (v : V) → kind.value w ≡ Some v → kind.word v ≡ w

-- the card that the opening saves for replica n: epoch 0, the first set, the opening pair, ready if a member
abbrev pub first_card : Rules → ℕ → Card
first_card rules n = record {
  epoch = 0;
  set = rules.first;
  seal = record { 0 = 0 };
  previous = record { 0 = 0 };
  previous_seal = record { 0 = 0 };
  heard = record { 0 = 0 };
  ready = member rules.first.0 n;
  pair = opening_pair rules;
}

abbrev pub first_seat : Rules → Seat
first_seat rules = record { line = idle_line (first_configuration rules); operation = 0; lodged = None }

-- what an opening with the value v leaves
pub record Opened {V : Type 0} (kind : RecordKind V) (v : V) (h : Hall) : Type 0 where
  pub faults : 1 ≤ h.rules.faults
  pub replicas : h.rules.replicas ≤ 64
  pub clients : h.rules.clients ≤ 32
  pub first : is_right_set h.rules h.rules.first.0 ≡ true
  pub marked : has_too_many_marked h.rules h.marked h.rules.first.0 ≡ false
  pub opening : h.rules.opening ≡ kind.word v
  pub tables : has_its_tables h ≡ true
  pub post_limit : places h.post ≤ 4096
  pub log_limit : places h.log ≤ 1024
  pub roll_limit : places h.roll ≤ 256
  pub source : h.source.newest ≡ 0
  pub moment : h.moment ≡ 0
  pub post : h.post.list ≡ []
  pub log : h.log.list ≡ []
  pub roll : h.roll.list ≡ first_configuration h.rules ∷ []
  pub seats : (c : ℕ) → 1 ≤ c → c ≤ h.rules.clients → seat_of h c ≡ first_seat h.rules
  pub cards : (n : ℕ) → n < h.rules.replicas → h.place n ≡ Some (first_card h.rules n)

-- any list of calls, from a world on; the calls have the positions 0, 1, 2, ..
pub record Run {V : Type 0} (kind : RecordKind V) (start : World) : Type 0 where
  pub calls : ℕ
  -- the world before the call at a position
  pub world : ℕ → World
  pub call : ℕ → Call V
  pub answer : ℕ → Answer V
  pub opens : world 0 ≡ start
  pub steps : (i : ℕ) → i < calls → Step kind (world i) (call i) (answer i) (world (i + 1))

abbrev pub text_by_kind : Option EntryKind → ℕ → Entry → Option Text
text_by_kind (Some Write) kind e = Some (pair_text kind (pair_of e))
text_by_kind (Some Transfer) kind e = Some (configuration_text (configuration_of e))
text_by_kind (Some APair) kind e = Some (pair_text kind (pair_of e))
text_by_kind (Some Stock) kind e = Some (pair_text kind (pair_of e))
text_by_kind (Some Config) kind e = Some (configuration_text (configuration_of e))
text_by_kind other kind e = None

-- the text that an entry carries: WRITE, PAIR and STOCK a pair's, TRANSFER and CONFIG a configuration's
abbrev pub text_of : ℕ → Entry → Option Text
text_of kind e = text_by_kind (kind_of e.kind) kind e

-- a text of the source, or of a client of the hall
abbrev pub is_honest_text : Rules → Text → Bool
is_honest_text rules t = t.party == 0 || is_client rules t.party

-- an earlier call of the run has sealed this text
pub record SealedBefore {V : Type 0} {kind : RecordKind V} {start : World} (run : Run kind start) (i : ℕ) (t : Text) : Type 0 where
  pub position : ℕ
  pub earlier : position < i
  pub within : position < run.calls
  pub text : (run.steps position within).sealed ≡ Some t

-- a posted seal checks for a text of the source or of a client only if that text was sealed before
abbrev pub Unforged : {V : Type 0} {kind : RecordKind V} {start : World} → Run kind start → Type 0
Unforged {kind = kind} run =
    (i : ℕ) → i ≤ run.calls → (n : ℕ) → n < length (run.world i).hall.post.list → (t : Text)
    → text_of kind.number (entry_of (run.world i).hall n) ≡ Some t
    → is_honest_text (run.world i).hall.rules t ≡ true
    → (run.world i).genuine t (entry_of (run.world i).hall n).seal ≡ true
    → SealedBefore run i t

-- nothing is genuine at the start, and no seal becomes so beside one that is given
pub record OnlyGiven {V : Type 0} {kind : RecordKind V} {start : World} (run : Run kind start) : Type 0 where
  pub none : (t : Text) (s : Seal) → start.genuine t s ≡ false
  pub beside : (i : ℕ) → i < run.calls → (text t : Text) (s : Seal) → (run.world i).left_open.beside text t s ≡ false
