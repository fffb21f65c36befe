-- What a client can do with an entry: the ways through its step that change its line or post something.
-- The view is told from the verdict alone.
use Rattle.std.proofs.Common.{◌≡◌, ℕ, ◌+◌, ◌<◌, max, Bool, true, false, not, ◌&&◌, eqb, ltb, leb, ◌⊎◌, Some, None, Ok, Option, sym, refl, ap, inl, inr}
use Rattle.std.proofs.lemmas.Bool.{eqb-true, leb-false, not-false, and_parts}
use Rattle.kinds.specs.declared.word.Word.{Word}
use Rattle.wire.specs.declared.entry.Entry.{Entry}
use Rattle.wire.specs.declared.entry.EntryKind.{EntryKind}
use Rattle.wire.specs.declared.entry.EntryKind.TheVariants.{Read, Write, Transfer, Pair as APair, Ack, Stock, Config, Behind}
use Rattle.wire.specs.Entries.{kind_of, pair_of, configuration_of}
use Rattle.wire.specs.Sets.{member}
use Rattle.wire.specs.Parties.{Client, Replica}
use Rattle.rules.specs.declared.rules.Rules.{Rules}
use Rattle.rules.specs.Posts.{config_entry}
use Rattle.rules.specs.Senders.{sender_within}
use Rattle.clients.specs.declared.line.Line.{Line}
use Rattle.clients.specs.declared.line.Stage.{Stage}
use Rattle.clients.specs.declared.line.Stage.TheVariants.{Idle, Reading, Writing, WritingBack, Over}
use Rattle.clients.specs.declared.turn.Turn.{Turn}
use Rattle.clients.specs.declared.turn.Turn.TheVariants.{Moves, Stamps}
use Rattle.clients.specs.Lines.{no_pair, is_open, is_reading, is_writing, opened, configured_as, ended, counting, hearing, stamped}
use Rattle.clients.specs.Turns.{closing, is_quorum, pair_heard, ack_heard, on_pair, on_pair_from, on_ack, on_ack_from, on_config, on_behind, reopening, decided_by_kind, decided, read_of, write_of, unsealed}
use Rattle.model.proofs.ReplicaMoves.{kind_known}
use Rattle.model.proofs.Ways.{way, not_ok, ok_same}
use Rattle.model.proofs.StageTests.{reading_is}

-- PAIR for the open round of reading, from a member that is not counted yet
pub record Hears (line : Line) (e : Entry) (genuine : Bool) (from : Replica) : Type 0 where
  pub kind : e.kind ≡ 4
  pub stage : line.stage ≡ Reading
  pub round : e.round ≡ line.round
  pub inside : sender_within line.configuration.set.0 e.sender ≡ Some from
  pub uncounted : member line.counted.0 from.number ≡ false
  pub checks : genuine ≡ true

-- ACK for the open round of writing or writing back, from a member that is not counted yet
pub record Acked (line : Line) (e : Entry) (from : Replica) : Type 0 where
  pub kind : e.kind ≡ 5
  pub stage : is_writing line.stage ≡ true
  pub round : e.round ≡ line.round
  pub inside : sender_within line.configuration.set.0 e.sender ≡ Some from
  pub uncounted : member line.counted.0 from.number ≡ false

-- CONFIG of a newer epoch
pub record Configures (line : Line) (e : Entry) (genuine : Bool) : Type 0 where
  pub kind : e.kind ≡ 7
  pub newer : line.configuration.epoch < e.epoch
  pub checks : genuine ≡ true

-- the line with one more pair heard
abbrev pub heard : Line → Entry → Replica → Line
heard line e from = hearing line from (pair_of e)

-- the line that a write-back leaves, and the one that a stamp leaves before its seal
abbrev pub backward : Line → Line
backward line = opened line WritingBack (line.round + 1) line.highest

abbrev pub next_count : Line → ℕ
next_count line = max line.highest.stamp.count line.last_count + 1

abbrev pub forward : Client → Line → Word → Line
forward client line word = stamped line (line.round + 1) (unsealed client (next_count line) word)

-- the line in the configuration of the entry
abbrev pub moved_on : Line → Entry → Line
moved_on line e = configured_as line (configuration_of e)

abbrev pub reread : Line → Line
reread line = opened line Reading (line.round + 1) no_pair

abbrev pub rewritten : Line → Line
rewritten line = opened line Writing (line.round + 1) line.highest

pub data ClientMove (rules : Rules) (client : Client) (line : Line) (e : Entry) (genuine : Bool) (turn : Turn) : Type 0 where
  counts_pair : (from : Replica) → Hears line e genuine from → is_quorum rules (heard line e from) ≡ false
      → turn ≡ Moves (heard line e from) None → ClientMove rules client line e genuine turn
  ends_read : (from : Replica) → Hears line e genuine from → is_quorum rules (heard line e from) ≡ true → line.word ≡ None → (heard line e from).agree ≡ true
      → turn ≡ Moves (ended (heard line e from)) None → ClientMove rules client line e genuine turn
  writes_back : (from : Replica) → Hears line e genuine from → is_quorum rules (heard line e from) ≡ true → line.word ≡ None
      → turn ≡ Moves (backward (heard line e from)) (Some (write_of client (backward (heard line e from)))) → ClientMove rules client line e genuine turn
  takes_stamp : (from : Replica) (word : Word) → Hears line e genuine from → is_quorum rules (heard line e from) ≡ true → line.word ≡ Some word
      → turn ≡ Stamps (forward client (heard line e from) word) → ClientMove rules client line e genuine turn
  counts_ack : (from : Replica) → Acked line e from → is_quorum rules (counting line from) ≡ false
      → turn ≡ Moves (counting line from) None → ClientMove rules client line e genuine turn
  ends_write : (from : Replica) → Acked line e from → is_quorum rules (counting line from) ≡ true
      → turn ≡ Moves (ended (counting line from)) None → ClientMove rules client line e genuine turn
  goes_on : Configures line e genuine → is_open line.stage ≡ false
      → turn ≡ Moves (moved_on line e) None → ClientMove rules client line e genuine turn
  reads_again : Configures line e genuine → (line.stage ≡ Reading) ⊎ (line.stage ≡ WritingBack)
      → turn ≡ Moves (reread (moved_on line e)) (Some (read_of client (reread (moved_on line e)))) → ClientMove rules client line e genuine turn
  writes_again : Configures line e genuine → line.stage ≡ Writing
      → turn ≡ Moves (rewritten (moved_on line e)) (Some (write_of client (rewritten (moved_on line e)))) → ClientMove rules client line e genuine turn
  replies : e.kind ≡ 8 → turn ≡ Moves line (Some (config_entry client.number line.configuration)) → ClientMove rules client line e genuine turn

module _ (rules : Rules) (client : Client) (line : Line) (e : Entry) (genuine : Bool) (turn : Turn) where
  closing_view : (from : Replica) → Hears line e genuine from → is_quorum rules (heard line e from) ≡ true
      → (o : Option Word) → line.word ≡ o → closing o client (heard line e from) ≡ Ok turn → ClientMove rules client line e genuine turn
  closing_view from h large None is p =
      way (heard line e from).agree p
      (λ agree q. ends_read from h large is agree (sym (ok_same q)))
      (λ differ q. way (ltb line.round 4294967295) q
      (λ room q1. writes_back from h large is (sym (ok_same q1)))
      (λ full q1. not_ok q1))
  closing_view from h large (Some word) is p =
      way (ltb (max (heard line e from).highest.stamp.count line.last_count) 4294967295) p
      (λ room q. way (ltb line.round 4294967295) q
      (λ room q1. takes_stamp from word h large is (sym (ok_same q1)))
      (λ full q1. not_ok q1))
      (λ full q. not_ok q)

  pair_view : e.kind ≡ 4 → on_pair rules client line e genuine ≡ Ok turn → ClientMove rules client line e genuine turn
  pair_view k p =
      way (not (is_reading line.stage && eqb e.round line.round)) p
      (λ other q. not_ok q)
      (λ awaited q. from_view (and_parts (is_reading line.stage) (eqb e.round line.round) (not-false _ awaited)).0
      (and_parts (is_reading line.stage) (eqb e.round line.round) (not-false _ awaited)).1
      (sender_within line.configuration.set.0 e.sender) refl q)
    where
      from_view : is_reading line.stage ≡ true → eqb e.round line.round ≡ true
          → (o : Option Replica) → sender_within line.configuration.set.0 e.sender ≡ o → on_pair_from o rules client line e genuine ≡ Ok turn
          → ClientMove rules client line e genuine turn
      from_view reading round None is q = not_ok q
      from_view reading round (Some from) is q =
          way (member line.counted.0 from.number) q
          (λ again q1. not_ok q1)
          (λ new q1. way (not genuine) q1
          (λ bad q2. not_ok q2)
          (λ good q2. quorum_view (record { kind = k; stage = reading_is line.stage reading; round = eqb-true e.round line.round round; inside = is; uncounted = new; checks = not-false _ good }) q2))
        where
          quorum_view : Hears line e genuine from → pair_heard rules client (heard line e from) ≡ Ok turn → ClientMove rules client line e genuine turn
          quorum_view h q =
              way (is_quorum rules (heard line e from)) q
              (λ large q1. closing_view from h large line.word refl q1)
              (λ few q1. counts_pair from h few (sym (ok_same q1)))

  ack_view : e.kind ≡ 5 → on_ack rules line e ≡ Ok turn → ClientMove rules client line e genuine turn
  ack_view k p =
      way (not (is_writing line.stage && eqb e.round line.round)) p
      (λ other q. not_ok q)
      (λ awaited q. from_view (and_parts (is_writing line.stage) (eqb e.round line.round) (not-false _ awaited)).0
      (and_parts (is_writing line.stage) (eqb e.round line.round) (not-false _ awaited)).1
      (sender_within line.configuration.set.0 e.sender) refl q)
    where
      from_view : is_writing line.stage ≡ true → eqb e.round line.round ≡ true
          → (o : Option Replica) → sender_within line.configuration.set.0 e.sender ≡ o → on_ack_from o rules line ≡ Ok turn
          → ClientMove rules client line e genuine turn
      from_view writing round None is q = not_ok q
      from_view writing round (Some from) is q =
          way (member line.counted.0 from.number) q
          (λ again q1. not_ok q1)
          (λ new q1. quorum_view (record { kind = k; stage = writing; round = eqb-true e.round line.round round; inside = is; uncounted = new }) q1)
        where
          quorum_view : Acked line e from → ack_heard rules (counting line from) ≡ Ok turn → ClientMove rules client line e genuine turn
          quorum_view h q =
              way (is_quorum rules (counting line from)) q
              (λ large q1. ends_write from h large (sym (ok_same q1)))
              (λ few q1. counts_ack from h few (sym (ok_same q1)))

  config_view : e.kind ≡ 7 → on_config client line e genuine ≡ Ok turn → ClientMove rules client line e genuine turn
  config_view k p =
      way (leb e.epoch line.configuration.epoch) p
      (λ old q. not_ok q)
      (λ newer q. way (not genuine) q
      (λ bad q1. not_ok q1)
      (λ good q1. stage_view (record { kind = k; newer = leb-false e.epoch line.configuration.epoch newer; checks = not-false _ good }) line.stage refl q1))
    where
      stage_view : Configures line e genuine → (s : Stage) → line.stage ≡ s → reopening s client (moved_on line e) ≡ Ok turn → ClientMove rules client line e genuine turn
      stage_view h Idle is q = goes_on h (ap is_open is) (sym (ok_same q))
      stage_view h Reading is q =
          way (ltb line.round 4294967295) q
          (λ room q1. reads_again h (inl is) (sym (ok_same q1)))
          (λ full q1. not_ok q1)
      stage_view h Writing is q =
          way (ltb line.round 4294967295) q
          (λ room q1. writes_again h is (sym (ok_same q1)))
          (λ full q1. not_ok q1)
      stage_view h WritingBack is q =
          way (ltb line.round 4294967295) q
          (λ room q1. reads_again h (inr is) (sym (ok_same q1)))
          (λ full q1. not_ok q1)
      stage_view h Over is q = goes_on h (ap is_open is) (sym (ok_same q))

  behind_view : e.kind ≡ 8 → on_behind client line e ≡ Ok turn → ClientMove rules client line e genuine turn
  behind_view k p =
      way (not (is_open line.stage && eqb e.round line.round)) p
      (λ other q. not_ok q)
      (λ awaited q. replies k (sym (ok_same q)))

  kind_view : (o : Option EntryKind) → kind_of e.kind ≡ o → decided_by_kind o rules client line e genuine ≡ Ok turn → ClientMove rules client line e genuine turn
  kind_view None is p = not_ok p
  kind_view (Some Read) is p = not_ok p
  kind_view (Some Write) is p = not_ok p
  kind_view (Some Transfer) is p = not_ok p
  kind_view (Some APair) is p = pair_view (kind_known _ _ is) p
  kind_view (Some Ack) is p = ack_view (kind_known _ _ is) p
  kind_view (Some Stock) is p = not_ok p
  kind_view (Some Config) is p = config_view (kind_known _ _ is) p
  kind_view (Some Behind) is p = behind_view (kind_known _ _ is) p

  -- whatever is decided is one of the moves
  pub client_view : decided rules client line e genuine ≡ Ok turn → ClientMove rules client line e genuine turn
  client_view p = kind_view (kind_of e.kind) refl p
