-- The seat of the client that has made a step, and the world that the step leaves.
-- What is said of the old seat is carried over.
use Rattle.std.proofs.Common.{◌≡◌, ℕ, ◌≤◌, Bool, true, false, List, length, get_or, Some, sym, refl, ap, ◌∙◌, subst, ⊎_elim, arith}
use Rattle.kinds.specs.declared.word.Word.{Word}
use Rattle.wire.specs.declared.entry.Entry.{Entry}
use Rattle.wire.specs.declared.pair.Seal.{Seal}
use Rattle.wire.specs.declared.text.Text.{Text}
use Rattle.clients.specs.declared.line.Line.{Line}
use Rattle.clients.specs.Lines.{is_idle, is_open}
use Rattle.histories.specs.Places.{Posted, Everywhere}
use Rattle.histories.specs.Shapes.{ReadEntry, WriteEntry}
use Rattle.histories.proofs.Places.{posted_split}
use Rattle.halls.specs.declared.operation.Operation.{Operation}
use Rattle.halls.specs.declared.seat.Seat.{Seat}
use Rattle.model.specs.Tables.{Table}
use Rattle.model.specs.Halls.{World, no_operation, operation_of}
use Rattle.model.proofs.Frames.{later_configuration, later_text, seat_stays, QuietClient}
use Rattle.model.proofs.Invariants.{history, KnownConfiguration, StampedWrite, OpenRule, OwnRule, SeatBase, SeatRule, Holds}
use Rattle.model.proofs.Moved.{moved, Posting, Logging, logging_none, later_moved, moved_keeps, stepped, later_stepped}
use Rattle.model.proofs.Posts.{log_later}

-- the seat with another line
abbrev pub with_line : Seat → Line → Seat
with_line seat line = record seat { line = line }

-- after a step of its client
module _ {kind : ℕ} {w : World} {c : ℕ} {old : Seat} (line : Line) {ops : List Operation} {moment : ℕ} {table : Table Entry} (seals : ℕ → ℕ) (genuine : Text → Seal → Bool)
    (p : Posting w c line.round table) (g : Logging w c ops moment) (grows : (t : Text) (s : Seal) → w.genuine t s ≡ true → genuine t s ≡ true) (r : SeatRule kind w c old) where
  pub base_moved : KnownConfiguration w.hall line.configuration → old.line.round ≤ line.round → line.round ≤ length table.list → line.last_count ≤ length table.list
      → ((j : ℕ) → StampedWrite (moved w c (with_line old line) ops moment table seals genuine).hall j → (operation_of w.hall j).client ≡ c → (get_or ops j no_operation).pair.stamp.count ≤ line.last_count)
      → (is_idle line.stage ≡ false → OwnRule (moved w c (with_line old line) ops moment table seals genuine) c line.word old.operation)
      → (is_open line.stage ≡ true → OpenRule (moved w c (with_line old line) ops moment table seals genuine) line.counted.0 line.configuration.set.0 old.operation)
      → SeatBase (moved w c (with_line old line) ops moment table seals genuine) c line old.operation
  unfolding history
  base_moved known up round_low count_low counts own opens = record {
    configuration = later_configuration (later_moved (with_line old line) seals genuine p g grows) line.configuration known;
    past = record {
      reads = λ {k} {e} q. ⊎_elim (λ new. p.reads new) (λ past. under (r.reads past)) (posted_split p.posted (subst (Posted (ReadEntry c k e)) p.past q));
      writes = λ {k} {e} {s} q. ⊎_elim (λ new. p.writes new) (λ past. under (r.writes past)) (posted_split p.posted (subst (Posted (WriteEntry c k e s)) p.past q));
      round_low = round_low;
      count_low = count_low;
      counts = λ j s e. counts j s (sym (g.client j) ∙ e);
      newest = λ j lt e. r.newest j (omega (arith, g.same_length)) (sym (g.client j) ∙ e);
    };
    own = own;
    opens = opens;
  }
    where
      under : {k : ℕ} → k ≤ old.line.round → k ≤ line.round
      under le = omega arith

  -- the stamps are the old ones
  pub counts_kept : old.line.last_count ≤ line.last_count → ((j : ℕ) → StampedWrite (moved w c (with_line old line) ops moment table seals genuine).hall j → StampedWrite w.hall j)
      → (j : ℕ) → StampedWrite (moved w c (with_line old line) ops moment table seals genuine).hall j → (operation_of w.hall j).client ≡ c → (get_or ops j no_operation).pair.stamp.count ≤ line.last_count
  counts_kept up stamps j s e = omega (arith, r.counts j (stamps j s) e, ap (λ q. q.stamp.count) (g.stamp j (stamps j s)))

  pub own_moved : OwnRule w c old.line.word old.operation → line.word ≡ old.line.word
      → ((word : Word) → line.word ≡ Some word → (get_or ops old.operation no_operation).pair.word ≡ word)
      → OwnRule (moved w c (with_line old line) ops moment table seals genuine) c line.word old.operation
  own_moved o same word = record {
    logged = omega (arith, o.logged, g.same_length);
    client = g.client old.operation ∙ o.client;
    reads = λ e. g.writes old.operation ∙ o.reads (sym same ∙ e);
    writes = λ x e. g.writes old.operation ∙ o.writes x (sym same ∙ e);
    word = word;
  }

-- a step that leaves the log as it is
module _ {kind : ℕ} {sealed : List Text} {w : World} (holds : Holds kind sealed w) {c : ℕ} (low : 1 ≤ c) (high : c ≤ w.hall.rules.clients) (seat : Seat) {round : ℕ} {table : Table Entry} (p : Posting w c round table) where
  pub step_keeps : SeatRule kind (stepped w c seat table) c seat
      → Holds kind sealed (stepped w c seat table)
  step_keeps own =
      let l = later_stepped seat p in
      moved_keeps holds low high seat w.hall.seals w.genuine p (logging_none w c) (λ t s e. e) sealed (λ d ne. omega arith) own
      (log_later w (stepped w c seat table) l refl refl holds.log)
      (λ t m. later_text kind l t (holds.texts t m))

  -- a step that asks for nothing: the seat's rule is shown in the old world
  pub stay_keeps : Everywhere (λ x below. QuietClient c x) p.posted → SeatRule kind w c seat
      → Holds kind sealed (stepped w c seat table)
  unfolding later_moved
  stay_keeps quiet r = step_keeps
      (seat_stays kind c seat (later_stepped seat p) refl quiet holds.log (omega arith) r)
