-- The line of a client, and how its parts change.
use Rattle.std.specs.Prelude.{ℕ, Bool, true, false, cond, ◌&&◌, None, Option, ◌==◌}
use Rattle.kinds.specs.declared.word.Word.{Word}
use Rattle.wire.specs.declared.pair.Configuration.{Configuration}
use Rattle.wire.specs.declared.pair.Pair.{Pair}
use Rattle.wire.specs.declared.pair.Seal.{Seal}
use Rattle.wire.specs.declared.pair.Stamp.{Stamp}
use Rattle.wire.specs.Sets.{inserted}
use Rattle.wire.specs.Stamps.{above}
use Rattle.wire.specs.Parties.{Replica}
use Rattle.clients.specs.declared.line.Line.{Line}
use Rattle.clients.specs.declared.line.Stage.{Stage}
use Rattle.clients.specs.declared.line.Stage.TheVariants.{Idle, Reading, Writing, WritingBack, Over}

-- no pair yet: all numbers 0
abbrev pub no_pair : Pair
no_pair = record { stamp = record { count = 0; writer = 0 }; word = record { 0 = 0 }; seal = record { 0 = 0 } }

-- an idle client in this configuration: round 0, last count 0
abbrev pub idle_line : Configuration → Line
idle_line c = record {
  stage = Idle;
  word = None;
  configuration = c;
  round = 0;
  counted = record { 0 = 0 };
  highest = no_pair;
  agree = true;
  last_count = 0;
}

-- a round is open while reading, writing and writing back
abbrev pub is_open : Stage → Bool
is_open Idle = false
is_open Reading = true
is_open Writing = true
is_open WritingBack = true
is_open Over = false

abbrev pub is_idle : Stage → Bool
is_idle Idle = true
is_idle Reading = false
is_idle Writing = false
is_idle WritingBack = false
is_idle Over = false

abbrev pub is_reading : Stage → Bool
is_reading Idle = false
is_reading Reading = true
is_reading Writing = false
is_reading WritingBack = false
is_reading Over = false

-- ACKs are counted while writing and writing back
abbrev pub is_writing : Stage → Bool
is_writing Idle = false
is_writing Reading = false
is_writing Writing = true
is_writing WritingBack = true
is_writing Over = false

-- a new round with nothing counted: its stage, its number, and the pair in flight, or none
abbrev pub opened : Line → Stage → ℕ → Pair → Line
opened line stage round pair = record {
  stage = stage;
  word = line.word;
  configuration = line.configuration;
  round = round;
  counted = record { 0 = 0 };
  highest = pair;
  agree = true;
  last_count = line.last_count;
}

-- what the operation is to write, none for a read
abbrev pub asking : Line → Option Word → Line
asking line word = record line { word = word }

abbrev pub configured_as : Line → Configuration → Line
configured_as line c = record line { configuration = c }

-- the operation has ended, with the highest pair as its own
abbrev pub ended : Line → Line
ended line = record line { stage = Over }

-- one more replica counted
abbrev pub counting : Line → Replica → Line
counting line from = record line { counted = record { 0 = inserted line.counted.0 from.number } }

abbrev pub same_stamp : Stamp → Stamp → Bool
same_stamp s t = s.count == t.count && s.writer == t.writer

-- one more replica counted with its pair: the highest stamp is kept, of equal stamps the first heard,
-- and whether all stamps so far agree
abbrev pub hearing : Line → Replica → Pair → Line
hearing line from pair = record line {
  counted = record { 0 = inserted line.counted.0 from.number };
  highest = cond (line.counted.0 == 0) pair (cond (above pair.stamp line.highest.stamp) pair line.highest);
  agree = cond (line.counted.0 == 0) true (line.agree && same_stamp pair.stamp line.highest.stamp);
}

-- the write's stamp is taken: its pair in flight, in the next round, and its count the client's last
abbrev pub stamped : Line → ℕ → Pair → Line
stamped line round pair = record (opened line Writing round pair) { last_count = pair.stamp.count }

-- the pair in flight with its seal
abbrev pub sealed_with : Line → Seal → Line
sealed_with line seal = record line { highest = record line.highest { seal = seal } }
