-- What is printed for a script.
use Rattle.std.specs.Prelude.{◌≡◌, ℕ, ◌+◌, false, List, [], ◌∷◌, ◌++◌, length, Some, None, Ok, Err, slice_index_or}
use Rattle.std.specs.List.{AllByRecursion}
use Rattle.kinds.specs.declared.bin_weight.BinWeight.{BinWeight}
use Rattle.kinds.specs.BinWeights.{weight}
use Rattle.refusals.specs.declared.Refusal.{Refusal}
use Rattle.wire.specs.declared.pair.Seal.{Seal}
use Rattle.wire.specs.declared.text.Text.{Text}
use Rattle.script.specs.declared.command.SetUp.{SetUp}
use Rattle.script.specs.Reports.{printed}
use Rattle.model.specs.Halls.{World}
use Rattle.model.specs.Calls.{Call, redeem}
use Rattle.model.specs.Runs.{Run, OnlyGiven}
use Rattle.model.specs.Promise.{Promised, Keeps}
use Rattle.runner.specs.declared.fault.ScriptFault.{ScriptFault}
use Rattle.runner.specs.declared.fault.ScriptFault.TheVariants.{Unreadable}
use Rattle.model.specs.Kinds.{bin_weights}
use Rattle.runner.specs.Texts.{Numbered, set_up_of}
use Rattle.runner.specs.Openings.{opening}
use Rattle.runner.specs.Plays.{Plays, told, calls_of}

-- lines that are not to be read where they stand; the first has this number
abbrev pub unread : ℕ → List (List ℕ) → List Refusal
unread number [] = []
unread number (line ∷ rest) = told number (Some Unreadable) ++ unread (number + 1) rest

-- none of these lines asks for a set-up
abbrev pub NoSetUp : List (List ℕ) → Type 0
NoSetUp lines = AllByRecursion (λ line. set_up_of line ≡ None) lines

-- the first set-up among these lines, and what stands before it and behind it
pub record FirstSetUp (lines : List (List ℕ)) : Type 0 where
  pub before : List (List ℕ)
  pub line : List ℕ
  pub behind : List (List ℕ)
  pub parts : lines ≡ before ++ (line ∷ behind)
  pub none : NoSetUp before
  pub asked : SetUp
  pub asks : set_up_of line ≡ Some asked

-- a run of these calls from this world to that one, in which no seal is genuine but those that are given
pub record RunOf (start last : World) (calls : List (Call BinWeight)) : Type 0 where
  pub run : Run bin_weights start
  pub many : run.calls ≡ length calls
  pub each : (i : ℕ) → run.call i ≡ slice_index_or calls i (redeem 0)
  pub ends : run.world run.calls ≡ last
  pub only : OnlyGiven run

-- the promise holds of a hall that was opened with the value that the set-up names
pub record PromisedFor (asked : SetUp) (start : World) : Type 0 where
  pub value : BinWeight
  pub valued : weight asked.grams asked.lot ≡ Some value
  pub promised : Promised bin_weights value start

-- the hall was opened, the promise holds of it, and no seal is genuine yet
pub record Begun (asked : SetUp) (start : World) : Type 0 where
  pub opens : opening asked ≡ Ok start.hall
  pub promised : PromisedFor asked start
  pub none : (t : Text) (s : Seal) → start.genuine t s ≡ false

-- the hall was opened, these lines were played, their calls are a run, and it keeps the promise
pub record Ran (asked : SetUp) (l : Numbered) : Type 0 where
  pub start : World
  pub begun : Begun asked start
  pub last : World
  pub refusals : List Refusal
  pub plays : Plays l.number start l.lines refusals last
  pub run : RunOf start last (calls_of plays)
  pub kept : Keeps begun.promised.value run.run

-- nothing but refusals: those before, that of the set-up in the line of this number, and every line behind it
abbrev pub all_refused : ℕ → Numbered → List Refusal → ScriptFault → List Refusal
all_refused number l before fault = before ++ (told number (Some fault) ++ unread l.number l.lines)

-- what comes of a set-up in the line of this number, with these lines behind it and these refusals before it:
-- refusals alone, or the last roll and log of the run, and what was refused before it and in it
pub data Goes (asked : SetUp) (number : ℕ) (l : Numbered) (before : List Refusal) (text : List ℕ) : Type 0 where
  unopened : (fault : ScriptFault) → opening asked ≡ Err fault → text ≡ printed [] [] (all_refused number l before fault) → Goes asked number l before text
  played : (r : Ran asked l) → text ≡ printed r.last.hall.roll.list r.last.hall.log.list (before ++ r.refusals) → Goes asked number l before text

-- the number of the set-up's line, and the lines behind it
abbrev pub number_of : {lines : List (List ℕ)} → FirstSetUp lines → ℕ
number_of f = 1 + length f.before

abbrev pub behind_of : {lines : List (List ℕ)} → FirstSetUp lines → Numbered
behind_of f = record { number = number_of f + 1; lines = f.behind }

-- what is printed for these lines
pub data Shows (lines : List (List ℕ)) (text : List ℕ) : Type 0 where
  without_set_up : NoSetUp lines → text ≡ printed [] [] (unread 1 lines) → Shows lines text
  with_set_up : (f : FirstSetUp lines) → Goes f.asked (number_of f) (behind_of f) (unread 1 f.before) text → Shows lines text
