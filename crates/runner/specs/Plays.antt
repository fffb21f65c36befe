-- A script over a hall: the calls of its lines, one after the other, each of them a step of the hall.
use Rattle.std.specs.Prelude.{◌≡◌, ℕ, ◌+◌, List, [], ◌∷◌, ◌++◌, Some, None, Option}
use Rattle.kinds.specs.declared.bin_weight.BinWeight.{BinWeight}
use Rattle.refusals.specs.declared.Refusal.{Refusal}
use Rattle.refusals.specs.Places.{moved}
use Rattle.fields.specs.Parts.{fields}
use Rattle.sealers.specs.Sealing.{none_beside}
use Rattle.script.specs.Commands.{command_in}
use Rattle.model.specs.Halls.{World}
use Rattle.model.specs.Answers.{Answer}
use Rattle.model.specs.Calls.{Call, Step}
use Rattle.runner.specs.declared.fault.ScriptFault.{ScriptFault}
use Rattle.runner.specs.Faults.{script_refusal}
use Rattle.model.specs.Kinds.{bin_weights}
use Rattle.runner.specs.Asks.{Asks, over, calls, asks}

-- a call over a book: a step, and no seal becomes genuine but the one that is given
pub record BookStep (before : World) (call : Call BinWeight) (answer : Answer BinWeight) (after : World) : Type 0 where
  pub step : Step bin_weights before call answer after
  pub only : before.left_open.beside ≡ none_beside

-- what is asked takes a world to another, and is refused with this fault or not
pub data Does : World → Asks → Option ScriptFault → World → Type 0 where
  stops : {w : World} {fault : Option ScriptFault} → Does w (over fault) fault w
  goes_on : {before between after : World} {call : Call BinWeight} {next : Answer BinWeight → Asks} {answer : Answer BinWeight} {fault : Option ScriptFault}
      → BookStep before call answer between → Does between (next answer) fault after → Does before (calls call next) fault after

-- the calls that were made
unfoldable pub calls_in : {before after : World} {asked : Asks} {fault : Option ScriptFault} → Does before asked fault after → List (Call BinWeight)
calls_in stops = []
calls_in (goes_on {call = call} step rest) = call ∷ calls_in rest

-- the line of this number is refused with this fault, or it is not
abbrev pub told : ℕ → Option ScriptFault → List Refusal
told number None = []
told number (Some fault) = moved (script_refusal fault) number ∷ []

-- these lines, the first of which has this number, take a world to another, with these refusals
pub data Plays : ℕ → World → List (List ℕ) → List Refusal → World → Type 0 where
  ended : {number : ℕ} {w : World} → Plays number w [] [] w
  line : {number : ℕ} {before between after : World} {text : List ℕ} {rest : List (List ℕ)} {fault : Option ScriptFault} {refusals : List Refusal}
      → Does before (asks before.hall (command_in (fields text))) fault between → Plays (number + 1) between rest refusals after
      → Plays number before (text ∷ rest) (told number fault ++ refusals) after

-- the calls of all lines
unfoldable pub calls_of : {number : ℕ} {before after : World} {lines : List (List ℕ)} {refusals : List Refusal} → Plays number before lines refusals after → List (Call BinWeight)
calls_of ended = []
calls_of (line does rest) = calls_in does ++ calls_of rest
