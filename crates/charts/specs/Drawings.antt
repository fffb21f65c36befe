-- The chart of a script: of the run of its lines, seen after each, or of refusals alone.
use Rattle.std.specs.Prelude.{◌≡◌, ℕ, ◌+◌, List, ◌++◌, length, Err}
use Rattle.refusals.specs.declared.Refusal.{Refusal}
use Rattle.fields.specs.Parts.{fields}
use Rattle.script.specs.declared.command.SetUp.{SetUp}
use Rattle.script.specs.Commands.{command_in}
use Rattle.model.specs.Halls.{World}
use Rattle.runner.specs.declared.fault.ScriptFault.{ScriptFault}
use Rattle.runner.specs.Texts.{Numbered}
use Rattle.runner.specs.Openings.{opening}
use Rattle.runner.specs.Plays.{Plays, ended, line}
use Rattle.runner.specs.Outputs.{NoSetUp, FirstSetUp, Ran, unread, all_refused, number_of, behind_of}
use Rattle.runner.specs.Turns.{Played}
use Rattle.charts.specs.Charts.{chart_text}
use Rattle.charts.specs.Watches.{Seen, row_of, opened, finished, with_rows, unopened_text}
use Rattle.charts.specs.Looks.{noticed}

-- what is known once these lines were played: after each of them the hall is looked at
unfoldable pub watched : {number : ℕ} {before after : World} {lines : List (List ℕ)} {refusals : List Refusal} → Plays number before lines refusals after → Seen → Seen
watched ended s = s
watched (line {number = number} {between = between} {text = text} {fault = fault} does rest) s =
    watched rest (noticed s between.hall (command_in (fields text)) fault (row_of number))

-- these lines were played, and this was seen of them
pub record Seeing (l : Numbered) (before : World) (old : List Refusal) (s : Seen) (after : World) (new : List Refusal) (s' : Seen) : Type 0 where
  pub played : Played l before old after new
  pub saw : s' ≡ watched played.plays s

-- the chart at the end, with so many rows
abbrev pub drawn_text : Seen → ℕ → List Refusal → List ℕ
drawn_text s rows refusals = chart_text (with_rows s.layout rows) (finished s rows refusals)

-- what is drawn for a set-up in the line of this number, with these lines behind it and these refusals before it
pub data Draws (asked : SetUp) (number : ℕ) (l : Numbered) (before : List Refusal) (text : List ℕ) : Type 0 where
  of_refusals : (fault : ScriptFault) → opening asked ≡ Err fault → text ≡ unopened_text (all_refused number l before fault) → Draws asked number l before text
  of_run : (r : Ran asked l) → text ≡ drawn_text (watched r.plays (opened asked (row_of number))) (row_of (number + length l.lines)) (before ++ r.refusals)
      → Draws asked number l before text

-- what is drawn for these lines
pub data Charts (lines : List (List ℕ)) (text : List ℕ) : Type 0 where
  without_set_up : NoSetUp lines → text ≡ unopened_text (unread 1 lines) → Charts lines text
  with_set_up : (f : FirstSetUp lines) → Draws f.asked (number_of f) (behind_of f) (unread 1 f.before) text → Charts lines text
