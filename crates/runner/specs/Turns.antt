-- What a part of a script leaves: the lines up to its set-up, and those behind it.
use Rattle.std.specs.Prelude.{◌≡◌, ℕ, ◌+◌, List, ◌∷◌, ◌++◌, length, Some, None, Err, Option}
use Rattle.refusals.specs.declared.Refusal.{Refusal}
use Rattle.script.specs.declared.command.SetUp.{SetUp}
use Rattle.model.specs.Halls.{World}
use Rattle.runner.specs.declared.running.Opening.{Opening}
use Rattle.runner.specs.declared.running.Opening.TheVariants.{Open, Refused}
use Rattle.runner.specs.Texts.{Numbered, set_up_of}
use Rattle.runner.specs.Openings.{opening}
use Rattle.runner.specs.Outputs.{Begun, NoSetUp, unread}
use Rattle.runner.specs.Views.{world}
use Rattle.runner.specs.Plays.{Plays}

-- the first set-up among these lines was found in the line of this number, and next is left; the lines before it were refused
pub record Found (l : Numbered) (old : List Refusal) (number : ℕ) (asked : SetUp) (next : Numbered) (new : List Refusal) : Type 0 where
  pub before : List (List ℕ)
  pub line : List ℕ
  pub parts : l.lines ≡ before ++ (line ∷ next.lines)
  pub none : NoSetUp before
  pub asks : set_up_of line ≡ Some asked
  pub place : number ≡ l.number + length before
  pub follows : next.number ≡ number + 1
  pub refused : new ≡ old ++ unread l.number before

abbrev pub Searched : Numbered → List Refusal → Option (ℕ × SetUp) → Numbered → List Refusal → Type 0
Searched l old None next new = NoSetUp l.lines × (new ≡ old ++ unread l.number l.lines)
Searched l old (Some found) next new = Found l old found.0 found.1 next new

-- a hall is open for this set-up, or it is refused
abbrev pub Begins : SetUp → Opening → Type 0
Begins asked (Open running) = Begun asked (world running)
Begins asked (Refused fault) = opening asked ≡ Err fault

-- these lines were played, and what was refused was added
pub record Played (l : Numbered) (before : World) (old : List Refusal) (after : World) (new : List Refusal) : Type 0 where
  pub refusals : List Refusal
  pub plays : Plays l.number before l.lines refusals after
  pub refused : new ≡ old ++ refusals
