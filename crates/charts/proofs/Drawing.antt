-- What is seen of a script's lines, turn by turn, and what is drawn of it. Assumes nothing.
use Rattle.std.proofs.Common.{◌≡◌, ℕ, ◌+◌, List, [], ◌∷◌, ◌++◌, length, None, Option, Err, Result, IfOk, refl, ap, ◌∙◌, subst}
use Rattle.std.proofs.lemmas.Result.{IfOk-weaker}
use Rattle.refusals.specs.declared.Refusal.{Refusal}
use Rattle.fields.specs.Parts.{fields}
use Rattle.script.specs.declared.command.SetUp.{SetUp}
use Rattle.script.specs.Commands.{command_in}
use Rattle.model.specs.Halls.{World}
use Rattle.runner.specs.declared.fault.ScriptFault.{ScriptFault}
use Rattle.runner.specs.Asks.{asks}
use Rattle.runner.specs.Openings.{opening}
use Rattle.runner.specs.Plays.{Does, told}
use Rattle.runner.specs.Outputs.{Begun, all_refused}
use Rattle.runner.specs.Texts.{Numbered}
use Rattle.runner.specs.Turns.{Found, Searched}
use Rattle.runner.proofs.Playing.{ran, first, from_first}
use Rattle.runner.proofs.Turns.{played_line, played_none, taken_on, at_end}
use Rattle.charts.specs.Drawings.{watched, Seeing, drawn_text, Draws, of_refusals, of_run, Charts, without_set_up, with_set_up}
use Rattle.charts.specs.Looks.{noticed}
use Rattle.charts.specs.Watches.{Seen, row_of, opened, unopened_text}

seeing_line : {number : ℕ} {text : List ℕ} {rest : List (List ℕ)} {before between after : World} {fault : Option ScriptFault} {old new : List Refusal} {s next last : Seen}
    → Does before (asks before.hall (command_in (fields text))) fault between → next ≡ noticed s between.hall (command_in (fields text)) fault (row_of number)
    → Seeing (record { number = number + 1; lines = rest }) between (old ++ told number fault) next after new last
    → Seeing (record { number = number; lines = text ∷ rest }) before old s after new last
unfolding watched
seeing_line does sees p = record { played = played_line does p.played; saw = p.saw ∙ ap (watched p.played.plays) sees }

seeing_none : {number : ℕ} {w : World} {old : List Refusal} {s : Seen} → Seeing (record { number = number; lines = [] }) w old s w old s
unfolding watched
seeing_none = record { played = played_none; saw = refl }

-- the lines from one on, where those of `rest` are left
pub seeing_on : (now rest : Numbered) (text : List ℕ) → now.lines ≡ text ∷ rest.lines → rest.number ≡ now.number + 1
    → (before between after : World) (fault : Option ScriptFault) (old added new : List Refusal) (s next last : Seen)
    → Does before (asks before.hall (command_in (fields text))) fault between → next ≡ noticed s between.hall (command_in (fields text)) fault (row_of now.number)
    → added ≡ old ++ told now.number fault → Seeing rest between added next after new last → Seeing now before old s after new last
seeing_on now rest text lines number before between after fault old added new s next last does sees e p =
    taken_on now rest text lines number
    (λ l. Seeing l between (old ++ told now.number fault) next after new last) (λ l. Seeing l before old s after new last)
    (subst (λ rs. Seeing rest between rs next after new last) e p) (seeing_line does sees)

-- no line is left
pub seeing_all : (now : Numbered) → now.lines ≡ [] → (w : World) (old : List Refusal) (s : Seen) → Seeing now w old s w old s
seeing_all now none w old s = at_end now none (λ l. Seeing l w old s w old s) seeing_none

module _ {S E : Type 0} (bytes : S → List ℕ) (r : Result S E) (asked : SetUp) (number : ℕ) (l : Numbered) (before : List Refusal) where
  pub draws_refusals : (fault : ScriptFault) → opening asked ≡ Err fault
      → IfOk r (λ x. bytes x ≡ unopened_text (all_refused number l before fault)) → IfOk r (λ x. Draws asked number l before (bytes x))
  draws_refusals fault is = IfOk-weaker r _ _ (λ x shown. of_refusals fault is shown)

  pub draws_run : (start after : World) (first s : Seen) (last : ℕ) (all : List Refusal) → Begun asked start → first ≡ opened asked (row_of number) → last ≡ number + length l.lines
      → Seeing l start before first after all s → IfOk r (λ x. bytes x ≡ drawn_text s (row_of last) all) → IfOk r (λ x. Draws asked number l before (bytes x))
  draws_run start after first s last all begun at_first at_last p = IfOk-weaker r _ _ (λ x shown. of_run (ran begun p.played)
      (shown
      ∙ ap (λ w. drawn_text w (row_of last) all) (p.saw ∙ ap (watched p.played.plays) at_first)
      ∙ ap (λ n. drawn_text (watched p.played.plays (opened asked (row_of number))) (row_of n) all) at_last
      ∙ ap (drawn_text (watched p.played.plays (opened asked (row_of number))) (row_of (number + length l.lines))) p.played.refused))

-- the lines of a script, of which the first set-up was found, or there is none
module _ (lines : List (List ℕ)) (next : Numbered) (new : List Refusal) (text : List ℕ) where
  pub charts : (number : ℕ) (asked : SetUp) → Found (record { number = 1; lines = lines }) [] number asked next new → Draws asked number next new text → Charts lines text
  charts number asked found drawn =
      with_set_up (first lines number asked next new found) (from_first lines number asked next new found (λ a n m before. Draws a n m before text) drawn)

  pub charts_none : Searched (record { number = 1; lines = lines }) [] None next new → text ≡ unopened_text new → Charts lines text
  charts_none none shown = without_set_up none.0 (shown ∙ ap unopened_text none.1)
