-- A turn over the lines of a script: what is so of the lines that are left is so of those from the line that is taken on. Assumes nothing.
use Rattle.std.proofs.Common.{◌≡◌, ℕ, ◌+◌, List, [], ◌∷◌, ◌++◌, Some, None, Option, sym, ap, ◌∙◌, subst, append_assoc, append-nil, arith}
use Rattle.refusals.specs.declared.Refusal.{Refusal}
use Rattle.refusals.specs.Places.{moved}
use Rattle.fields.specs.Parts.{fields}
use Rattle.script.specs.declared.command.SetUp.{SetUp}
use Rattle.script.specs.Commands.{command_in}
use Rattle.model.specs.Halls.{World}
use Rattle.runner.specs.declared.fault.ScriptFault.{ScriptFault}
use Rattle.runner.specs.declared.fault.ScriptFault.TheVariants.{Unreadable}
use Rattle.runner.specs.Faults.{script_refusal}
use Rattle.runner.specs.Asks.{asks}
use Rattle.runner.specs.Plays.{Does, ended, line, told}
use Rattle.runner.specs.Texts.{Numbered, set_up_of}
use Rattle.runner.specs.Outputs.{unread}
use Rattle.runner.specs.Turns.{Searched, Played}

-- a line is played
abbrev pub played_line : {number : ℕ} {text : List ℕ} {rest : List (List ℕ)} {before between after : World} {fault : Option ScriptFault} {old new : List Refusal}
    → Does before (asks before.hall (command_in (fields text))) fault between → Played (record { number = number + 1; lines = rest }) between (old ++ told number fault) after new
    → Played (record { number = number; lines = text ∷ rest }) before old after new
played_line {number = number} {fault = fault} {old = old} does p = record {
  refusals = told number fault ++ p.refusals;
  plays = line does p.plays;
  refused = p.refused ∙ append_assoc old (told number fault) p.refusals;
}

-- no line is played
abbrev pub played_none : {number : ℕ} {w : World} {old : List Refusal} → Played (record { number = number; lines = [] }) w old w old
played_none {old = old} = record { refusals = []; plays = ended; refused = sym (append-nil old) }

-- the lines from `first` on, where those of `rest` are left
module _ (now rest : Numbered) (text : List ℕ) (lines : now.lines ≡ text ∷ rest.lines) (number : rest.number ≡ now.number + 1) where
  -- a line that asks for no set-up is refused
  pub searched_on : (old added new : List Refusal) (found : Option (ℕ × SetUp)) (next : Numbered) → set_up_of text ≡ None
      → added ≡ old ++ (moved (script_refusal Unreadable) now.number ∷ []) → Searched rest added found next new → Searched now old found next new
  searched_on old added new None next lacks e s =
      (rw lines (lacks, s.0), s.1 ∙ rw (e, lines, number) (append_assoc old (moved (script_refusal Unreadable) now.number ∷ []) (unread (now.number + 1) rest.lines)))
  searched_on old added new (Some found) next lacks e s = record {
    before = text ∷ s.before;
    line = s.line;
    parts = lines ∙ ap (λ ls. text ∷ ls) s.parts;
    none = (lacks, s.none);
    asks = s.asks;
    place = omega (arith, s.place, number);
    follows = s.follows;
    refused = s.refused ∙ rw (e, number) (append_assoc old (moved (script_refusal Unreadable) now.number ∷ []) (unread (now.number + 1) s.before));
  }

  -- the first set-up is here
  pub found_here : (old : List Refusal) (asked : SetUp) → set_up_of text ≡ Some asked → Searched now old (Some (now.number, asked)) rest old
  found_here old asked is = record {
    before = [];
    line = text;
    parts = lines;
    none = tt;
    asks = is;
    place = omega arith;
    follows = number;
    refused = sym (append-nil old);
  }

  -- a line is refused
  pub unread_on : (old added new : List Refusal) → added ≡ old ++ (moved (script_refusal Unreadable) now.number ∷ [])
      → new ≡ added ++ unread rest.number rest.lines → new ≡ old ++ unread now.number now.lines
  unread_on old added new e all = all ∙ rw (e, lines, number) (append_assoc old (moved (script_refusal Unreadable) now.number ∷ []) (unread (now.number + 1) rest.lines))

  -- what is so of those lines, told one by one, is so of these
  pub taken_on : (P Q : Numbered → Type 0) → P rest → (P (record { number = now.number + 1; lines = rest.lines }) → Q (record { number = now.number; lines = text ∷ rest.lines })) → Q now
  taken_on P Q p on = subst Q (λ i. record { number = now.number; lines = sym lines i }) (on (subst P (λ i. record { number = number i; lines = rest.lines }) p))

  pub played_on : (before between after : World) (fault : Option ScriptFault) (old added new : List Refusal) → Does before (asks before.hall (command_in (fields text))) fault between
      → added ≡ old ++ told now.number fault → Played rest between added after new → Played now before old after new
  played_on before between after fault old added new does e p =
      taken_on (λ l. Played l between (old ++ told now.number fault) after new) (λ l. Played l before old after new)
      (subst (λ rs. Played rest between rs after new) e p) (played_line does)

-- no line is left
module _ (now : Numbered) (none : now.lines ≡ []) where
  pub searched_all : (old : List Refusal) (next : Numbered) → Searched now old None next old
  searched_all old next = (rw none tt, rw none (sym (append-nil old)))

  pub unread_all : (old : List Refusal) → old ≡ old ++ unread now.number now.lines
  unread_all old = rw none (sym (append-nil old))

  -- what is so without a line is so of these
  pub at_end : (P : Numbered → Type 0) → P (record { number = now.number; lines = [] }) → P now
  at_end P = subst P (λ i. record { number = now.number; lines = sym none i })

  pub played_all : (w : World) (old : List Refusal) → Played now w old w old
  played_all w old = at_end (λ l. Played l w old w old) played_none
