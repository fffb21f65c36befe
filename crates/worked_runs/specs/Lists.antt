-- Lists of calls, made one after the other, with a sealer that gives a text its number as its seal.
use Rattle.std.specs.Prelude.{◌≡◌, ℕ, zero, suc, true, false, List, [], ◌∷◌, length, slice_index_or, Some, None, Option}
use Rattle.wire.specs.declared.pair.Seal.{Seal}
use Rattle.wire.specs.declared.text.Text.{Text}
use Rattle.sealers.specs.Sealing.{genuine_then, none_beside}
use Rattle.kinds.specs.Kinds.{RecordKind}
use Rattle.model.specs.Halls.{World, no_seal, desk_of}
use Rattle.model.specs.Answers.{Answer, Outcome}
use Rattle.model.specs.Calls.{Call, redeem, called}
use Rattle.model.specs.Runs.{Run, Unforged, OnlyGiven}

-- the number of a text that is sealed, as its seal
abbrev pub seal_for : Option Text → Seal
seal_for None = no_seal
seal_for (Some t) = record { 0 = t.number }

-- the seal that a call is given: that of the text that it seals, whatever seal it is given
abbrev pub given_to : {V : Type 0} → RecordKind V → Call V → World → Seal
given_to kind call w = seal_for (called kind no_seal call w).sealed

-- what comes of a call
abbrev pub made : {V : Type 0} → RecordKind V → Call V → World → Outcome V
made kind call w = called kind (given_to kind call w) call w

-- the world after a call: its hall, and the seals that are genuine then
abbrev pub after : {V : Type 0} → RecordKind V → Call V → World → World
after kind call w = record {
  hall = (made kind call w).hall;
  genuine = genuine_then (desk_of w) (made kind call w).sealed (given_to kind call w);
  left_open = w.left_open;
}

-- the world before the call at a position of a list; behind its end, the last one
abbrev pub world_at : {V : Type 0} → RecordKind V → List (Call V) → World → ℕ → World
world_at kind calls w zero = w
world_at kind [] w (suc i) = w
world_at kind (call ∷ rest) w (suc i) = world_at kind rest (after kind call w) i

abbrev pub call_at : {V : Type 0} → List (Call V) → ℕ → Call V
call_at calls i = slice_index_or calls i (redeem 0)

-- what the calls of a list answer, one after the other
abbrev pub answers_of : {V : Type 0} → RecordKind V → List (Call V) → World → List (Answer V)
answers_of kind [] w = []
answers_of kind (call ∷ rest) w = (made kind call w).answer ∷ answers_of kind rest (after kind call w)

-- a run with these calls: no seal is genuine in it but those that are given, and so none is forged
pub record RunOf {V : Type 0} (kind : RecordKind V) (start : World) (list : List (Call V)) : Type 0 where
  pub run : Run kind start
  pub many : run.calls ≡ length list
  pub call : (i : ℕ) → run.call i ≡ call_at list i
  pub only_given : OnlyGiven run
  pub unforged : Unforged run

-- a text may get any seal
abbrev pub AnySeal : World → Type 0
AnySeal w = (t : Text) (s : Seal) → w.left_open.allowed t s ≡ true

-- from a world in which no seal is genuine yet, with a sealer that may give a text any seal and makes no other genuine,
-- there is such a run for every list of calls
abbrev pub EveryListRuns : {V : Type 0} → RecordKind V → Type 0
EveryListRuns {V = V} kind =
    (start : World) → ((t : Text) (s : Seal) → start.genuine t s ≡ false)
    → AnySeal start → start.left_open.beside ≡ none_beside
    → (list : List (Call V)) → RunOf kind start list

-- a line of a script: a call, and what it is to answer
pub record Line (V : Type 0) : Type 0 where
  pub call : Call V
  pub answer : Answer V

abbrev pub line : {V : Type 0} → Call V → Answer V → Line V
line call answer = record { call = call; answer = answer }

abbrev pub calls_of : {V : Type 0} → List (Line V) → List (Call V)
calls_of [] = []
calls_of (l ∷ rest) = l.call ∷ calls_of rest

abbrev pub answers_in : {V : Type 0} → List (Line V) → List (Answer V)
answers_in [] = []
answers_in (l ∷ rest) = l.answer ∷ answers_in rest

-- each call of the script is answered as it says there
abbrev pub Answered : {V : Type 0} → RecordKind V → World → List (Line V) → Type 0
Answered kind start script = answers_of kind (calls_of script) start ≡ answers_in script

-- the world after the whole script
abbrev pub last_world : {V : Type 0} → RecordKind V → World → List (Line V) → World
last_world kind start script = world_at kind (calls_of script) start (length (calls_of script))
