-- The lines of a script, and the first set-up among them.
use Rattle.std.specs.Prelude.{ℕ, ◌+◌, ◌^◌, ◌<◌, Bool, true, false, cond, List, [], ◌∷◌, ◌++◌, length, Some, None, Option, ◌==◌, nat_lt}
use Rattle.fields.specs.Parts.{lines, fields}
use Rattle.script.specs.declared.command.SetUp.{SetUp}
use Rattle.script.specs.declared.command.Command.{Command}
use Rattle.script.specs.declared.command.Command.TheVariants.{SetUp as Sets, Issue, Read, Write, Deliver, CallOff, Collect, Meddle}
use Rattle.script.specs.Commands.{command_in}

-- how many bytes of a script are read
abbrev pub limit : ℕ
limit = 2 ^ 15

-- a line feed in front of the rest stays, and so does what stands before one that stays
abbrev pub kept_by : Bool → ℕ → List ℕ → List ℕ
kept_by feeds c [] = cond feeds (c ∷ []) []
kept_by feeds c (d ∷ ds) = c ∷ d ∷ ds

-- up to the last line feed, and with it
abbrev pub to_last_feed : List ℕ → List ℕ
to_last_feed [] = []
to_last_feed (c ∷ cs) = kept_by (c == 10) c (to_last_feed cs)

-- a text as long as a script can be may be cut short: what stands behind its last line feed is left out
abbrev pub whole : List ℕ → List ℕ
whole text = cond (nat_lt (length text) limit) text (to_last_feed text)

-- a line that is left out stands as an empty one, which cannot be read either
abbrev pub left_out : Bool → List (List ℕ)
left_out true = [] ∷ []
left_out false = []

abbrev pub script_lines : List ℕ → List (List ℕ)
script_lines text = lines (whole text) ++ left_out (nat_lt (length (whole text)) (length text))

-- lines, the first of which has this number
pub record Numbered : Type 0 where
  pub number : ℕ
  pub lines : List (List ℕ)

-- there is a number for each of them, and for one more
abbrev pub Countable : Numbered → Type 0
Countable l = l.number + length l.lines + 1 < 2 ^ 64

abbrev pub set_up_in : Option Command → Option SetUp
set_up_in None = None
set_up_in (Some (Sets asked)) = Some asked
set_up_in (Some (Issue set)) = None
set_up_in (Some (Read client)) = None
set_up_in (Some (Write client grams lot)) = None
set_up_in (Some (Deliver entry party)) = None
set_up_in (Some (CallOff client)) = None
set_up_in (Some (Collect client)) = None
set_up_in (Some (Meddle party entry)) = None

-- the set-up that a line asks for
abbrev pub set_up_of : List ℕ → Option SetUp
set_up_of line = set_up_in (command_in (fields line))
