-- The worked cases of the rules for values, words and stamps, as one list, and what it is for a case to hold.
use Rattle.std.specs.Prelude.{◌≡◌, ℕ, ◌+◌, ◌<◌, Bool, true, false, List, [], ◌∷◌, ℤ, pos, Some, None, Option, Ok}
use Rattle.std.specs.Option.{option_map}
use Rattle.std.specs.List.{AllByRecursion}
use Rattle.kinds.specs.declared.word.Word.{Word}
use Rattle.kinds.specs.BinWeights.{weight, weight_word, weight_value}
use Rattle.wire.specs.Parties.{Client}
use Rattle.clients.specs.declared.line.Line.{Line}
use Rattle.clients.specs.declared.line.Stage.TheVariants.{Reading}
use Rattle.clients.specs.declared.turn.Turn.TheVariants.{Stamps}
use Rattle.clients.specs.Lines.{stamped}
use Rattle.clients.specs.Turns.{closing, unsealed}
use Rattle.lots.specs.LotCards.{day_of, released_until, blocked_for, card_word, card_value, drawable}

pub data Case : Type 0 where
  -- these grams and this lot have this word
  weighs : ℤ → ℕ → ℕ → Case
  -- this word is no bin weight's
  no_weight : ℕ → Case
  -- a lot released until this day has this word
  released : ℕ → ℕ → Case
  -- a lot released until the first day may be drawn on the second, or may not
  drawn : ℕ → ℕ → Bool → Case
  -- a lot blocked for this reason since this day has this word
  blocked : ℕ → ℕ → ℕ → Case
  -- a write takes this count for its stamp: the last count of its client, the highest count heard, the count taken
  takes_count : ℕ → ℕ → ℕ → Case

abbrev the_word : ℕ → Word
the_word n = record { 0 = n }

-- there is such a value, w is its word, and w gives it back
abbrev Spelt : {V : Type 0} → (V → Word) → (Word → Option V) → Option V → Word → Type 0
Spelt word value v w = (option_map word v ≡ Some w) × (value w ≡ v)

-- a client that reads for a write of this word, with this last count of its own and this highest count heard;
-- there is a next round
pub record ReadsForWrite (line : Line) (w : Word) (own heard : ℕ) : Type 0 where
  pub stage : line.stage ≡ Reading
  pub asked : line.word ≡ Some w
  pub last : line.last_count ≡ own
  pub highest : line.highest.stamp.count ≡ heard
  pub next : line.round < 4294967295

-- whichever client it is, and whatever else stands in its line: as its reading closes, the stamp has this count
abbrev pub Takes : ℕ → ℕ → ℕ → Type 0
Takes own heard count =
    (client : Client) (line : Line) (w : Word) → ReadsForWrite line w own heard →
    closing line.word client line ≡ Ok (Stamps (stamped line (line.round + 1) (unsealed client count w)))

abbrev pub Holds : Case → Type 0
Holds (weighs grams lot n) = Spelt weight_word weight_value (weight grams lot) (the_word n)
Holds (no_weight n) = weight_value (the_word n) ≡ None
Holds (released until n) = Spelt card_word card_value (released_until until) (the_word n)
Holds (drawn until day may) = option_map (λ c. option_map (drawable c) (day_of day)) (released_until until) ≡ Some (Some may)
Holds (blocked reason since n) = Spelt card_word card_value (blocked_for reason since) (the_word n)
Holds (takes_count own heard count) = Takes own heard count

abbrev pub worked_cases : List Case
worked_cases =
    weighs (pos 50000) 412 100005000000412
    ∷ weighs (pos 1000000000) 99999 200000000099999
    ∷ no_weight 200000000100000
    ∷ released 300 8589934892
    ∷ drawn 300 299 true
    ∷ drawn 300 300 false
    ∷ blocked 7 10 12885360650
    ∷ takes_count 3 1 4
    ∷ []

abbrev pub WorkedCasesHold : Type 0
WorkedCasesHold = AllByRecursion Holds worked_cases
