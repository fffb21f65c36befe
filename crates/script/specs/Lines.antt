-- The lines of a script: a letter, and as many fields behind it as this letter has.
use Rattle.std.specs.Prelude.{ℕ, cond, List, [], ◌∷◌, length, Some, None, Option, codes, ◌==◌}
use Rattle.std.specs.Option.{option_map}
use Rattle.script.specs.declared.line.Line.{Line}
use Rattle.script.specs.declared.line.SetUpFields.{SetUpFields}
use Rattle.script.specs.declared.line.EntryFields.{EntryFields}
use Rattle.script.specs.declared.line.Line.TheVariants.{SetUp, Issue, Read, Write, Deliver, CallOff, Collect, Meddle}

abbrev pub letter_of : List ℕ → Option ℕ
letter_of [] = None
letter_of (c ∷ []) = Some c
letter_of (c ∷ d ∷ ds) = None

-- these fields, if there are just so many
abbrev pub exactly : ℕ → List (List ℕ) → Option (List (List ℕ))
exactly n fs = cond (length fs == n) (Some fs) None

-- the fields that are left after a letter: S 83 has seven, I 73, R 82, O 79 and T 84 have one, D 68 has two, W 87 three, M 77 nine
abbrev pub behind : Option ℕ → List (List ℕ) → Option (List (List ℕ))
behind None fs = None
behind (Some letter) fs =
    cond (letter == 83) (exactly 7 fs)
    (cond (letter == 73) (exactly 1 fs)
    (cond (letter == 82) (exactly 1 fs)
    (cond (letter == 87) (exactly 3 fs)
    (cond (letter == 68) (exactly 2 fs)
    (cond (letter == 79) (exactly 1 fs)
    (cond (letter == 84) (exactly 1 fs)
    (cond (letter == 77) (exactly 9 fs) None)))))))

-- the letter and the fields of a line, if they are one of the above and nothing else
abbrev pub line_of : List (List ℕ) → Option (List (List ℕ))
line_of [] = None
line_of (f ∷ fs) = option_map (λ rest. f ∷ rest) (behind (letter_of f) fs)

abbrev pub set_up_spelt : SetUpFields → List (List ℕ)
set_up_spelt s = s.faults.now ∷ s.replicas.now ∷ s.clients.now ∷ s.set.now ∷ s.marked.now ∷ s.grams.now ∷ s.lot.now ∷ []

abbrev pub entry_spelt : EntryFields → List (List ℕ)
entry_spelt e = e.kind.now ∷ e.addressee.now ∷ e.round.now ∷ e.epoch.now ∷ e.count.now ∷ e.writer.now ∷ e.word.now ∷ e.seal.now ∷ []

-- a line's letter and its fields, as they stand in the text
abbrev pub spelt : Line → List (List ℕ)
spelt (SetUp fields) = codes "S" ∷ set_up_spelt fields
spelt (Issue set) = codes "I" ∷ set.now ∷ []
spelt (Read client) = codes "R" ∷ client.now ∷ []
spelt (Write client grams lot) = codes "W" ∷ client.now ∷ grams.now ∷ lot.now ∷ []
spelt (Deliver entry party) = codes "D" ∷ entry.now ∷ party.now ∷ []
spelt (CallOff client) = codes "O" ∷ client.now ∷ []
spelt (Collect client) = codes "T" ∷ client.now ∷ []
spelt (Meddle party entry) = codes "M" ∷ party.now ∷ entry_spelt entry
