-- What a cursor has yet to give.
use Rattle.std.specs.Prelude.{ℕ, Bool, true, false, List, [], ◌∷◌, Some, None, Option}
use Rattle.std.specs.Borrow.{Bor}
use Rattle.fields.specs.declared.Lines.{Lines}
use Rattle.fields.specs.declared.Fields.{Fields}
use Rattle.fields.specs.Parts.{lines, fields}

-- the lines that are not taken yet
abbrev pub lines_left : Lines → List (List ℕ)
lines_left l = lines l.rest.now

-- the fields in a rest of the line; no rest, no field
abbrev pub fields_in : Option (Bor (List ℕ)) → List (List ℕ)
fields_in None = []
fields_in (Some rest) = fields rest.now

-- the fields that are not taken yet
abbrev pub fields_left : Fields → List (List ℕ)
fields_left f = fields_in f.rest

-- whether no part is left
abbrev pub nothing : List (List ℕ) → Bool
nothing [] = true
nothing (p ∷ ps) = false
