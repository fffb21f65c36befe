-- The lines of a text and the fields of a line, and what it is to take the first of them.
use Rattle.std.specs.Prelude.{◌≡◌, ℕ, cond, List, [], ◌∷◌, ◌++◌, Some, None, Option, ◌==◌}
use Rattle.std.specs.List.{AllByRecursion}
use Rattle.std.specs.Str.Iter.{LacksByte}

-- the byte c in front of the first part
abbrev pub onto : ℕ → List (List ℕ) → List (List ℕ)
onto c [] = (c ∷ []) ∷ []
onto c (p ∷ ps) = (c ∷ p) ∷ ps

-- the parts of a text that is cut at each byte sep; an empty text has the parts end
abbrev pub parts : ℕ → List (List ℕ) → List ℕ → List (List ℕ)
parts sep end [] = end
parts sep end (c ∷ cs) = cond (c == sep) ([] ∷ parts sep end cs) (onto c (parts sep end cs))

-- a line ends with a line feed or with the text: an empty text has no line
abbrev pub lines : List ℕ → List (List ℕ)
lines text = parts 10 [] text

-- one space stands between two fields: an empty line has one field, an empty one
abbrev pub fields : List ℕ → List (List ℕ)
fields line = parts 32 ([] ∷ []) line

-- each part with a byte sep behind it, in a row
abbrev pub ended : ℕ → List (List ℕ) → List ℕ
ended sep [] = []
ended sep (p ∷ ps) = p ++ (sep ∷ ended sep ps)

-- no part has a byte sep in it, and with one behind each part they make up bs
abbrev pub MakesUp : ℕ → List (List ℕ) → List ℕ → Type 0
MakesUp sep ps bs = AllByRecursion (LacksByte sep) ps × (ended sep ps ≡ bs)

-- a text whose last line is ended by a line feed too
abbrev pub finished : List ℕ → List ℕ
finished [] = []
finished (c ∷ []) = cond (c == 10) (c ∷ []) (c ∷ 10 ∷ [])
finished (c ∷ d ∷ cs) = c ∷ finished (d ∷ cs)

-- bs up to its first byte sep is part, and what follows that byte is rest, if there is one
abbrev pub Cut : ℕ → List ℕ → List ℕ → Option (List ℕ) → Type 0
Cut sep bs part None = LacksByte sep part × (bs ≡ part)
Cut sep bs part (Some rest) = LacksByte sep part × (bs ≡ part ++ (sep ∷ rest))

-- what was read of the part taken, and the parts that are left
pub record Taken (A : Type 0) : Type 0 where
  pub got : Option A
  pub left : List (List ℕ)

-- the first part is taken and read, if there is one
abbrev pub taken : {A : Type 0} → (List ℕ → Option A) → List (List ℕ) → Taken A
taken read [] = record { got = None; left = [] }
taken read (p ∷ ps) = record { got = read p; left = ps }
