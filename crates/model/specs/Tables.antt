-- The tables of a hall: lists that only grow, over as many places as they had at the opening.
use Rattle.std.specs.Prelude.{ℕ, ◌+◌, Bool, true, false, List, [], ◌∷◌, ◌++◌, length}

-- the used part of a table, and what lies behind it
pub record Table (T : Type 0) : Type 0 where
  pub list : List T
  pub rest : List T

abbrev pub is_empty : {T : Type 0} → List T → Bool
is_empty [] = true
is_empty (x ∷ xs) = false

abbrev pub is_full : {T : Type 0} → Table T → Bool
is_full t = is_empty t.rest

-- how many places it has
abbrev pub places : {T : Type 0} → Table T → ℕ
places t = length t.list + length t.rest

abbrev pub tail : {T : Type 0} → List T → List T
tail [] = []
tail (x ∷ xs) = xs

-- one more behind the used part, where there is room
abbrev pub added : {T : Type 0} → Table T → T → Table T
added t x = record { list = t.list ++ (x ∷ []); rest = tail t.rest }
