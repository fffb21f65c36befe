-- The numbers of kinds.
use Rattle.std.specs.Prelude.{◌≡◌, ℕ, false, List, [], ◌∷◌, ◌==◌}
use Rattle.std.specs.List.{AllByRecursion}

-- no number is in the list twice
abbrev pub NoneTwice : List ℕ → Type 0
NoneTwice [] = Unit {0}
NoneTwice (n ∷ ns) = AllByRecursion (λ m. (n == m) ≡ false) ns × NoneTwice ns
