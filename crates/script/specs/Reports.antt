-- What is printed once a script has run.
use Rattle.std.specs.Prelude.{ℕ, List, [], ◌∷◌, ◌++◌, length, codes, decimal}
use Rattle.refusals.specs.declared.Refusal.{Refusal}
use Rattle.wire.specs.declared.pair.Configuration.{Configuration}
use Rattle.halls.specs.declared.operation.Operation.{Operation}
use Rattle.script.specs.Rows.{configuration_row, operation_row, refusal_row}

-- the rows of these items, one behind the other
abbrev pub rows : {T : Type 0} → (T → List ℕ) → List T → List ℕ
rows row [] = []
rows row (x ∷ xs) = row x ++ rows row xs

-- a heading with the number of items, and the row of each
abbrev pub section : {T : Type 0} → (T → List ℕ) → List ℕ → List T → List ℕ
section row heading items = heading ++ (codes " " ++ (decimal (length items) ++ (codes "\n" ++ rows row items)))

abbrev pub printed : List Configuration → List Operation → List Refusal → List ℕ
printed roll log refusals =
    section configuration_row (codes "configurations") roll
    ++ (section operation_row (codes "operations") log ++ section refusal_row (codes "refusals") refusals)
