-- The question that the fields of a line ask: a letter, then its numbers, and nothing else.
use Rattle.std.specs.Prelude.{ℕ, cond, List, [], ◌∷◌, Some, None, Option, ◌==◌}
use Rattle.std.specs.Option.{option_map}
use Rattle.fields.specs.Parts.{Taken, taken}
use Rattle.fields.specs.Numbers.{number_of, signed_of}
use Rattle.fields.specs.Left.{nothing}
use Rattle.queries.specs.declared.query.Query.{Query}
use Rattle.queries.specs.declared.query.Query.TheVariants.{Weight, Quarantined, Released, Blocked, Value, Draw}

abbrev pub letter_of : List ℕ → Option ℕ
letter_of [] = None
letter_of (c ∷ []) = Some c
letter_of (c ∷ d ∷ ds) = None

-- goes on with what was read of a field and the fields that are left
abbrev onward : {A B : Type 0} → Option A → List (List ℕ) → (A → List (List ℕ) → Option B) → Option B
onward None fs next = None
onward (Some a) fs next = next a fs

abbrev pub then : {A B : Type 0} → Taken A → (A → List (List ℕ) → Option B) → Option B
then t next = onward t.got t.left next

-- a, if no field is left
abbrev pub last : {A : Type 0} → A → List (List ℕ) → Option A
last a fs = cond (nothing fs) (Some a) None

-- the fields are one number, or two, and nothing else; each is read as the kind of number that it has to be
abbrev pub one_number : {A : Type 0} → (List ℕ → Option A) → List (List ℕ) → Option A
one_number read fs = then (taken read fs) last

abbrev pub two_numbers : {A B : Type 0} → (List ℕ → Option A) → (List ℕ → Option B) → List (List ℕ) → Option (A × B)
two_numbers read read' fs = then (taken read fs) (λ a fs. then (taken read' fs) (λ b. last (a, b)))

-- by its letter: W 87, Q 81, R 82, B 66, V 86, D 68
abbrev pub asked : ℕ → List (List ℕ) → Option Query
asked letter fs =
    cond (letter == 87) (option_map (λ p. Weight p.0 p.1) (two_numbers signed_of number_of fs))
    (cond (letter == 81) (option_map Quarantined (one_number number_of fs))
    (cond (letter == 82) (option_map Released (one_number number_of fs))
    (cond (letter == 66) (option_map (λ p. Blocked p.0 p.1) (two_numbers number_of number_of fs))
    (cond (letter == 86) (option_map (λ p. Value p.0 (record { 0 = p.1 })) (two_numbers number_of number_of fs))
    (cond (letter == 68) (option_map (λ p. Draw (record { 0 = p.0 }) p.1) (two_numbers number_of number_of fs)) None)))))

abbrev pub query_of : List (List ℕ) → Option Query
query_of fs = then (taken letter_of fs) asked
