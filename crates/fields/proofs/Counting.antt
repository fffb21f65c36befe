-- A text has at most as many lines as bytes. Assumes nothing.
use Rattle.std.proofs.Common.{ℕ, ◌+◌, ◌≤◌, eqb, List, [], ◌∷◌, length, arith}
use Rattle.std.proofs.lemmas.Bool.{cond_both}
use Rattle.fields.specs.Parts.{onto, lines}

onto_few : (c : ℕ) (ps : List (List ℕ)) → length (onto c ps) ≤ length ps + 1
onto_few c [] = omega arith
onto_few c (p ∷ ps) = omega arith

pub lines_few : (text : List ℕ) → length (lines text) ≤ length text
lines_few [] = omega arith
lines_few (c ∷ cs) =
    cond_both (eqb c 10) _ _ (λ ps. length ps ≤ length (c ∷ cs))
    (λ _. omega (arith, lines_few cs))
    (λ _. omega (arith, lines_few cs, onto_few c (lines cs)))
