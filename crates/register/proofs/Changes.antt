-- A list stays as it is where an element is put at no place of it.
use Rattle.std.proofs.Common.{◌≡◌, ℕ, zero, suc, List, [], ◌∷◌, set, slice_get, None, refl, ap, arith}

pub put_nowhere : {X : Type 0} (xs : List X) (i : ℕ) (y : X) → slice_get xs i ≡ None → xs ≡ set xs i y
put_nowhere [] i y none = refl
put_nowhere (x ∷ xs) zero y none = let z : ◌≡◌ {A = ℕ} 0 1 = cc in absurd (omega arith)
put_nowhere (x ∷ xs) (suc i) y none = ap (λ l. x ∷ l) (put_nowhere xs i y none)
