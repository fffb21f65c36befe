-- What was written last: at the end of a list whose writes all write one value,
-- and at the end of a list in which they do so from some write on.
use Rattle.std.proofs.Common.{◌≡◌, ℕ, Bool, true, cond, List, [], ◌∷◌, ◌++◌, refl, ap, ◌∙◌}
use mathlib.Core.List.Memᴰ.{head as here}
use mathlib.Core.List.Memᴰ.{tail as there}
use Rattle.std.proofs.lemmas.Bool.{cond-true, cond_both}
use Rattle.orders.specs.Order.{◌∈◌, last_written}

module _ (writes : ℕ → Bool) (value : ℕ → ℕ) where
  pub last_unchanged : (v : ℕ) (l : List ℕ) → ((i : ℕ) → i ∈ l → writes i ≡ true → value i ≡ v) → last_written writes value v l ≡ v
  last_unchanged v [] same = refl
  last_unchanged v (i ∷ l) same =
      let e = cond_both (writes i) (value i) v (λ x. x ≡ v) (λ t. same i (here refl) t) (λ _. refl) in
      ap (λ x. last_written writes value x l) e ∙ last_unchanged v l (λ j m. same j (there m))

  pub last_from : (w opening : ℕ) (front back : List ℕ) → writes w ≡ true → ((i : ℕ) → i ∈ back → writes i ≡ true → value i ≡ value w) → last_written writes value opening (front ++ (w ∷ back)) ≡ value w
  last_from w opening [] back t same = ap (λ x. last_written writes value x back) (cond-true (writes w) (value w) opening t) ∙ last_unchanged (value w) back same
  last_from w opening (i ∷ front) back t same = last_from w (cond (writes i) (value i) opening) front back t same
