-- Lists of numbers: places and members of an image, and the numbers below a bound that pass a test.
-- Nothing is assumed.
use Rattle.std.proofs.Common.{◌≡◌, ℕ, zero, suc, ◌<◌, Bool, true, false, cond, ◌⊎◌, List, [], ◌∷◌, ◌++◌, map, sym, refl, ap, ◌∙◌, inl, inr, arith, subst}
use mathlib.Core.List.Memᴰ
use mathlib.Core.List.Memᴰ.{head as here}
use mathlib.Core.List.Memᴰ.{tail as there}
use native.Mathlib.Decide.{ℕ_discrete}
use borrow.Author.Tests.{clash}
use Rattle.orders.specs.Order.{◌∈◌, Distinct}
use Rattle.orders.proofs.Sorting.{Pairwise, none, more, pairwise_distinct}

-- a place in the image of a list comes from a place in the list
pub record SplitFrom (f : ℕ → ℕ) (xs front : List ℕ) (y : ℕ) : Type 0 where
  pub before : List ℕ
  pub at : ℕ
  pub after : List ℕ
  pub is : xs ≡ before ++ (at ∷ after)
  pub front_is : map f before ≡ front
  pub at_is : f at ≡ y

cons_first : {x y : ℕ} {xs ys : List ℕ} → (x ∷ xs) ≡ (y ∷ ys) → x ≡ y
cons_first p = cc

cons_rest : {x y : ℕ} {xs ys : List ℕ} → (x ∷ xs) ≡ (y ∷ ys) → xs ≡ ys
cons_rest p = cc

not_cons : {P : Type 0} {x : ℕ} {xs : List ℕ} → ◌≡◌ {A = List ℕ} [] (x ∷ xs) → P
not_cons p = absurd cc

pub split_from : (f : ℕ → ℕ) (xs front back : List ℕ) (y : ℕ) → map f xs ≡ front ++ (y ∷ back) → SplitFrom f xs front y
split_from f [] [] back y e = not_cons e
split_from f [] (z ∷ front) back y e = not_cons e
split_from f (x ∷ xs) [] back y e = record { before = []; at = x; after = xs; is = refl; front_is = refl; at_is = cons_first e }
split_from f (x ∷ xs) (z ∷ front) back y e =
    let s = split_from f xs front back y (cons_rest e) in
    record { before = x ∷ s.before; at = s.at; after = s.after; is = ap (λ l. x ∷ l) s.is; front_is = λ i. cons_first e i ∷ s.front_is i; at_is = s.at_is }

-- what stands at the place and before it is in the list
pub split_at : {f : ℕ → ℕ} {xs front : List ℕ} {y : ℕ} (s : SplitFrom f xs front y) → s.at ∈ xs
split_at s = subst (λ l. s.at ∈ l) (sym s.is) (Memᴰ.append_right s.before (here refl))

pub split_before : {f : ℕ → ℕ} {xs front : List ℕ} {y k : ℕ} (s : SplitFrom f xs front y) → k ∈ s.before → k ∈ xs
split_before {k = k} s m = subst (λ l. k ∈ l) (sym s.is) (Memᴰ.append_left (s.at ∷ s.after) m)

-- members of an image
pub map_member : (f : ℕ → ℕ) {i : ℕ} {xs : List ℕ} → i ∈ xs → f i ∈ map f xs
map_member f (here e) = here (ap f e)
map_member f (there m) = there (map_member f m)

pub record ComesFrom (f : ℕ → ℕ) (xs : List ℕ) (y : ℕ) : Type 0 where
  pub at : ℕ
  pub inside : at ∈ xs
  pub at_is : f at ≡ y

pub comes_from : (f : ℕ → ℕ) (xs : List ℕ) (y : ℕ) → y ∈ map f xs → ComesFrom f xs y
comes_from f [] y m = absurd (Memᴰ.not-nil m)
comes_from f (x ∷ xs) y m = by_case (λ r. comes_from f xs y r) (Memᴰ.cases_cons m)
  where
    by_case : (y ∈ map f xs → ComesFrom f xs y) → (y ≡ f x) ⊎ (y ∈ map f xs) → ComesFrom f (x ∷ xs) y
    by_case go (inl e) = record { at = x; inside = here refl; at_is = sym e }
    by_case go (inr r) = let c = go r in record { at = c.at; inside = there c.inside; at_is = c.at_is }

-- the numbers below n that pass a test
pub below : (ℕ → Bool) → ℕ → List ℕ
below test zero = []
below test (suc n) = cond (test n) (n ∷ below test n) (below test n)

pub record IsBelow (test : ℕ → Bool) (n k : ℕ) : Type 0 where
  pub lower : k < n
  pub passes : test k ≡ true

pub below_only : (test : ℕ → Bool) (n k : ℕ) → k ∈ below test n → IsBelow test n k
unfolding below
below_only test zero k m = absurd (Memᴰ.not-nil m)
below_only test (suc n) k m = by_test (test n) refl (λ r. below_only test n k r) m
  where
    more : IsBelow test n k → IsBelow test (suc n) k
    more b = record { lower = omega (arith, b.lower); passes = b.passes }

    by_test : (b : Bool) → test n ≡ b → (k ∈ below test n → IsBelow test n k) → k ∈ cond b (n ∷ below test n) (below test n) → IsBelow test (suc n) k
    by_test true is go r = by_case (Memᴰ.cases_cons r)
      where
        by_case : (k ≡ n) ⊎ (k ∈ below test n) → IsBelow test (suc n) k
        by_case (inl e) = record { lower = omega arith; passes = ap test e ∙ is }
        by_case (inr r) = more (go r)
    by_test false is go r = more (go r)

pub below_all : (test : ℕ → Bool) (n k : ℕ) → k < n → test k ≡ true → k ∈ below test n
unfolding below
below_all test zero k lt t = absurd (omega arith)
below_all test (suc n) k lt t = by_place (λ less. below_all test n k less t) (ℕ_discrete k n) (test n) refl
  where
    by_place : (k < n → k ∈ below test n) → Dec (k ≡ n) → (b : Bool) → test n ≡ b → k ∈ cond b (n ∷ below test n) (below test n)
    by_place go (yes e) true is = here e
    by_place go (yes e) false is = absurd (clash (sym is ∙ sym (ap test e) ∙ t))
    by_place go (no ne) true is = there (go (omega arith))
    by_place go (no ne) false is = go (omega arith)

-- larger ones come first
pub falls : (test : ℕ → Bool) (n : ℕ) → Pairwise (λ i j. j < i) (below test n)
unfolding below
falls test zero = none
falls test (suc n) = by_test (test n) (falls test n)
  where
    by_test : (b : Bool) → Pairwise (λ i j. j < i) (below test n) → Pairwise (λ i j. j < i) (cond b (n ∷ below test n) (below test n))
    by_test true p = more (λ j m. (below_only test n j m).lower) p
    by_test false p = p

-- no number below n that passes stands twice
pub below_distinct : (test : ℕ → Bool) (n : ℕ) → Distinct (below test n)
below_distinct test n = pairwise_distinct (λ i lt. omega arith) (falls test n)
