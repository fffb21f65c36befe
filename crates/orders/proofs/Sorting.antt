-- Lists whose numbers are in a relation, each to all behind it; and insertion sort by a strict order,
-- after which that order is the relation.
use Rattle.std.proofs.Common.{◌≡◌, ℕ, ◌⊎◌, List, [], ◌∷◌, ◌++◌, sym, refl, ap, subst, inl, inr}
use mathlib.Core.List.Memᴰ
use mathlib.Core.List.Memᴰ.{head as here}
use mathlib.Core.List.Memᴰ.{tail as there}
use Rattle.orders.specs.Order.{◌∈◌, Distinct}

-- where a number stands in a list
pub record Split (i : ℕ) (l : List ℕ) : Type 0 where
  pub front : List ℕ
  pub back : List ℕ
  pub is : l ≡ front ++ (i ∷ back)

pub split : {i : ℕ} {l : List ℕ} → i ∈ l → Split i l
split (here {xs = l} e) = record { front = []; back = l; is = ap (λ k. k ∷ l) (sym e) }
split (there {x = k} m) = let s = split m in record { front = k ∷ s.front; back = s.back; is = ap (λ l. k ∷ l) s.is }

-- each number of the list is in the relation to every one behind it
pub data Pairwise (R : ℕ → ℕ → Type 0) : List ℕ → Type 0 where
  none : Pairwise R []
  more : {i : ℕ} {l : List ℕ} → ((j : ℕ) → j ∈ l → R i j) → Pairwise R l → Pairwise R (i ∷ l)

module _ {R : ℕ → ℕ → Type 0} where
  pub pairwise_behind : (front : List ℕ) {back : List ℕ} → Pairwise R (front ++ back) → Pairwise R back
  pairwise_behind [] p = p
  pairwise_behind (i ∷ front) (more h p) = pairwise_behind front p

  pub pairwise_across : {i j : ℕ} {front back : List ℕ} → i ∈ front → j ∈ back → Pairwise R (front ++ back) → R i j
  pairwise_across {j} (here {xs = front} e) n (more h p) = subst (λ k. R k j) (sym e) (h j (Memᴰ.append_right front n))
  pairwise_across (there m) n (more h p) = pairwise_across m n p

  -- at any place of the list: the relation of a number in front to the one there, and of that to one behind
  module _ {l : List ℕ} (p : Pairwise R l) (front back : List ℕ) {i j : ℕ} (e : l ≡ front ++ (j ∷ back)) where
    pub pairwise_front : i ∈ front → R i j
    pairwise_front m = pairwise_across m (here refl) (subst (Pairwise R) e p)

    pub pairwise_back : i ∈ back → R j i
    pairwise_back m = at (pairwise_behind front (subst (Pairwise R) e p))
      where
        at : Pairwise R (j ∷ back) → R j i
        at (more h q) = h i m

  -- where nothing is in the relation to itself, no number stands twice
  pub pairwise_distinct : {l : List ℕ} → ((i : ℕ) → R i i → ⊥) → Pairwise R l → Distinct l
  pairwise_distinct irreflexive p front back i e m = irreflexive i (pairwise_front p front back e m)

-- in a list with no number twice the first does not stand again, and the others stand once
pub distinct_head : {i : ℕ} {l : List ℕ} → Distinct (i ∷ l) → i ∈ l → ⊥
distinct_head {i} once m = let s = split m in once (i ∷ s.front) s.back i (ap (λ l. i ∷ l) s.is) (here refl)

pub distinct_tail : {i : ℕ} {l : List ℕ} → Distinct (i ∷ l) → Distinct l
distinct_tail {i} once front back j e m = once (i ∷ front) back j (ap (λ l. i ∷ l) e) (there m)

-- the same first number before two lists, and the first two numbers the other way round
under : {k j : ℕ} {l l' : List ℕ} → ((i : ℕ) → i ∈ l → i ∈ l') → k ∈ (j ∷ l) → k ∈ (j ∷ l')
under f (here e) = here e
under {k} f (there m) = there (f k m)

swap : {k i j : ℕ} {l : List ℕ} → k ∈ (i ∷ (j ∷ l)) → k ∈ (j ∷ (i ∷ l))
swap (here e) = there (here e)
swap (there (here e)) = here e
swap (there (there m)) = there (there m)

-- a list sorted: the same numbers, each in the relation to all behind it
pub record Sorted (R : ℕ → ℕ → Type 0) (ids : List ℕ) : Type 0 where
  pub list : List ℕ
  pub all : (i : ℕ) → i ∈ ids → i ∈ list
  pub only : (i : ℕ) → i ∈ list → i ∈ ids
  pub sorted : Pairwise R list

-- a strict order: no number comes before itself, and of two different ones one comes before the other
pub record StrictOrder (R : ℕ → ℕ → Type 0) : Type 0 where
  pub irreflexive : (i : ℕ) → R i i → ⊥
  pub chain : (i j k : ℕ) → R i j → R j k → R i k
  pub either : (i j : ℕ) → (i ≡ j → ⊥) → R i j ⊎ R j i

module _ {R : ℕ → ℕ → Type 0} (o : StrictOrder R) where
  insert : (i : ℕ) (l : List ℕ) → Pairwise R l → (i ∈ l → ⊥) → Sorted R (i ∷ l)
  insert i [] none out = record { list = i ∷ []; all = λ j m. m; only = λ j m. m; sorted = more (λ j m. absurd (Memᴰ.not-nil m)) none }
  insert i (j ∷ l) (more h p) out = place (o.either i j (λ e. out (here e))) (insert i l p (λ m. out (there m)))
    where
      first : R i j → (k : ℕ) → k ∈ (j ∷ l) → R i k
      first r k (here e) = subst (R i) (sym e) r
      first r k (there m) = o.chain i j k r (h k m)

      later : R j i → (k : ℕ) → k ∈ (i ∷ l) → R j k
      later r k (here e) = subst (R j) (sym e) r
      later r k (there m) = h k m

      place : R i j ⊎ R j i → Sorted R (i ∷ l) → Sorted R (i ∷ (j ∷ l))
      place (inl r) rest = record { list = i ∷ (j ∷ l); all = λ k m. m; only = λ k m. m; sorted = more (first r) (more h p) }
      place (inr r) rest = record {
        list = j ∷ rest.list;
        all = λ k m. under rest.all (swap m);
        only = λ k m. swap (under rest.only m);
        sorted = more (λ k m. later r k (rest.only k m)) rest.sorted;
      }

  pub sort : (ids : List ℕ) → Distinct ids → Sorted R ids
  sort [] once = record { list = []; all = λ i m. m; only = λ i m. m; sorted = none }
  sort (i ∷ ids) once =
      let rest = sort ids (distinct_tail once) in
      let whole = insert i rest.list rest.sorted (λ m. distinct_head once (rest.only i m)) in
      record {
        list = whole.list;
        all = λ k m. whole.all k (under rest.all m);
        only = λ k m. under rest.only (whole.only k m);
        sorted = whole.sorted;
      }

  -- in a sorted list, what comes before another number stands in front of it
  pub sorted_front : {l : List ℕ} → Pairwise R l → (front back : List ℕ) (i j : ℕ) → l ≡ front ++ (j ∷ back) → i ∈ l → R i j → i ∈ front
  sorted_front p front back i j e m r = side (Memᴰ.append_cases front (subst (λ k. i ∈ k) e m))
    where
      side : i ∈ front ⊎ i ∈ (j ∷ back) → i ∈ front
      side (inl n) = n
      side (inr (here s)) = absurd (o.irreflexive j (subst (λ k. R k j) s r))
      side (inr (there n)) = absurd (o.irreflexive i (o.chain i j i r (pairwise_back p front back e n)))
