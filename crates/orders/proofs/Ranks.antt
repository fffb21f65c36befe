-- The order in which operations are put: by timestamp, a write before the reads of its value; reads of one timestamp
-- by the moment at which they began, and where that leaves two, by their numbers.
use Rattle.std.proofs.Common.{◌≡◌, ℕ, ◌+◌, ◌*◌, ◌<◌, ◌≤◌, true, false, cond, ◌⊎◌, refl, inl, inr, arith}
use Rattle.std.proofs.lemmas.Bool.{cases_order, cond-true, cond-false}
use Rattle.orders.specs.Order.{Operations}
use Rattle.orders.proofs.Sorting.{StrictOrder}

module _ (ops : Operations) where
  -- the timestamp twice, and one more for a read
  abbrev pub rank : ℕ → ℕ
  rank i = 2 * ops.stamp i + cond (ops.writes i) 0 1

  pub rank_write : (i : ℕ) → ops.writes i ≡ true → rank i ≡ 2 * ops.stamp i
  rank_write i t = omega (arith, cond-true {A = ℕ} (ops.writes i) 0 1 t)

  pub rank_read : (i : ℕ) → ops.writes i ≡ false → rank i ≡ 2 * ops.stamp i + 1
  rank_read i t = omega (arith, cond-false {A = ℕ} (ops.writes i) 0 1 t)

-- i comes before j: by rank, at equal ranks by beginning, and at equal beginnings by number
pub record Before (ops : Operations) (i j : ℕ) : Type 0 where
  pub ranks : rank ops i ≤ rank ops j
  pub moments : rank ops i ≡ rank ops j → ops.began i ≤ ops.began j
  pub numbers : rank ops i ≡ rank ops j → ops.began i ≡ ops.began j → i < j

-- the three ways in which two numbers can lie
abbrev Compared : ℕ → ℕ → Type 0
Compared m n = (m ≡ n) ⊎ ((m < n) ⊎ (n < m))

module _ (ops : Operations) where
  before_irreflexive : (i : ℕ) → Before ops i i → ⊥
  before_irreflexive i h = omega (arith, h.numbers refl refl)

  before_chain : (i j k : ℕ) → Before ops i j → Before ops j k → Before ops i k
  before_chain i j k h g = omega arith

  before_either : (i j : ℕ) → (i ≡ j → ⊥) → Before ops i j ⊎ Before ops j i
  before_either i j other = by (cases_order (rank ops i) (rank ops j)) (cases_order (ops.began i) (ops.began j)) (cases_order i j)
    where
      by : Compared (rank ops i) (rank ops j) → Compared (ops.began i) (ops.began j) → Compared i j → Before ops i j ⊎ Before ops j i
      by (inr (inl r)) b n = inl (omega arith)
      by (inr (inr r)) b n = inr (omega arith)
      by (inl r) (inr (inl b)) n = inl (omega arith)
      by (inl r) (inr (inr b)) n = inr (omega arith)
      by (inl r) (inl b) (inr (inl n)) = inl (omega arith)
      by (inl r) (inl b) (inr (inr n)) = inr (omega arith)
      by (inl r) (inl b) (inl e) = absurd (other e)

  pub before_strict : StrictOrder (Before ops)
  before_strict = record { irreflexive = before_irreflexive; chain = before_chain; either = before_either }
