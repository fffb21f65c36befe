-- Linearization: operations on one register overlap in time, and yet can be put in one order, as if each had happened at
-- one moment. Here is what their timestamps have to satisfy for that, and what such an order is.
use Rattle.std.specs.Prelude.{◌≡◌, ℕ, ◌<◌, ◌≤◌, Bool, true, false, cond, List, [], ◌∷◌, ◌++◌}
use mathlib.Core.List.{Memᴰ}

-- The number stands in the list.
infix 4 ◌∈◌
abbrev pub ◌∈◌ : ℕ → List ℕ → Type 0
i ∈ l = Memᴰ i l

-- Operations on the register, each known by a number. A moment is a number too, the larger the later.
pub record Operations : Type 0 where
  -- whether it writes; if not, it reads
  pub writes : ℕ → Bool
  -- what it writes, or what it gives as read
  pub value : ℕ → ℕ
  -- its timestamp, as one number: a write's own, and for a read that of the value which it gives
  pub stamp : ℕ → ℕ
  -- the moment at which it began
  pub began : ℕ → ℕ
  -- the moment after which it was over, or 0 if it never was
  pub ended : ℕ → ℕ

-- Real time: i was over before j began. If neither of two operations precedes the other, they overlap.
abbrev pub Precedes : Operations → ℕ → ℕ → Type 0
Precedes ops i j = (0 < ops.ended i) × (ops.ended i < ops.began j)

-- What the register holds after the operations of a list, in its order: the value of the last that writes, and the
-- opening value if none does.
abbrev pub last_written : (ℕ → Bool) → (ℕ → ℕ) → ℕ → List ℕ → ℕ
last_written writes value opening [] = opening
last_written writes value opening (i ∷ rest) = last_written writes value (cond (writes i) (value i) opening) rest

-- No number stands twice in the list: wherever one stands, it stands nowhere in front of that place.
abbrev pub Distinct : List ℕ → Type 0
Distinct l = (front back : List ℕ) (i : ℕ) → l ≡ front ++ (i ∷ back) → i ∈ front → ⊥

-- Where the value of the read i comes from: its timestamp says it.
pub data Origin (ops : Operations) (opening : ℕ) (ids : List ℕ) (i : ℕ) : Type 0 where
  -- it read the opening value, whose stamp is 0
  the_opening : ops.stamp i ≡ 0 → ops.value i ≡ opening → Origin ops opening ids i
  -- it read the value of a write, and has that write's stamp
  a_write : (w : ℕ) → w ∈ ids → ops.writes w ≡ true → ops.stamp w ≡ ops.stamp i → ops.value w ≡ ops.value i → Origin ops opening ids i

-- The operations in ids have timestamps that respect real time, and each read has its value from where its timestamp says.
pub record Stamped (ops : Operations) (opening : ℕ) (ids : List ℕ) : Type 0 where
  -- no operation is listed twice
  pub once : Distinct ids
  -- a write's stamp is above 0, the stamp of the opening value,
  pub above_opening : (i : ℕ) → i ∈ ids → ops.writes i ≡ true → 0 < ops.stamp i
  -- and no two writes have the same stamp
  pub own_stamp : (i j : ℕ) → i ∈ ids → j ∈ ids → ops.writes i ≡ true → ops.writes j ≡ true → ops.stamp i ≡ ops.stamp j → i ≡ j
  -- in real time stamps never fall from one operation to the next,
  pub never_falls : (i j : ℕ) → i ∈ ids → j ∈ ids → Precedes ops i j → ops.stamp i ≤ ops.stamp j
  -- and rise where the next is a write
  pub rises_at_writes : (i j : ℕ) → i ∈ ids → j ∈ ids → Precedes ops i j → ops.writes j ≡ true → ops.stamp i < ops.stamp j
  -- an operation that was ever over began before that
  pub begins_first : (i : ℕ) → i ∈ ids → 0 < ops.ended i → ops.began i < ops.ended i
  -- a read gives the opening value, or what a write of the same stamp writes
  pub origin : (i : ℕ) → i ∈ ids → ops.writes i ≡ false → Origin ops opening ids i

-- The list l is a linearization of the operations in ids. Every place of l is a split of it: what stands in front of that
-- place, what stands there, and what stands behind.
pub record Order (ops : Operations) (opening : ℕ) (ids l : List ℕ) : Type 0 where
  -- every operation stands in it,
  pub all : (i : ℕ) → i ∈ ids → i ∈ l
  -- nothing else does,
  pub only : (i : ℕ) → i ∈ l → i ∈ ids
  -- and none twice
  pub once : Distinct l
  -- an operation that was over before j began stands in front of j
  pub time : (front back : List ℕ) (i j : ℕ) → l ≡ front ++ (j ∷ back) → i ∈ ids → Precedes ops i j → i ∈ front
  -- a read gives what was written last in front of it
  pub reads : (front back : List ℕ) (j : ℕ) → l ≡ front ++ (j ∷ back) → ops.writes j ≡ false → ops.value j ≡ last_written ops.writes ops.value opening front

-- The theorem: operations whose timestamps respect real time have a linearization.
abbrev pub StampedOperationsHaveAnOrder : Type 0
StampedOperationsHaveAnOrder = (ops : Operations) (opening : ℕ) (ids : List ℕ) → Stamped ops opening ids → (l : List ℕ) × Order ops opening ids l
