-- What a save answers, and what it makes of a store's cards and of the saves that are left.
use Rattle.std.specs.Prelude.{ℕ, ◌-◌, Bool, false, cond, Some, None, Ok, Err, Option, Result, ◌==◌}
use Rattle.stores.specs.declared.card.Card.{Card}
use Rattle.stores.specs.declared.fault.StoreFault.{StoreFault}
use Rattle.stores.specs.declared.fault.StoreFault.TheVariants.{NoSave}

-- the meaning of a store
pub record Shelf : Type 0 where
  -- the card of each replica number, or none
  pub place : ℕ → Option Card
  -- how many saves are left (None: without end)
  pub saves : Option ℕ
  -- the place that a refused save names
  pub next : ℕ

-- what a save answers and leaves: the card of each replica number, and the saves (None: without end)
pub record Saved : Type 0 where
  pub answer : Result (Unit {0}) StoreFault
  pub place : ℕ → Option Card
  pub saves : Option ℕ

abbrev pub after : Result (Unit {0}) StoreFault → (ℕ → Option Card) → Option ℕ → Saved
after answer place saves = record { answer = answer; place = place; saves = saves }

-- the card at this number, and every other number as it was
abbrev pub put : (ℕ → Option Card) → ℕ → Card → ℕ → Option Card
put place n card m = cond (m == n) (Some card) (place m)

abbrev pub none_left : Option ℕ → Bool
none_left None = false
none_left (Some k) = k == 0

abbrev pub one_fewer : Option ℕ → Option ℕ
one_fewer None = None
one_fewer (Some k) = Some (k - 1)

abbrev pub saved : Shelf → ℕ → Card → Saved
saved store n card =
    cond (none_left store.saves)
    (after (Err (NoSave store.next)) store.place store.saves)
    (after (Ok tt) (put store.place n card) (one_fewer store.saves))
