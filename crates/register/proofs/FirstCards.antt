-- One more first card is saved.
use Rattle.std.proofs.Common.{◌≡◌, ℕ, ◌+◌, ◌-◌, ◌<◌, ◌≤◌, false, Some, None, Option, Ok, refl, sym, ap, ap₂, ◌∙◌, add-one, arith}
use Rattle.std.proofs.lemmas.Bool.{ltb-false, ne_eqb}
use Rattle.stores.specs.declared.card.Card.{Card}
use Rattle.stores.specs.Saved.{put, none_left, one_fewer, saved, Shelf, after}
use Rattle.rules.specs.declared.rules.Rules.{Rules}
use Rattle.model.specs.Runs.{first_card}
use Rattle.register.specs.Openings.{with_first_cards, fewer, too_few}

pub none_saved : (rules : Rules) (place : ℕ → Option Card) → place ≡ with_first_cards rules place 0
unfolding with_first_cards
none_saved rules place = refl

pub none_fewer : (saves : Option ℕ) → saves ≡ fewer saves 0
none_fewer None = refl
none_fewer (Some k) = ap (λ n. Some n) (omega arith)

-- the meanings of a store once the first n replicas have their first cards
abbrev pub shelf_after : Rules → Shelf → ℕ → ℕ → Shelf
shelf_after rules before n next = record { place = with_first_cards rules before.place n; saves = fewer before.saves n; next = next }

-- enough saves are left for the next one
some_left : (saves : Option ℕ) (n replicas : ℕ) → too_few saves replicas ≡ false → n < replicas → none_left (fewer saves n) ≡ false
some_left None n replicas enough more = refl
some_left (Some k) n replicas enough more = let h : replicas ≤ k = ltb-false k replicas enough in ne_eqb (k - n) 0 (λ e. omega arith)

next_fewer : (saves : Option ℕ) (n : ℕ) → one_fewer (fewer saves n) ≡ fewer saves (n + 1)
next_fewer None n = refl
next_fewer (Some k) n = ap (λ m. Some m) (omega arith)

next_card : (rules : Rules) (place : ℕ → Option Card) (n : ℕ) → put (with_first_cards rules place n) n (first_card rules n) ≡ with_first_cards rules place (n + 1)
unfolding with_first_cards
next_card rules place n = ap (with_first_cards rules place) (sym (add-one n))

-- what a save makes of the store after the first n
pub one_more : (rules : Rules) (before : Shelf) (n replicas next : ℕ) → too_few before.saves replicas ≡ false → n < replicas
    → saved (shelf_after rules before n next) n (first_card rules n) ≡ after (Ok tt) (with_first_cards rules before.place (n + 1)) (fewer before.saves (n + 1))
one_more rules before n replicas next enough more =
    let left : none_left (fewer before.saves n) ≡ false = some_left before.saves n replicas enough more in
    let goes : saved (shelf_after rules before n next) n (first_card rules n) ≡ after (Ok tt) (put (with_first_cards rules before.place n) n (first_card rules n)) (one_fewer (fewer before.saves n)) = rw left refl in
    goes ∙ ap₂ (λ p s. after (Ok tt) p s) (next_card rules before.place n) (next_fewer before.saves n)
