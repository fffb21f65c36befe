-- What a cabinet keeps.
use Rattle.std.specs.Prelude.{ℕ, None, Option, slice_index_or}
use Rattle.stores.specs.declared.cabinet.Cabinet.{Cabinet}
use Rattle.stores.specs.declared.card.Card.{Card}
use Rattle.stores.specs.Saved.{Shelf}

-- the card at a number, and none past the last
abbrev pub kept : Cabinet → ℕ → Option Card
kept c n = slice_index_or c.cards n None

-- saves without end, of which none is refused
abbrev pub cabinet_shelf : Cabinet → Shelf
cabinet_shelf c = record { place = kept c; saves = None; next = 0 }
