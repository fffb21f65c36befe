-- How a lot card is printed.
use Rattle.std.specs.Prelude.{ℕ, List, ◌++◌, codes, decimal}
use Rattle.lots.specs.declared.lot_card.LotCard.{LotCard}
use Rattle.lots.specs.declared.lot_card.LotCard.TheVariants.{Quarantined, Released, Blocked}

abbrev pub card_text : LotCard → List ℕ
card_text (Quarantined since) = codes "quarantined since day " ++ decimal since.number
card_text (Released until) = codes "released until day " ++ decimal until.number
card_text (Blocked reason since) = codes "blocked for reason " ++ (decimal reason.code ++ (codes " since day " ++ decimal since.number))
