-- The day that is made has the number given.
use Rattle.std.proofs.Common.{◌≡◌, ap, ◌∙◌, rules}
use Rattle.std.specs.Option.{ok_or}
use Rattle.kinds.specs.declared.fault.KindFault.TheVariants.{NoValue}
use Rattle.lots.specs.LotCards.{day_of}
use Rattle.lots.specs.CardWords.{day_is}
use Rattle.lots.proofs.lot_card.made.DayTryFromU64.try_from.Goals as goal

pub returns : goal.returns
returns c =
    let same : c.in_ok-number.number ≡ c.args.number = search rules in
    ap (λ o. ok_or o NoValue) (day_is _ ∙ ap day_of same)
