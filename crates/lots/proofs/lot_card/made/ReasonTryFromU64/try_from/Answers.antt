-- The reason that is made has the number given.
use Rattle.std.proofs.Common.{◌≡◌, ap, ◌∙◌, rules}
use Rattle.std.specs.Option.{ok_or}
use Rattle.kinds.specs.declared.fault.KindFault.TheVariants.{NoValue}
use Rattle.lots.specs.LotCards.{reason_of}
use Rattle.lots.specs.CardWords.{reason_is}
use Rattle.lots.proofs.lot_card.made.ReasonTryFromU64.try_from.Goals as goal

pub returns : goal.returns
returns c =
    let same : c.in_ok-code.code ≡ c.args.code = search rules in
    ap (λ o. ok_or o NoValue) (reason_is _ ∙ ap reason_of same)
