use Rattle.std.proofs.Common.{ap, ◌∙◌}
use Rattle.std.specs.Option.{ok_or}
use Rattle.wire.specs.Parties.{numbered}
use Rattle.wire.proofs.Made.{single_is}
use Rattle.wire.proofs.party.singles.NumberedTryFromU64.try_from.Goals as goal

pub returns-in-Ok : goal.returns-in-Ok
returns-in-Ok g c =
    let same = c.in-Ok.ensures.1 in
    record { value = ap (λ o. ok_or o (record { 0 = c.args.number })) (single_is _ ∙ ap (numbered _ _) same); exact = same }
