-- The slip is that of its client's operation, so that it is not handed back.
use Rattle.std.proofs.Common.{refl}
use Rattle.std.proofs.lemmas.Bool.{true≢false}
use Rattle.stores.specs.Cabinets.{cabinet_shelf}
use Rattle.sealers.specs.Books.{book_desk}
use Rattle.model.specs.Kinds.{bin_weights}
use Rattle.runner.specs.Plays.{stops, goes_on}
use Rattle.runner.proofs.Slips.{lodged}
use Rattle.runner.proofs.running.Running.lodge.Goals as goal

pub drop-requires : goal.drop-requires
drop-requires c =
    let self = c.args.self.now in
    absurd (true≢false (lodged bin_weights c.requires (c.in-Err.ensures.change (cabinet_shelf self.store) (book_desk self.sealer))))

pub returns-in-Ok : goal.returns-in-Ok
returns-in-Ok c =
    let self = c.args.self.now in
    λ fault. goes_on (record { step = c.lodge.ensures.change (cabinet_shelf self.store) (book_desk self.sealer); only = refl }) stops

pub returns-in-Err : goal.returns-in-Err
returns-in-Err c =
    let self = c.args.self.now in
    λ fault. goes_on (record { step = c.in-Err.ensures.change (cabinet_shelf self.store) (book_desk self.sealer); only = refl }) stops
