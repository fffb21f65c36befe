-- The refusal left the hall as it was.
use Rattle.std.proofs.Common.{refl, sym, subst}
use Rattle.stores.specs.Cabinets.{cabinet_shelf}
use Rattle.sealers.specs.Books.{book_desk}
use Rattle.model.specs.Calls.{collect}
use Rattle.register.specs.Worlds.{world as world_of}
use Rattle.runner.specs.Slips.{HasSlip}
use Rattle.runner.specs.Plays.{stops, goes_on}
use Rattle.model.specs.Kinds.{bin_weights}
use Rattle.runner.specs.Views.{world, Lodges}
use Rattle.runner.proofs.Slips.{collect_refused}
use Rattle.runner.proofs.Steps.{spends, spends_not, as_kept, as_passed}
use Rattle.runner.proofs.running.Running.collect.Goals as goal

pub kept-requires : goal.kept-requires
kept-requires c =
    let self = c.redeem.new.self in
    let change = c.in-Err.ensures.change (cabinet_shelf self.store) (book_desk self.sealer) in
    let has = collect_refused bin_weights c.in_ok-slip.ensures.has change refl in
    subst (λ s. HasSlip (world_of c.collect.new.self c.collect.new.tables (cabinet_shelf self.store) (book_desk self.sealer)).hall s.client s.operation) (sym c.in-Err.ensures.back) has

pub returns-in_err-slip : goal.returns-in_err-slip
returns-in_err-slip c = as_passed _ _ c.from_residual.ensures.1 (c.in_err-slip.ensures.step collect)

pub returns-in-Ok : goal.returns-in-Ok
returns-in-Ok c =
    let self = c.redeem.new.self in
    let redeemed = c.in_ok-slip.ensures.step in
    spends redeemed.0 redeemed.1 collect (goes_on (record { step = c.in-Ok.ensures.change (cabinet_shelf self.store) (book_desk self.sealer); only = refl }) stops)

pub returns-in-Err : goal.returns-in-Err
returns-in-Err c =
    let self = c.redeem.new.self in
    let redeemed = c.in_ok-slip.ensures.step in
    as_kept _ _ c.kept.ensures.fault (spends_not redeemed.0 redeemed.1 collect c.in-Err.kept.fault
    (record { step = c.in-Err.ensures.change (cabinet_shelf self.store) (book_desk self.sealer); only = refl })
    (subst (λ s. Lodges (world_of c.collect.new.self c.collect.new.tables (cabinet_shelf self.store) (book_desk self.sealer)) s.client s.operation (world c.kept.new.self)) c.in-Err.ensures.back c.kept.ensures.step))
