-- What is redeemed was looked at before.
use Rattle.std.proofs.Common.{refl, sym, ◌∙◌}
use Rattle.stores.specs.Cabinets.{cabinet_shelf}
use Rattle.sealers.specs.Books.{book_desk}
use Rattle.model.specs.Kinds.{bin_weights}
use Rattle.runner.proofs.Slips.{redeemed_if}
use Rattle.runner.proofs.Steps.{redeems, holds_none}
use Rattle.runner.proofs.running.Running.redeem.Goals as goal

pub returns : goal.returns
returns c =
    let self = c.args.self.now in
    let shelf = cabinet_shelf self.store in
    let desk = book_desk self.sealer in
    let holds = sym c.holds_its_slip.ensures ∙ c.if-not-holds_its_slip.false in
    record {
      has = redeemed_if bin_weights c.args.client c.redeem.result holds (c.redeem.ensures shelf desk);
      step = redeems c.args.client c.redeem.result holds (record { step = c.redeem.ensures shelf desk; only = refl });
    }

pub returns-then-not-holds_its_slip : goal.returns-then-not-holds_its_slip
returns-then-not-holds_its_slip c = record { has = tt; step = holds_none _ c.args.client (sym c.holds_its_slip.ensures ∙ c.if-not-holds_its_slip.true) }
