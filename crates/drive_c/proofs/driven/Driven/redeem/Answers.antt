-- What is redeemed was looked at before.
use Rattle.std.proofs.Common.{sym, ◌∙◌}
use Rattle.model.specs.Kinds.{bin_weights}
use Rattle.runner.proofs.Slips.{redeemed_if, no_shelf, no_desk}
use Rattle.drive_c.proofs.driven.Driven.redeem.Goals as goal

pub returns-clause-slip : goal.returns-clause-slip
returns-clause-slip c =
    redeemed_if bin_weights c.args.client c.redeem.result (sym c.holds_its_slip.ensures ∙ c.if-not-holds_its_slip.false) (c.redeem.ensures no_shelf no_desk)
