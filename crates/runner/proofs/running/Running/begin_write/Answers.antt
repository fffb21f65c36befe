-- The client has just begun this operation.
use Rattle.std.proofs.Common.{refl}
use Rattle.stores.specs.Cabinets.{cabinet_shelf}
use Rattle.model.specs.Kinds.{bin_weights}
use Rattle.runner.proofs.Slips.{write_slip}
use Rattle.runner.proofs.Steps.{begins, begins_not, as_passed}
use Rattle.runner.proofs.running.Running.begin_write.Goals as goal

pub lodge-requires : goal.lodge-requires
lodge-requires c =
    let shelf = cabinet_shelf c.args.self.now.store in
    write_slip bin_weights _ _ c.args.client c.args.value (c.in_ok-slip.ensures shelf)

pub returns : goal.returns
returns c =
    let shelf = cabinet_shelf c.args.self.now.store in
    begins c.in_ok-slip.slip.client c.in_ok-slip.slip.operation (record { step = c.in_ok-slip.ensures shelf; only = refl }) c.lodge.ensures

pub returns-in_err-slip : goal.returns-in_err-slip
returns-in_err-slip c =
    let shelf = cabinet_shelf c.args.self.now.store in
    as_passed _ _ c.from_residual.ensures.1 (begins_not _ (record { step = c.in_err-slip.ensures shelf; only = refl }))
