-- The client has just begun this operation.
use Rattle.model.specs.Kinds.{bin_weights}
use Rattle.runner.proofs.Slips.{write_slip, no_shelf}
use Rattle.drive_c.proofs.driven.Driven.begin_write.Goals as goal

pub lodge-requires : goal.lodge-requires
lodge-requires g c =
    let has = write_slip bin_weights _ _ c.args.client c.args.value (c.in-Ok.ensures no_shelf) in
    record { tables = has.tables; its = has.its }
