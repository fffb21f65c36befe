-- The client has just begun this operation.
use Rattle.model.specs.Kinds.{bin_weights}
use Rattle.runner.proofs.Slips.{read_slip, no_shelf}
use Rattle.drive_c.proofs.driven.Driven.begin_read.Goals as goal

pub lodge-requires : goal.lodge-requires
lodge-requires g c =
    let has = read_slip bin_weights _ _ c.args.client (c.in-Ok.ensures no_shelf) in
    record { tables = has.tables; its = has.its }
