-- The refusal left the hall as it was.
use Rattle.std.proofs.Common.{refl, sym, subst}
use Rattle.register.specs.Worlds.{bare}
use Rattle.model.specs.Kinds.{bin_weights}
use Rattle.runner.specs.Slips.{HasSlip}
use Rattle.runner.proofs.Slips.{collect_refused, no_shelf, no_desk}
use Rattle.drive_c.proofs.driven.Driven.collected.Goals as goal

pub lodge-requires : goal.lodge-requires
lodge-requires c =
    let has = collect_refused bin_weights c.requires (c.in-Err.ensures.change no_shelf no_desk) refl in
    subst (λ s. HasSlip (bare c.collect.new.self c.collect.new.tables) s.client s.operation) (sym c.in-Err.ensures.back) has
