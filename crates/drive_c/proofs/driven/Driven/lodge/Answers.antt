-- The slip is that of its client's operation, so that it is not handed back.
use Rattle.std.proofs.lemmas.Bool.{true≢false}
use Rattle.model.specs.Kinds.{bin_weights}
use Rattle.runner.proofs.Slips.{lodged, no_shelf, no_desk}
use Rattle.drive_c.proofs.driven.Driven.lodge.Goals as goal

pub drop-requires : goal.drop-requires
drop-requires c = absurd (true≢false (lodged bin_weights c.requires (c.in-Err.ensures.change no_shelf no_desk)))
