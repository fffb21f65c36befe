-- One call, and its answer is the line's.
use Rattle.std.proofs.Common.{refl}
use Rattle.stores.specs.Cabinets.{cabinet_shelf}
use Rattle.sealers.specs.Books.{book_desk}
use Rattle.runner.proofs.Steps.{ends}
use Rattle.runner.proofs.running.Running.meddle.Goals as goal

pub returns : goal.returns
returns c =
    let self = c.args.self.now in
    ends c.meddle.result (record { step = c.meddle.ensures (cabinet_shelf self.store) (book_desk self.sealer); only = refl })
