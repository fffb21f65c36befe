use Rattle.wire.proofs.Made.{replica_below}
use Rattle.tapes.specs.Tapes.{lent}
use Rattle.tapes.proofs.Appends.{saved_by}
use Rattle.tapes.proofs.tape.TapeStore.save.Goals as goal

pub returns : goal.returns
returns c = record {
  meaning = saved_by (lent c.args.self.now) c.args.replica.number c.args.card (replica_below c.args.replica) c.append.result (lent c.append.new.self) c.append.ensures.change c.append.ensures.fits;
  change = c.append.ensures.change;
  slice = c.append.ensures.slice;
}
