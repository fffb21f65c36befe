-- Eight bytes are read at once.
use Rattle.std.proofs.Common.{arith}
use Rattle.siphash.proofs.Bytes.{little_8}
use Rattle.siphash.proofs.word.Goals as goal

pub returns : goal.returns
returns c = omega (arith, little_8 c.args.block.now (omega arith), c.from_le_bytes.ensures)
