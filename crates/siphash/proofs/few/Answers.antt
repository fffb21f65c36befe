-- Up to three bytes, read one by one.
use Rattle.std.proofs.Common.{arith}
use Rattle.siphash.proofs.Bytes.{little_0, little_1, little_2, little_3}
use Rattle.siphash.proofs.few.Goals as goal

pub returns-in-empty-clause-value : goal.returns-in-empty-clause-value
returns-in-empty-clause-value c = omega (arith, little_0 c.args.bytes.now (omega arith))

pub returns-in-len1-clause-value : goal.returns-in-len1-clause-value
returns-in-len1-clause-value c = omega (arith, little_1 c.args.bytes.now (omega arith), c.from.ensures)

pub returns-in-len2-clause-value : goal.returns-in-len2-clause-value
returns-in-len2-clause-value c = omega (arith, little_2 c.args.bytes.now (omega arith), c.from-in-len2.ensures, c.from-in-len2-2.ensures)

pub returns-in-len3-up-clause-value : goal.returns-in-len3-up-clause-value
returns-in-len3-up-clause-value c = omega (arith, little_3 c.args.bytes.now (omega arith), c.from-in-len3-up.ensures, c.from-in-len3-up-2.ensures, c.from-in-len3-up-3.ensures)
