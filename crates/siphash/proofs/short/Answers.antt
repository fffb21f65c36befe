-- Four bytes are read at once, and what follows them stands above.
use Rattle.std.proofs.Common.{arith}
use Rattle.siphash.proofs.Bytes.{little_four}
use Rattle.siphash.proofs.short.Goals as goal

pub returns-in-Some : goal.returns-in-Some
returns-in-Some c =
    let h = c.in-Some.ensures.cases in
    let e = little_four c.args.bytes.now c.in-Some.four.now c.in-Some.more.now _ h.0 h.1 c.from_le_bytes.ensures in
    record { value = omega (arith, c.few.ensures.value, c.few.ensures.small); small = omega (arith, c.few.ensures.small) }
