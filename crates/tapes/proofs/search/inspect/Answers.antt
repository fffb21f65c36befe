-- The used bytes are whole records within the bytes.
use Rattle.std.proofs.Common.{◌≡◌, ◌%◌, Some, None, arith, rules}
use Rattle.tapes.proofs.Chunks.{inspected_by}
use Rattle.tapes.proofs.search.inspect.Goals as goal

pub returns-in-Some : goal.returns-in-Some
returns-in-Some c =
    let found = rw c.in_ok-bytes.ensures.ok_part at c.get.ensures.lookup in
    let even : c.args.used % 72 ≡ 0 = search (rules, arith) in
    inspected_by c.args.bytes.now c.in_ok-bytes.bytes.now _ c.args.used (Some c.in-Some.record) found.0.1 even found.0.2 c.as_chunks.ensures.front c.in-Some.ensures

pub returns-in-None : goal.returns-in-None
returns-in-None c =
    let found = rw c.in_ok-bytes.ensures.ok_part at c.get.ensures.lookup in
    let even : c.args.used % 72 ≡ 0 = search (rules, arith) in
    inspected_by c.args.bytes.now c.in_ok-bytes.bytes.now _ c.args.used None found.0.1 even found.0.2 c.as_chunks.ensures.front c.in-None.ensures
