-- The last eight bytes of a message without those of its whole blocks.
use Rattle.std.proofs.Common.{◌-◌, ◌*◌, ◌/◌, ◌%◌, ◌^◌, length, arith}
use Rattle.std.proofs.lemmas.Nat.{shr_le}
use Rattle.siphash.proofs.Bytes.{little_behind}
use Rattle.siphash.proofs.tail.Goals as goal

pub returns-in-Some : goal.returns-in-Some
returns-in-Some c =
    let bs = c.args.message.now in
    let h = c.in-Some.ensures.cases in
    record {
      value = little_behind bs c.in-Some.eight.now c.word.result h.0 (λ i. (c.type_inv.message i).fits) h.1.same c.word.ensures;
      small = omega (arith, shr_le (c.word.result / 2 ^ 8) (56 - 8 * (length bs % 8)), c.word.type_inv);
    }
