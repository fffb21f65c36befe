use Rattle.std.proofs.Common.{◌≡◌, ◌/◌, min, length, ap, ◌∙◌, arith}
use Rattle.std.specs.Simd.{first_chunks}
use Rattle.tapes.proofs.Chunks.{chunks_taken}
use Rattle.tapes.proofs.tape.Tape.records.Goals as goal

pub returns-clause-value : goal.returns-clause-value
returns-clause-value c =
    let xs = c.args.self.now.bytes.now in
    let used = c.args.self.now.used in
    let within : used / 72 ≡ min used (length xs) / 72 = omega (arith, c.args.self.now.fits) in
    c.as_chunks.ensures.front ∙ chunks_taken used xs (omega (arith, c.args.self.now.fits)) ∙ ap (λ k. first_chunks 72 k xs) within
