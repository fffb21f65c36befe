-- The whole blocks are taken in, then the last word.
use Rattle.std.proofs.Common.{map, fold, ap, ◌∙◌}
use Rattle.siphash.specs.Sip.{absorbed, finished}
use Rattle.siphash.specs.Words.{little}
use Rattle.siphash.proofs.Blocks.{hash_by_blocks}
use Rattle.siphash.proofs.siphash.Goals as goal

pub returns : goal.returns
returns c =
    let state = c.absorb_all-state.ensures ∙ (λ i. fold absorbed (c.new.ensures i) (map little (c.as_chunks.ensures.front i))) in
    c.finish.ensures
    ∙ ap finished (c.absorb.ensures ∙ (λ i. absorbed (state i) (c.last_word.ensures i)))
    ∙ hash_by_blocks c.args.key.low c.args.key.high c.args.message.now
