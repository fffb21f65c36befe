-- The last record is the first of those in the reverse order.
use Rattle.std.proofs.Common.{rules, ◌==◌, slice_index}
use Rattle.tapes.specs.Records.{decoded}
use Rattle.tapes.proofs.Chunks.{last_by}
use Rattle.tapes.proofs.search.last_record.Goals as goal

pub returns-clause-value : goal.returns-clause-value
unfolding decoded
returns-clause-value c =
    last_by (λ r. c.args.number == slice_index r 4) c.args.records.now c.rposition.result (search rules)
