use Rattle.std.proofs.Common.{rules}
use Rattle.sealers.proofs.Shares.{none_used}
use Rattle.sealers.proofs.book.Book.open.Goals as goal

pub invariant_of-result : goal.invariant_of-result
invariant_of-result c = record { sized = search rules; within = none_used c.args.share }
