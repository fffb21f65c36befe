-- The signs of the legend: what each means, and its line.
use Rattle.std.specs.Prelude.{ℕ, List, codes}
use Rattle.charts.specs.declared.sign.Sign.{Sign}
use Rattle.charts.specs.declared.sign.Sign.TheVariants.{Handed, Lied, Lost, Refused, Epoch, Operation, Unfinished}

abbrev pub meaning : Sign → List ℕ
meaning Handed = codes "an entry, by its kind and number: posted where the arrow begins, handed over where it ends"
meaning Lied = codes "the same, posted by a replica that may lie"
meaning Lost = codes "an entry that was posted, and that nobody was handed"
meaning Refused = codes "refused, by number and layer; on a lane: what came there was refused"
meaning Epoch = codes "the epoch that a party is in, from the row on that has its number"
meaning Operation = codes "an operation from its begin to its end: R reads, W writes, and the weight"
meaning Unfinished = codes "an operation that has no end: it was called off, or is still open"

abbrev pub line_of : Sign → ℕ
line_of Handed = 0
line_of Lied = 1
line_of Lost = 2
line_of Refused = 3
line_of Epoch = 4
line_of Operation = 5
line_of Unfinished = 6
