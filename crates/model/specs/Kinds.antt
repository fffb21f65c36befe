-- The bin weight as a record kind.
use Rattle.kinds.specs.declared.bin_weight.BinWeight.{BinWeight}
use Rattle.kinds.specs.BinWeights.{weight_word, weight_value}
use Rattle.kinds.specs.Kinds.{RecordKind}

abbrev pub bin_weights : RecordKind BinWeight
bin_weights = record { number = 1; word = weight_word; value = weight_value }
