-- How a bin weight is printed.
use Rattle.std.specs.Prelude.{ℕ, List, ◌++◌, codes, decimal}
use Rattle.std.specs.Fmt.{signed_decimal}
use Rattle.kinds.specs.declared.bin_weight.BinWeight.{BinWeight}

abbrev pub weight_text : BinWeight → List ℕ
weight_text v = signed_decimal v.grams ++ (codes " g, lot " ++ decimal v.lot)
