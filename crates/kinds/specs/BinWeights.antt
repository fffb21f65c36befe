-- Bin weights, their words, and the bin weight of a word.
use Rattle.std.specs.Prelude.{ℕ, ℤ, Option}
use Rattle.kinds.specs.declared.word.Word.{Word}
use Rattle.kinds.specs.declared.bin_weight.BinWeight.{BinWeight}
use Rattle.kinds.specs.Partial.{only_if}
use Rattle.kinds.specs.Weights.{in_range, word_of, grams_of, lot_of}

-- the bin weight of these grams and this lot, if they are in range
abbrev pub weight : ℤ → ℕ → Option BinWeight
weight grams lot = only_if (in_range grams lot) (λ e. record { grams = grams; lot = lot; ok = e })

abbrev pub weight_word : BinWeight → Word
weight_word v = record { 0 = word_of v.grams v.lot }

abbrev pub weight_value : Word → Option BinWeight
weight_value w = weight (grams_of w.0) (lot_of w.0)
