-- The rows of what is printed, each with its line end.
use Rattle.std.specs.Prelude.{ℕ, Bool, true, false, cond, ◌||◌, List, ◌++◌, is_some, Some, None, codes, decimal, Option, unwrap_or}
use Rattle.std.specs.Fmt.{signed_decimal}
use Rattle.kinds.specs.declared.word.Word.{Word}
use Rattle.kinds.specs.declared.bin_weight.BinWeight.{BinWeight}
use Rattle.kinds.specs.BinWeights.{weight_value}
use Rattle.refusals.specs.declared.Refusal.{Refusal}
use Rattle.refusals.specs.Shown.{refusal_text}
use Rattle.wire.specs.declared.pair.Pair.{Pair}
use Rattle.wire.specs.declared.pair.Configuration.{Configuration}
use Rattle.halls.specs.declared.operation.Operation.{Operation}

-- epoch and set
abbrev pub configuration_row : Configuration → List ℕ
configuration_row c = decimal c.epoch ++ (codes " " ++ (decimal c.set.0 ++ codes "\n"))

-- a write or a read
abbrev pub letter_text : Bool → List ℕ
letter_text true = codes "W"
letter_text false = codes "R"

abbrev pub weight_numbers : Option BinWeight → List ℕ
weight_numbers None = codes "0 0"
weight_numbers (Some v) = signed_decimal v.grams ++ (codes " " ++ decimal v.lot)

-- the grams and the lot of a word, zeros where it is no bin weight's
abbrev pub value_text : Word → List ℕ
value_text w = weight_numbers (weight_value w)

-- count, writer, grams, lot
abbrev pub pair_text : Pair → List ℕ
pair_text p = decimal p.stamp.count ++ (codes " " ++ (decimal p.stamp.writer ++ (codes " " ++ value_text p.word)))

-- an unfinished read has none of these
abbrev pub last_four : Operation → List ℕ
last_four op = cond (op.writes || is_some op.ended) (pair_text op.pair) (codes "0 0 0 0")

-- client, letter, when it began and when it ended (0 for not yet), and its pair
abbrev pub operation_row : Operation → List ℕ
operation_row op =
    decimal op.client ++ (codes " " ++ (letter_text op.writes ++ (codes " " ++ (decimal op.began ++ (codes " "
    ++ (decimal (unwrap_or op.ended 0) ++ (codes " " ++ (last_four op ++ codes "\n"))))))))

-- line, number and layer
abbrev pub refusal_row : Refusal → List ℕ
refusal_row x = refusal_text x ++ codes "\n"
