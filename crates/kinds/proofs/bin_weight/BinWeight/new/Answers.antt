-- The weight that is made has the numbers given.
use Rattle.std.proofs.Common.{◌≡◌, refl, ap, arith, w32, w64, to_z, of_z}
use Rattle.std.specs.Option.{ok_or}
use Rattle.std.proofs.lemmas.Int.{ints}
use Rattle.kinds.specs.declared.fault.KindFault.TheVariants.{NoValue}
use Rattle.kinds.specs.WeightWords.{weight_is}
use Rattle.kinds.proofs.bin_weight.BinWeight.new.Goals as goal

pub returns : goal.returns
returns c =
    let g : to_z w32 (of_z w32 (to_z w64 (of_z w64 c.args.grams))) ≡ c.args.grams = grind (arith, ints) in
    ap (λ o. ok_or o NoValue) (weight_is _ _ _ g refl)
