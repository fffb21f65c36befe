-- The value is the one that these grams and this lot make, if they make one.
use Rattle.std.proofs.Common.{◌≡◌, ap, ◌∙◌, arith, w64, to_z, of_z}
use Rattle.std.specs.Option.{ok_or}
use Rattle.std.proofs.lemmas.Int.{ints}
use Rattle.kinds.specs.declared.fault.KindFault.TheVariants.{NoValue}
use Rattle.kinds.specs.BinWeights.{weight}
use Rattle.runner.specs.Views.{world}
use Rattle.runner.proofs.Steps.{valueless}
use Rattle.runner.proofs.running.Running.write.Goals as goal

pub returns-in_err-value : goal.returns-in_err-value
returns-in_err-value c =
    let grams : to_z w64 (of_z w64 c.args.grams) ≡ c.args.grams = grind (arith, ints) in
    valueless (world c.args.self.now) c.args.client (weight c.args.grams c.args.lot) _ _ _
    (c.new.ensures ∙ ap (λ z. ok_or (weight z c.args.lot) NoValue) grams) c.in_err-value.was c.from_residual.ensures.1
