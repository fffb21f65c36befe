use Rattle.std.proofs.Common.{◌≡◌, get_or, pos, ◌-ℤ◌, neg_ℤ, Some, ap, ◌∙◌, arith, to_z, of_z}
use mir.Syntax.{w128}
use Rattle.std.proofs.lemmas.List.{take_rest}
use Rattle.std.proofs.lemmas.Int.{ints}
use Rattle.fields.specs.Numbers.{kept, fits_i64}
use Rattle.fields.specs.Printed.{signed_back}
use Rattle.fields.proofs.Signs.{minus}
use Rattle.fields.proofs.numeral.I64Numeral.read.Goals as goal

pub returns-in_err-read-in-45-clause-back : goal.returns-in_err-read-in-45-clause-back
returns-in_err-read-in-45-clause-back c =
    let first : get_or c.args.field.now 0 0 ≡ 45 = omega arith in
    signed_back _ _ (c.from_residual.ensures ∙ minus c.args.field.now _ first (simp take_rest at c.in_err-read-in-45.ensures.value))

pub returns-in_ok-read-in-45-clause-back : goal.returns-in_ok-read-in-45-clause-back
returns-in_ok-read-in-45-clause-back c =
    let first : get_or c.args.field.now 0 0 ≡ 45 = omega arith in
    let same : to_z w128 (of_z w128 (pos 0 -ℤ to_z w128 (of_z w128 c.from.result))) ≡ neg_ℤ (pos c.in_ok-read-in-45.field-0) = omega (arith, ints) in
    signed_back _ _ (c.narrowed.ensures ∙ ap (λ z. kept fits_i64 (Some z)) same ∙ minus c.args.field.now _ first (simp take_rest at c.in_ok-read-in-45.ensures.value))
