use Rattle.std.proofs.Common.{true-eqb, false-eqb}
use Rattle.fields.specs.Printed.{number_back}
use Rattle.fields.proofs.Reading.{no_digit, some_digits}
use Rattle.fields.proofs.numeral.U64Numeral.read.Goals as goal

pub returns-then-is_empty-clause-back : goal.returns-then-is_empty-clause-back
returns-then-is_empty-clause-back c = number_back _ _ (no_digit c.args.field.now (true-eqb _ 0 c.if-is_empty.ensures))

pub returns-clause-back : goal.returns-clause-back
returns-clause-back c = number_back _ _ (some_digits c.args.field.now _ (false-eqb _ 0 c.if-is_empty.ensures) c.digits_read.ensures)
