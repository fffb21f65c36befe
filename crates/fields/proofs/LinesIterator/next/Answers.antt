use Rattle.std.proofs.Common.{refl, false-eqb}
use Rattle.fields.specs.Left.{lines_left}
use Rattle.fields.proofs.Cutting.{first_line, goes_on}
use Rattle.fields.proofs.LinesIterator.next.Goals as goal

pub returns-clause-steps : goal.returns-clause-steps
returns-clause-steps c = first_line _ _ _ _ _ (false-eqb _ 0 c.if-is_empty.ensures) c.cut.ensures c.unwrap_or-self.ensures refl

pub returns-clause-goes : goal.returns-clause-goes
returns-clause-goes c = goes_on lines_left _ _ _ (first_line _ _ _ _ _ (false-eqb _ 0 c.if-is_empty.ensures) c.cut.ensures c.unwrap_or-self.ensures refl)
