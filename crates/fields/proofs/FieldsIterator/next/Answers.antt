use Rattle.std.proofs.Common.{ap, ◌∙◌}
use Rattle.fields.specs.Left.{fields_in, fields_left}
use Rattle.fields.proofs.Cutting.{first_field, goes_on}
use Rattle.fields.proofs.FieldsIterator.next.Goals as goal

pub returns-clause-steps : goal.returns-clause-steps
returns-clause-steps c = ap fields_in c.in_ok-self.was ∙ first_field _ _ _ c.cut.ensures

pub returns-clause-goes : goal.returns-clause-goes
returns-clause-goes c = goes_on fields_left _ _ _ (ap fields_in c.in_ok-self.was ∙ first_field _ _ _ c.cut.ensures)
