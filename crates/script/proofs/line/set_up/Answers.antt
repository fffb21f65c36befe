-- The fields were taken one by one.
use Rattle.std.proofs.Common.{[], ◌∷◌, codes, refl}
use Rattle.fields.specs.Left.{fields_left}
use Rattle.script.specs.Lines.{spelt}
use Rattle.script.proofs.Counting.{all_taken, before}
use Rattle.script.proofs.line.set_up.Goals as goal

pub returns : goal.returns
returns c =
    all_taken spelt _ (codes "S")
    (c.in_ok-next.field-0.now ∷ c.in_ok-next-2.field-0.now ∷ c.in_ok-next-3.field-0.now ∷ c.in_ok-next-4.field-0.now ∷ c.in_ok-next-5.field-0.now ∷ c.in_ok-next-6.field-0.now ∷ c.in_ok-next-7.field-0.now ∷ [])
    (fields_left c.next-7.new.self) _ _ _ refl
    (before c.in_ok-next.ensures.steps (before c.in_ok-next-2.ensures.steps (before c.in_ok-next-3.ensures.steps (before c.in_ok-next-4.ensures.steps (before c.in_ok-next-5.ensures.steps (before c.in_ok-next-6.ensures.steps c.in_ok-next-7.ensures.steps))))))
    c.is_done.ensures c.then_some.ensures
