-- Each turn takes a line, plays it and looks, and puts down what was refused.
use Rattle.std.proofs.Common.{◌≡◌, ◌+◌, [], ◌∷◌, ◌++◌, length, Some, None, sym, ap, ◌∙◌, subst, append-nil, ⊎_elim, arith}
use Rattle.std.specs.Vec.{vec_items}
use Rattle.refusals.specs.Places.{moved}
use Rattle.fields.specs.Parts.{fields}
use Rattle.script.specs.Commands.{command_in}
use Rattle.runner.specs.Asks.{asks}
use Rattle.runner.specs.Left.{left}
use Rattle.runner.specs.Plays.{Does}
use Rattle.runner.specs.Views.{world}
use Rattle.charts.specs.Looks.{noticed}
use Rattle.charts.specs.Watches.{row_of, seen}
use Rattle.charts.proofs.Drawing.{seeing_on, seeing_all}
use Rattle.charts.proofs.run.watch_lines.Goals as goal

pub loop-line-preserved-in_ok-push : goal.loop-line-preserved-in_ok-push
loop-line-preserved-in_ok-push c =
    let now = left c.loop-line.line-iterator.a c.loop-line.line-iterator.b.start in
    let next = left c.next.new.self.a c.next.new.self.b.start in
    let same = c.in-Some.ensures.steps.1.0 in
    let follows : next.number ≡ now.number + 1 = c.in-Some.ensures.steps.1.1 ∙ ap (λ n. n + 1) same in
    let so_far = vec_items c.loop-line.refusals in
    let before = world c.loop-line.running in
    let between = world c.take.new.running in
    let asked = command_in (fields c.in-Some.line.now) in
    let fault = c.in-Some-2.fault in
    let row = c.row_of.ensures ∙ ap row_of same in
    let told = c.at.ensures ∙ (λ i. moved (c.told.ensures i) (same i)) in
    let many = ap length c.in-Some.ensures.steps.0 in (
      omega (arith, c.loop-line.invariant.0, follows, many),
      c.in-Some.ensures.steps.1.1,
      omega (arith, c.loop-line.invariant.1, c.loop-line.invariant.2, same, many),
      λ after new last p. c.loop-line.invariant.3 after new last
          (seeing_on now next c.in-Some.line.now c.in-Some.ensures.steps.0 follows before between after (Some fault) so_far _ new (seen c.loop-line.watch) (seen c.take.new.watch) last
          (subst (λ f. Does before (asks before.hall asked) f between) c.in-Some-2.is c.in_ok-fault.ensures.does)
          (c.in_ok-fault.ensures.sees ∙ (λ i. noticed (seen c.loop-line.watch) between.hall asked (c.in-Some-2.is i) (row i)))
          (c.in_ok-push.ensures.items ∙ ap (λ x. so_far ++ (x ∷ [])) told) p),
    )

pub loop-line-preserved : goal.loop-line-preserved
loop-line-preserved c =
    let now = left c.loop-line.line-iterator.a c.loop-line.line-iterator.b.start in
    let next = left c.next.new.self.a c.next.new.self.b.start in
    let same = c.in-Some.ensures.steps.1.0 in
    let follows : next.number ≡ now.number + 1 = c.in-Some.ensures.steps.1.1 ∙ ap (λ n. n + 1) same in
    let so_far = vec_items c.loop-line.refusals in
    let before = world c.loop-line.running in
    let between = world c.take.new.running in
    let asked = command_in (fields c.in-Some.line.now) in
    let row = c.row_of.ensures ∙ ap row_of same in
    let many = ap length c.in-Some.ensures.steps.0 in (
      omega (arith, c.loop-line.invariant.0, follows, many),
      c.in-Some.ensures.steps.1.1,
      omega (arith, c.loop-line.invariant.1, c.loop-line.invariant.2, same, many),
      λ after new last p. c.loop-line.invariant.3 after new last
          (seeing_on now next c.in-Some.line.now c.in-Some.ensures.steps.0 follows before between after None so_far so_far new (seen c.loop-line.watch) (seen c.take.new.watch) last
          (subst (λ f. Does before (asks before.hall asked) f between) c.in_default.is c.in_ok-fault.ensures.does)
          (c.in_ok-fault.ensures.sees ∙ (λ i. noticed (seen c.loop-line.watch) between.hall asked (c.in_default.is i) (row i)))
          (sym (append-nil so_far)) p),
    )

pub returns-clause-sees : goal.returns-clause-sees
returns-clause-sees c =
    let now = left c.loop-line.line-iterator.a c.loop-line.line-iterator.b.start in
    let none : now.lines ≡ [] = ⊎_elim (λ h. h.1.0) (λ h. absurd (omega (arith, h.1.0, c.loop-line.invariant.0))) c.in-None.ensures.steps in
    c.loop-line.invariant.3 _ _ _ (seeing_all now none (world c.loop-line.running) (vec_items c.loop-line.refusals) (seen c.loop-line.watch))
