-- Each turn takes a line and plays it, and puts down what was refused.
use Rattle.std.proofs.Common.{◌≡◌, ◌+◌, [], ◌∷◌, ◌++◌, length, Some, None, sym, ap, ◌∙◌, subst, append-nil, ⊎_elim, arith}
use Rattle.std.specs.Result.{result_err}
use Rattle.std.specs.Vec.{vec_items}
use Rattle.refusals.specs.Places.{moved}
use Rattle.fields.specs.Parts.{fields}
use Rattle.script.specs.Commands.{command_in}
use Rattle.runner.specs.Faults.{script_refusal}
use Rattle.runner.specs.Asks.{asks}
use Rattle.runner.specs.Left.{left}
use Rattle.runner.specs.Plays.{Does}
use Rattle.runner.specs.Views.{world}
use Rattle.runner.proofs.Turns.{played_on, played_all}
use Rattle.runner.proofs.play.run_lines.Goals as goal

pub loop-line-preserved-in-Continue-1 : goal.loop-line-preserved-in-Continue-1
loop-line-preserved-in-Continue-1 c =
    let now = left c.loop-line.line-iterator.a c.loop-line.line-iterator.b.start in
    let next = left c.next.new.self.a c.next.new.self.b.start in
    let follows : next.number ≡ now.number + 1 = c.in-Some.ensures.steps.1.1 ∙ ap (λ n. n + 1) c.in-Some.ensures.steps.1.0 in
    let so_far = vec_items c.loop-line.refusals in
    let before = world c.loop-line.running in
    let told = c.refusal_of.ensures ∙ ap (moved (script_refusal c.in-Err.fault)) c.in-Some.ensures.steps.1.0 in
    let does = subst (λ r. Does before (asks before.hall (command_in (fields c.in-Some.line.now))) (result_err r) (world c.take.new.self)) c.in-Err.is c.take.ensures in (
      omega (arith, c.loop-line.invariant.0, follows, ap length c.in-Some.ensures.steps.0),
      λ after new p. c.loop-line.invariant.1 after new
          (played_on now next c.in-Some.line.now c.in-Some.ensures.steps.0 follows before (world c.take.new.self) after (Some c.in-Err.fault) so_far _ new
          does (c.in_ok-push.ensures.items ∙ ap (λ x. so_far ++ (x ∷ [])) told) p),
    )

pub loop-line-preserved : goal.loop-line-preserved
loop-line-preserved c =
    let now = left c.loop-line.line-iterator.a c.loop-line.line-iterator.b.start in
    let next = left c.next.new.self.a c.next.new.self.b.start in
    let follows : next.number ≡ now.number + 1 = c.in-Some.ensures.steps.1.1 ∙ ap (λ n. n + 1) c.in-Some.ensures.steps.1.0 in
    let so_far = vec_items c.loop-line.refusals in
    let before = world c.loop-line.running in
    let does = subst (λ r. Does before (asks before.hall (command_in (fields c.in-Some.line.now))) (result_err r) (world c.take.new.self)) c.in_default.is c.take.ensures in (
      omega (arith, c.loop-line.invariant.0, follows, ap length c.in-Some.ensures.steps.0),
      λ after new p. c.loop-line.invariant.1 after new
          (played_on now next c.in-Some.line.now c.in-Some.ensures.steps.0 follows before (world c.take.new.self) after None so_far so_far new
          does (sym (append-nil so_far)) p),
    )

pub returns : goal.returns
returns c =
    let now = left c.loop-line.line-iterator.a c.loop-line.line-iterator.b.start in
    let none : now.lines ≡ [] = ⊎_elim (λ h. h.1.0) (λ h. absurd (omega (arith, h.1.0, c.loop-line.invariant.0))) c.in-None.ensures.steps in
    c.loop-line.invariant.1 _ _ (played_all now none (world c.loop-line.running) (vec_items c.loop-line.refusals))
