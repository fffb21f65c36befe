-- Each turn takes a line and refuses it.
use Rattle.std.proofs.Common.{◌≡◌, ◌+◌, [], ◌∷◌, ◌++◌, length, ap, ◌∙◌, ⊎_elim, arith}
use Rattle.std.specs.Vec.{vec_items}
use Rattle.refusals.specs.Places.{moved}
use Rattle.runner.specs.declared.fault.ScriptFault.TheVariants.{Unreadable}
use Rattle.runner.specs.Faults.{script_refusal}
use Rattle.runner.specs.Left.{left}
use Rattle.runner.proofs.Turns.{unread_on, unread_all}
use Rattle.runner.proofs.play.refuse_lines.Goals as goal

pub loop-number-preserved : goal.loop-number-preserved
loop-number-preserved c few =
    let so = c.loop-number.invariant few in
    let now = left c.loop-number.number-iterator.a c.loop-number.number-iterator.b.start in
    let next = left c.next.new.self.a c.next.new.self.b.start in
    let follows : next.number ≡ now.number + 1 = c.in-Some.ensures.steps.1.1 ∙ ap (λ n. n + 1) c.in-Some.ensures.steps.1.0 in
    let so_far = vec_items c.loop-number.refusals in
    let told = c.refusal_of.ensures ∙ ap (moved (script_refusal Unreadable)) c.in-Some.ensures.steps.1.0 in (
      omega (arith, so.0, follows, ap length c.in-Some.ensures.steps.0),
      λ new all. so.1 new
          (unread_on now next _ c.in-Some.ensures.steps.0 follows so_far _ new (c.in_ok-push.ensures.items ∙ ap (λ x. so_far ++ (x ∷ [])) told) all),
    )

pub returns : goal.returns
returns c few =
    let so = c.loop-number.invariant few in
    let now = left c.loop-number.number-iterator.a c.loop-number.number-iterator.b.start in
    let none : now.lines ≡ [] = ⊎_elim (λ h. h.1.0) (λ h. absurd (omega (arith, h.1.0, so.0))) c.in-None.ensures.steps in
    so.1 _ (unread_all now none (vec_items c.loop-number.refusals))
