-- Each turn takes a line, which is the first set-up or is refused.
use Rattle.std.proofs.Common.{◌≡◌, ◌+◌, [], ◌∷◌, ◌++◌, length, Some, None, sym, ap, ◌∙◌, subst, ⊎_elim, arith}
use Rattle.std.specs.Vec.{vec_items}
use Rattle.refusals.specs.Places.{moved}
use Rattle.runner.specs.declared.fault.ScriptFault.TheVariants.{Unreadable}
use Rattle.runner.specs.Faults.{script_refusal}
use Rattle.runner.specs.Left.{left}
use Rattle.runner.specs.Turns.{Found}
use Rattle.runner.proofs.Turns.{searched_on, found_here, searched_all}
use Rattle.runner.proofs.play.first_set_up.Goals as goal

pub returns-in-Some-set_up : goal.returns-in-Some-set_up
returns-in-Some-set_up c =
    let now = left c.loop-line.lines.a c.loop-line.lines.b.start in
    let next = left c.next.new.self.a c.next.new.self.b.start in
    let follows : next.number ≡ now.number + 1 = c.in-Some.ensures.steps.1.1 ∙ ap (λ n. n + 1) c.in-Some.ensures.steps.1.0 in
    let so_far = vec_items c.loop-line.refusals in
    let asked = c.in-Some-set_up.asked in
    λ few. (c.loop-line.invariant few).1 (Some (c.in-Some.number, asked)) next so_far
    (subst (λ n. Found now so_far n asked next so_far) (sym c.in-Some.ensures.steps.1.0)
    (found_here now next c.in-Some.line.now c.in-Some.ensures.steps.0 follows so_far asked (sym c.set_up.ensures ∙ c.in-Some-set_up.is)))

pub loop-line-init : goal.loop-line-init
loop-line-init c = λ few. (few, λ found next new s. s)

pub loop-line-preserved : goal.loop-line-preserved
loop-line-preserved c few =
    let so = c.loop-line.invariant few in
    let now = left c.loop-line.lines.a c.loop-line.lines.b.start in
    let next = left c.next.new.self.a c.next.new.self.b.start in
    let follows : next.number ≡ now.number + 1 = c.in-Some.ensures.steps.1.1 ∙ ap (λ n. n + 1) c.in-Some.ensures.steps.1.0 in
    let so_far = vec_items c.loop-line.refusals in
    let told = c.refusal_of.ensures ∙ ap (moved (script_refusal Unreadable)) c.in-Some.ensures.steps.1.0 in (
      omega (arith, so.0, follows, ap length c.in-Some.ensures.steps.0),
      λ found last new s. so.1 found last new
          (searched_on now next c.in-Some.line.now c.in-Some.ensures.steps.0 follows so_far _ new found last
          (sym c.set_up.ensures ∙ c.in_default-set_up.is) (c.in_ok-push.ensures.items ∙ ap (λ x. so_far ++ (x ∷ [])) told) s),
    )

pub returns : goal.returns
returns c few =
    let so = c.loop-line.invariant few in
    let now = left c.loop-line.lines.a c.loop-line.lines.b.start in
    let none : now.lines ≡ [] = ⊎_elim (λ h. h.1.0) (λ h. absurd (omega (arith, h.1.0, so.0))) c.in_default.ensures.steps in
    so.1 None now (vec_items c.loop-line.refusals) (searched_all now none (vec_items c.loop-line.refusals) now)
