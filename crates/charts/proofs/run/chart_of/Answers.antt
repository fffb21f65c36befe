-- The lines of the script are searched for a set-up, and what follows it is drawn.
use Rattle.std.proofs.Common.{take, [], string_bytes, ap, ◌∙◌, subst}
use Rattle.std.proofs.lemmas.Result.{IfOk-weaker}
use Rattle.std.specs.Vec.{vec_items}
use Rattle.runner.specs.Left.{left}
use Rattle.runner.specs.Texts.{limit, script_lines}
use Rattle.runner.specs.Turns.{Searched}
use Rattle.runner.proofs.Playing.{searched, still}
use Rattle.charts.specs.Watches.{unopened_text}
use Rattle.charts.proofs.Drawing.{charts, charts_none}
use Rattle.charts.proofs.run.chart_of.Goals as goal

pub opened-requires-clause-few : goal.opened-requires-clause-few
opened-requires-clause-few c =
    let text = c.args.text.now in
    let next = left c.first_set_up.new.lines.a c.first_set_up.new.lines.b.start in
    let new = vec_items c.first_set_up.new.refusals in
    still text next new _ _ (subst (λ f. Searched (record { number = 1; lines = script_lines (take limit text) }) [] f next new) c.in-Some.is
    (searched text c.min.result c.min.ensures _ c.numbered-lines.ensures _ c.new-refusals.ensures.items _ next new c.in_ok-number.ensures))

pub opened-requires-clause-follows : goal.opened-requires-clause-follows
opened-requires-clause-follows c =
    let text = c.args.text.now in
    let next = left c.first_set_up.new.lines.a c.first_set_up.new.lines.b.start in
    let new = vec_items c.first_set_up.new.refusals in
    (subst (λ f. Searched (record { number = 1; lines = script_lines (take limit text) }) [] f next new) c.in-Some.is
    (searched text c.min.result c.min.ensures _ c.numbered-lines.ensures _ c.new-refusals.ensures.items _ next new c.in_ok-number.ensures)).follows

pub returns-in-Some : goal.returns-in-Some
returns-in-Some c =
    let lines = script_lines (take limit c.args.text.now) in
    let next = left c.first_set_up.new.lines.a c.first_set_up.new.lines.b.start in
    let new = vec_items c.first_set_up.new.refusals in
    let found = subst (λ f. Searched (record { number = 1; lines = lines }) [] f next new) c.in-Some.is
    (searched c.args.text.now c.min.result c.min.ensures _ c.numbered-lines.ensures _ c.new-refusals.ensures.items _ next new c.in_ok-number.ensures) in
    IfOk-weaker c.opened.result _ _ (λ s drawn. charts lines next new (string_bytes s) c.in-Some.number c.in-Some.asked found drawn) c.opened.ensures

pub returns-in-None : goal.returns-in-None
returns-in-None c =
    let lines = script_lines (take limit c.args.text.now) in
    let next = left c.first_set_up.new.lines.a c.first_set_up.new.lines.b.start in
    let new = vec_items c.first_set_up.new.refusals in
    let none = subst (λ f. Searched (record { number = 1; lines = lines }) [] f next new) c.in-None.is
    (searched c.args.text.now c.min.result c.min.ensures _ c.numbered-lines.ensures _ c.new-refusals.ensures.items _ next new c.in_ok-number.ensures) in
    IfOk-weaker c.unopened.result _ _ (λ s shown. charts_none lines next new (string_bytes s) none (shown ∙ ap unopened_text c.as_slice.ensures.value)) c.unopened.ensures
