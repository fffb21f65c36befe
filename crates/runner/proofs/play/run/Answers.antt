-- The lines of the script are searched for a set-up, and what follows it is played.
use Rattle.std.proofs.Common.{take, [], string_bytes, ap, ◌∙◌, subst}
use Rattle.std.proofs.lemmas.Result.{IfOk-weaker}
use Rattle.std.specs.Vec.{vec_items}
use Rattle.script.specs.Reports.{printed}
use Rattle.runner.specs.Left.{left}
use Rattle.runner.specs.Texts.{limit, script_lines}
use Rattle.runner.specs.Turns.{Searched}
use Rattle.runner.proofs.Playing.{searched, shows, shows_none, still}
use Rattle.runner.proofs.play.run.Goals as goal

pub play-requires : goal.play-requires
play-requires c =
    let text = c.args.text.now in
    let next = left c.first_set_up.new.lines.a c.first_set_up.new.lines.b.start in
    let new = vec_items c.first_set_up.new.refusals in
    still text next new _ _ (subst (λ f. Searched (record { number = 1; lines = script_lines (take limit text) }) [] f next new) c.in-Some.is
    (searched text c.min.result c.min.ensures _ c.numbered-lines.ensures _ c.new-refusals.ensures.items _ next new c.in_ok-number.ensures))

pub returns-in-Some : goal.returns-in-Some
returns-in-Some c =
    let lines = script_lines (take limit c.args.text.now) in
    let next = left c.first_set_up.new.lines.a c.first_set_up.new.lines.b.start in
    let new = vec_items c.first_set_up.new.refusals in
    let found = subst (λ f. Searched (record { number = 1; lines = lines }) [] f next new) c.in-Some.is
    (searched c.args.text.now c.min.result c.min.ensures _ c.numbered-lines.ensures _ c.new-refusals.ensures.items _ next new c.in_ok-number.ensures) in
    IfOk-weaker c.play.result _ _ (λ s does. shows lines c.in-Some.number c.in-Some.asked next new found (string_bytes s) does) c.play.ensures

pub returns-in-None : goal.returns-in-None
returns-in-None c =
    let lines = script_lines (take limit c.args.text.now) in
    let next = left c.first_set_up.new.lines.a c.first_set_up.new.lines.b.start in
    let new = vec_items c.first_set_up.new.refusals in
    let none = subst (λ f. Searched (record { number = 1; lines = lines }) [] f next new) c.in-None.is
    (searched c.args.text.now c.min.result c.min.ensures _ c.numbered-lines.ensures _ c.new-refusals.ensures.items _ next new c.in_ok-number.ensures) in
    IfOk-weaker c.report.result _ _ (λ s shown. shows_none lines next new (string_bytes s) none (shown ∙ ap (printed [] []) c.as_slice.ensures.value)) c.report.ensures
