-- What was seen of the lines is drawn.
use Rattle.std.proofs.Common.{◌≡◌, IfOk, string_bytes, ap, ◌∙◌, subst}
use Rattle.std.specs.Vec.{vec_items}
use Rattle.runner.specs.Left.{left}
use Rattle.runner.specs.Turns.{Begins}
use Rattle.runner.specs.Views.{world}
use Rattle.charts.specs.Drawings.{drawn_text}
use Rattle.charts.specs.Watches.{opened, seen}
use Rattle.charts.proofs.Drawing.{draws_refusals, draws_run}
use Rattle.charts.proofs.run.opened.Goals as goal

pub returns-in_ok-last-in-Open : goal.returns-in_ok-last-in-Open
returns-in_ok-last-in-Open c =
    let watch = seen c.watch_lines.new.watch in
    draws_run (λ s. string_bytes s) c.drawn.result c.args.asked c.args.number (left c.args.lines.a c.args.lines.b.start) (vec_items c.args.refusals)
    (world c.in-Open.running) (world c.watch_lines.new.running) _ watch c.in_ok-last-in-Open.last (vec_items c.watch_lines.new.refusals)
    (subst (Begins c.args.asked) c.in-Open.is (c.«open».ensures c.in_ok-memory.ensures))
    (c.in_ok-watch-in-Open.ensures ∙ ap (opened c.args.asked) c.row_of.ensures) c.in_ok-last-in-Open.ensures.last c.in_ok-last-in-Open.ensures.sees
    (subst (λ n. IfOk c.drawn.result (λ s. string_bytes s ≡ drawn_text watch n (vec_items c.watch_lines.new.refusals))) c.row_of-in-Open.ensures
    (subst (λ rs. IfOk c.drawn.result (λ s. string_bytes s ≡ drawn_text watch c.row_of-in-Open.result rs)) c.as_slice.ensures.value c.drawn.ensures))

pub returns-in-Refused : goal.returns-in-Refused
returns-in-Refused c =
    draws_refusals (λ s. string_bytes s) c.refused.result c.args.asked c.args.number (left c.args.lines.a c.args.lines.b.start) (vec_items c.args.refusals) c.in-Refused.fault
    (subst (Begins c.args.asked) c.in-Refused.is (c.«open».ensures c.in_ok-memory.ensures)) c.refused.ensures
