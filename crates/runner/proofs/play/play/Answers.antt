-- Roll and log are what the lines have left.
use Rattle.std.proofs.Common.{◌≡◌, IfOk, string_bytes, subst}
use Rattle.std.specs.Vec.{vec_items}
use Rattle.script.specs.Reports.{printed}
use Rattle.runner.specs.Left.{left}
use Rattle.runner.specs.Turns.{Begins}
use Rattle.runner.specs.Views.{world}
use Rattle.runner.proofs.Playing.{goes, goes_not}
use Rattle.runner.proofs.play.play.Goals as goal

pub returns-in_ok-run_lines-in-Open : goal.returns-in_ok-run_lines-in-Open
returns-in_ok-run_lines-in-Open c =
    let last = world c.run_lines.new.running in
    goes (λ s. string_bytes s) c.report.result c.args.asked c.args.number (left c.args.lines.a c.args.lines.b.start) (vec_items c.args.refusals)
    (world c.in-Open.running) last (vec_items c.run_lines.new.refusals)
    (subst (Begins c.args.asked) c.in-Open.is (c.«open».ensures c.in_ok-memory.ensures)) c.in_ok-run_lines-in-Open.ensures
    (subst (λ rs. IfOk c.report.result (λ s. string_bytes s ≡ printed last.hall.roll.list last.hall.log.list rs)) c.as_slice.ensures.value c.report.ensures)

pub returns-in-Refused : goal.returns-in-Refused
returns-in-Refused c =
    goes_not (λ s. string_bytes s) c.unopened.result c.args.asked c.args.number (left c.args.lines.a c.args.lines.b.start) (vec_items c.args.refusals) c.in-Refused.fault
    (subst (Begins c.args.asked) c.in-Refused.is (c.«open».ensures c.in_ok-memory.ensures)) c.unopened.ensures
