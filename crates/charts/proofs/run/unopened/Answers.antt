-- The title, and then the rows and the refusals.
use Rattle.std.proofs.Common.{◌≡◌, length, ap, ◌∙◌, string_bytes}
use Rattle.std.proofs.lemmas.Result.{IfOk-weaker}
use Rattle.charts.specs.declared.caption.Caption.TheVariants.{Unopened}
use Rattle.charts.specs.declared.mark.Mark.TheVariants.{Title}
use Rattle.charts.specs.Charts.{Layers, layers, empty, over, chart_text}
use Rattle.charts.specs.Watches.{row_of, margined, unopened_text}
use Rattle.charts.proofs.run.unopened.Goals as goal

pub returns : goal.returns
returns c =
    let title : layers c.over.new.self ≡ over empty (Title Unopened) = c.in_ok-over.ensures ∙ ap (λ (l : Layers). over l (Title Unopened)) c.new-chart.ensures in
    let rows = c.row_of-rows.ensures in
    let marks : layers c.margin.new.chart ≡ margined (over empty (Title Unopened)) (row_of (length c.args.refusals.now)) c.args.refusals.now =
    c.in_ok-margin.ensures ∙ (λ i. margined (title i) (rows i) c.args.refusals.now) in
    IfOk-weaker c.drawn.result
    (λ s. string_bytes s ≡ chart_text (record { clients = 0; replicas = 0; rows = c.row_of-rows.result }) (layers c.margin.new.chart))
    (λ s. string_bytes s ≡ unopened_text c.args.refusals.now)
    (λ s is. is ∙ (λ i. chart_text (record { clients = 0; replicas = 0; rows = rows i }) (marks i))) c.drawn.ensures
