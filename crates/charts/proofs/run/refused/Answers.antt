-- The set-up and all lines behind it were refused.
use Rattle.std.proofs.Common.{ap, ◌∙◌}
use Rattle.std.proofs.lemmas.Result.{IfOk-weaker}
use Rattle.charts.specs.Watches.{unopened_text}
use Rattle.charts.proofs.run.refused.Goals as goal

pub returns : goal.returns
returns c = IfOk-weaker c.unopened.result _ _ (λ s shown. shown ∙ ap unopened_text (c.as_slice.ensures.value ∙ c.in_ok-refuse_all.ensures c.requires)) c.unopened.ensures
