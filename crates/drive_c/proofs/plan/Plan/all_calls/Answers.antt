-- The calls of an opening stop at the largest number, and so do those of all.
use Rattle.std.proofs.Common.{◌≡◌, ◌*◌, ◌∙◌, ap, rules}
use Rattle.drive_c.specs.Plans.{calls_of_opening}
use Rattle.drive_c.specs.Tallies.{more}
use Rattle.drive_c.proofs.Products.{more_times}
use Rattle.drive_c.proofs.plan.Plan.all_calls.Goals as goal

pub returns : goal.returns
returns c =
    let same : c.from.result ≡ c.args.self.now.openings = search rules in
    c.saturating_mul.ensures
    ∙ (more_times c.from.result (calls_of_opening c.args.self.now) c.calls.result c.calls.ensures
    ∙ ap (λ n. more 0 (n * calls_of_opening c.args.self.now)) same)
