-- Each turn prints the row of the line that it takes, and counts it.
use Rattle.std.proofs.Common.{◌≡◌, ◌++◌, [], ◌∷◌, is_ok, string_bytes, sym, ap, ◌∙◌, ⊎_elim, arith}
use Rattle.std.proofs.lemmas.Result.{IfOk-at_ok}
use Rattle.fields.specs.Left.{lines_left}
use Rattle.reports.specs.Reports.{row}
use Rattle.reports.proofs.Rows.{left_as, counted_as, few, one_value, one_refusal, all_done}
use Rattle.reports.proofs.report.Goals as goal
use Rattle.reports.proofs.report.Goals.{then-is_ok, else-is_ok}

pub overflow_add-values : goal.overflow_add-values
overflow_add-values c = record { fits = omega (arith, few c.loop-line.invariant.0, c.well_formed) }

pub overflow_add-refusals : goal.overflow_add-refusals
overflow_add-refusals c = record { fits = omega (arith, few c.loop-line.invariant.0, c.well_formed) }

pub loop-line-preserved : goal.loop-line-preserved
loop-line-preserved c =
    let old = left_as (c.in-Some.line.now ∷ lines_left c.next.new.self.a) c.loop-line.invariant.0 c.in-Some.ensures.steps.0 in
    let number = c.in-Some.ensures.steps.1.0 ∙ c.loop-line.invariant.1 in
    let text = IfOk-at_ok (λ s. string_bytes s ≡ row c.in-Some.number c.reply-answer.result) c.in_ok-row.was c.row_of.ensures in
    let put = c.in_ok-push_str.ensures.bytes in
    let same = c.reply-answer.ensures in
    let out = put ∙ ap (λ bs. string_bytes c.loop-line.out ++ bs) (c.as_str.ensures.value ∙ text ∙ (λ i. row (number i) (same i))) in
    elim c.if-is_ok.branch [
      | then-is_ok w ↦ (counted_as out w.values-is w.refusals-is (one_value old (ap is_ok (sym same) ∙ sym w.if-is_ok.ensures.value)), omega (arith, w.values-is, w.refusals-is, c.loop-line.invariant.1, c.in-Some.ensures.steps.1.1))
      | else-is_ok w ↦ (counted_as out w.values-is w.refusals-is (one_refusal old (ap is_ok (sym same) ∙ sym w.if-is_ok.ensures.value)), omega (arith, w.values-is, w.refusals-is, c.loop-line.invariant.1, c.in-Some.ensures.steps.1.1))
    ]

pub returns : goal.returns
returns c =
    let left : lines_left c.loop-line.line-iterator.a ≡ [] = ⊎_elim (λ h. h.1.0) (λ h. absurd (omega (arith, h.1.0, c.loop-line.invariant.1, few c.loop-line.invariant.0, c.well_formed))) c.in-None.ensures.steps in
    c.in_ok-push_str-2.ensures.bytes ∙ ap (λ bs. string_bytes c.loop-line.out ++ bs) (c.as_str-2.ensures.value ∙ c.in_ok-totals.ensures.ok) ∙ all_done _ _ _ _ (left_as [] c.loop-line.invariant.0 left)
