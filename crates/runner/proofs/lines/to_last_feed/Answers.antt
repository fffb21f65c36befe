-- From the end, what is no line feed is left out, and the first line feed that is met is the last of the text.
use Rattle.std.proofs.Common.{◌≡◌, take, sym, ap, ◌∙◌, arith}
use Rattle.runner.specs.Texts.{to_last_feed}
use Rattle.runner.proofs.Texts.{left_out, ends}
use Rattle.runner.proofs.lines.to_last_feed.Goals as goal
use Rattle.runner.proofs.lines.to_last_feed.Goals.{then-loop-end-test+else-text-end-ne10, else-loop-end-test}

pub loop-end-preserved : goal.loop-end-preserved
loop-end-preserved c =
    let text = c.args.text.now in
    let n = c.loop-end.end in
    (omega (arith, c.loop-end.invariant.0), sym (left_out text n c.loop-end-test.true c.loop-end.invariant.0 c.if-text-end-ne10.true) ∙ c.loop-end.invariant.1)

pub returns : goal.returns
returns c =
    let text = c.args.text.now in
    let n = c.loop-end.end in
    elim c.loop-end-test.branch [
      | then-loop-end-test+else-text-end-ne10 w ↦ sym (ends text n w.loop-end-test.true c.loop-end.invariant.0 w.if-text-end-ne10.false) ∙ c.loop-end.invariant.1
      | else-loop-end-test w ↦ let none : n ≡ 0 = omega (arith, w.loop-end-test.false) in
          ap (λ m. take m text) none ∙ ap (λ m. to_last_feed (take m text)) (sym none) ∙ c.loop-end.invariant.1
    ]
