-- From the highest number down, each number is a member that is marked, or is passed over.
use Rattle.std.proofs.Common.{◌≡◌, ◌-◌, sym, ap, ◌∙◌, arith}
use Rattle.register.specs.Views.{settings}
use Rattle.runner.specs.Openings.{marks, unless_refused}
use Rattle.runner.proofs.Marks.{nothing, passed_over, one_marked, refused_here}
use Rattle.runner.proofs.opening.mark.Goals as goal

pub loop-number-preserved-in-Continue-1 : goal.loop-number-preserved-in-Continue-1
loop-number-preserved-in-Continue-1 c =
    let set = c.args.set.0 in
    let n = c.loop-number.number in
    let before = settings c.loop-number.setup in
    let after = settings c.mark.new.self in
    let one = one_marked set before n (record { answer = c.mark.result; settings = after }) c.loop-number-test.true c.if-set-number-eq1.true c.mark.ensures in
    sym (one ∙ ap (λ r. unless_refused r after (marks (n - 1) set)) c.in_ok-mark.was) ∙ c.loop-number.invariant

pub returns-in_err-mark : goal.returns-in_err-mark
returns-in_err-mark c =
    let set = c.args.set.0 in
    let n = c.loop-number.number in
    let before = settings c.loop-number.setup in
    let after = settings c.mark.new.self in
    let one = one_marked set before n (record { answer = c.mark.result; settings = after }) c.loop-number-test.true c.if-set-number-eq1.true c.mark.ensures in
    refused_here _ _ _ after (marks (n - 1) set) c.in_err-mark.was c.from_residual.ensures.1 ∙ sym one ∙ c.loop-number.invariant

pub loop-number-preserved : goal.loop-number-preserved
loop-number-preserved c =
    sym (passed_over c.args.set.0 (settings c.loop-number.setup) c.loop-number.number c.loop-number-test.true c.if-set-number-eq1.false) ∙ c.loop-number.invariant

pub returns : goal.returns
returns c =
    let none : c.loop-number.number ≡ 0 = omega (arith, c.loop-number-test.false) in
    sym (nothing c.args.set.0 (settings c.loop-number.setup)) ∙ ap (λ n. marks n c.args.set.0 (settings c.loop-number.setup)) (sym none) ∙ c.loop-number.invariant
