use Rattle.std.proofs.Common.{◌∙◌, rules}
use Rattle.fields.proofs.Reading.{goes_on, stops, ends}
use Rattle.fields.proofs.numeral.digits_read.Goals as goal

pub returns-in_err-value : goal.returns-in_err-value
returns-in_err-value c =
    c.from_residual.ensures ∙ stops _ c.loop-byte.value _ c.loop-byte.invariant.0 c.loop-byte-test.true c.in_err-value.ensures

pub loop-byte-preserved : goal.loop-byte-preserved
loop-byte-preserved c =
    (goes_on c.args.digits.now c.loop-byte.value c.loop-byte.byte-index c.loop-byte.invariant.0 _ c.loop-byte-test.true c.in_ok-value.ensures, search rules)

pub returns : goal.returns
returns c = ends c.args.digits.now c.loop-byte.value _ c.loop-byte.invariant.0 c.loop-byte-test.false c.loop-byte.invariant.1
