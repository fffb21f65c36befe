use Rattle.std.proofs.Common.{◌≡◌, ◌^◌, ◌<◌, drop}
use Rattle.fields.specs.Numbers.{read_on}
use Rattle.fields.proofs.numeral.digits_read.Given as goal

-- what is left is read on from the value so far
abbrev pub invariant-loop-byte : goal.invariant-loop-byte
invariant-loop-byte l = (read_on 0 l.digits ≡ read_on l.value (drop l.byte-index l.digits)) × (l.value < 2 ^ 64)
