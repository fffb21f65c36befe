-- The order of stamps is that of numbers, where writers are below 256.
use Rattle.std.proofs.Common.{◌≡◌, ◌<◌, ◌≤◌, true, false, arith}
use Rattle.std.proofs.lemmas.Bool.Decides.{nat_tests}
use Rattle.wire.specs.declared.pair.Pair.{Pair}
use Rattle.wire.specs.Stamps.{above}
use Rattle.clients.specs.Lines.{same_stamp}
use Rattle.model.proofs.Invariants.{stamp_number}

pub above_higher : (p q : Pair) → p.stamp.writer < 256 → q.stamp.writer < 256 → above p.stamp q.stamp ≡ true → stamp_number q < stamp_number p
above_higher p q pw qw a = grind (arith, nat_tests)

pub not_above : (p q : Pair) → p.stamp.writer < 256 → q.stamp.writer < 256 → above p.stamp q.stamp ≡ false → stamp_number p ≤ stamp_number q
not_above p q pw qw a = grind (arith, nat_tests)

pub same_number : (p q : Pair) → same_stamp p.stamp q.stamp ≡ true → stamp_number p ≡ stamp_number q
same_number p q s = grind (arith, nat_tests)
