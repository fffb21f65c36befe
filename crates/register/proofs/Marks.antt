-- Where nobody is marked, not too many are.
use Rattle.std.proofs.Common.{◌≡◌, ℕ, not, false, bit_and, count_ones, leb, subst, sym, ap}
use Rattle.std.specs.Int.Bits.{and_zero_r}
use Rattle.std.proofs.Math.Dec.{leb-zero}
use lib.Count.{ones}

none_few : (faults : ℕ) → not (leb (count_ones 0) faults) ≡ false
unfolding ones
none_few faults = ap not (leb-zero faults)

pub nobody_marked : (faults set : ℕ) → not (leb (count_ones (bit_and set 0)) faults) ≡ false
nobody_marked faults set = subst (λ n. not (leb (count_ones n) faults) ≡ false) (sym (and_zero_r set)) (none_few faults)
