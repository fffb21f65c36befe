-- What is left of a 64-bit number behind its last bit.
use Rattle.std.proofs.Common.{◌≡◌, ℕ, ◌<◌, ◌≤◌, ◌/◌, ◌^◌, sym, arith}
use Rattle.std.proofs.Math.Nat.{div-eq_of_lt}
use Rattle.std.proofs.Math.Pow.{pow_mono}

pub nothing_behind : (n k : ℕ) → n < 2 ^ 64 → 64 ≤ k → 0 ≡ n / 2 ^ k
nothing_behind n k small far = let e : 2 ^ 64 ≤ 2 ^ k = pow_mono far in sym (div-eq_of_lt (omega (arith, small, e)))
