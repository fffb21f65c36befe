-- A product that stops at the largest number, of a number that stops there too.
use Rattle.std.proofs.Common.{◌≡◌, ℕ, ◌*◌, ◌≤◌, ◌⊎◌, inl, inr, min, zero, suc, arith}
use Rattle.std.proofs.lemmas.Bool.{cases_lt}
use Rattle.drive_c.specs.Tallies.{more}

capped : (n m k : ℕ) → k ≤ m → (k ≡ m) ⊎ (k ≡ 18446744073709551615) → min (n * k) 18446744073709551615 ≡ more 0 (n * m)
capped zero m k le e = omega arith
capped (suc n) m k le (inl same) = rw same (omega arith)
capped (suc n) m k le (inr top) = omega arith

pub more_times : (n m k : ℕ) → k ≡ more 0 m → min (n * k) 18446744073709551615 ≡ more 0 (n * m)
more_times n m k e =
    elim (cases_lt m 18446744073709551616) [
      | inl small ↦ capped n m k (omega arith) (inl (omega arith))
      | inr large ↦ capped n m k (omega arith) (inr (omega arith))
    ]
