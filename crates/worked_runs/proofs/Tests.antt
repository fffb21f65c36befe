-- A test that holds of each number from one on, as far as it was tried.
use Rattle.std.proofs.Common.{◌≡◌, ℕ, zero, suc, ◌+◌, ◌<◌, ◌≤◌, Bool, true, ◌&&◌, sym, ap, ◌∙◌, ⊎_elim, arith}
use Rattle.std.proofs.Math.Nat.{eq-or-lt_of_le}
use Rattle.std.proofs.lemmas.Bool.{and_parts}

-- the test holds of a and of the numbers behind it, k in all
abbrev pub all_from : (ℕ → Bool) → ℕ → ℕ → Bool
all_from test a zero = true
all_from test a (suc k) = test a && all_from test (suc a) k

pub each : (test : ℕ → Bool) (a k n : ℕ) → all_from test a k ≡ true → a ≤ n → n < a + k → test n ≡ true
each test a zero n holds from to = absurd (omega arith)
each test a (suc k) n holds from to =
    let parts = and_parts (test a) (all_from test (suc a) k) holds in
    ⊎_elim
    (λ same. ap test (sym same) ∙ parts.0)
    (λ above. each test (suc a) k n parts.1 above (omega arith))
    (eq-or-lt_of_le from)
