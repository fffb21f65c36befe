-- The members of a set by its binary digits: the lowest digit, and the digits of the half.
-- Assumes nothing.
use Rattle.std.proofs.Common.{◌≡◌, ℕ, suc, ◌+◌, ◌/◌, ◌%◌, ◌^◌, ◌<◌, ◌≤◌, min, true, false, eqb, sym, ap, ◌∙◌, ⊎_elim, arith, pow_mono}
use lib.Bits.{bit_and, and_step}
use Rattle.std.proofs.lemmas.Nat.{shr-shr, pow_pos, div_below}
use Rattle.std.proofs.lemmas.Bool.{eqb-true, eqb-false, cases_lt}
use Rattle.wire.specs.Sets.{member}

-- replica 0 is the lowest digit
pub member_zero : (a : ℕ) → member a 0 ≡ eqb (a % 2) 1
unfolding member
member_zero a = let e : a / 1 % 2 ≡ a % 2 = omega arith in ap (λ x. eqb x 1) e

-- replica n + 1 is replica n of the half
pub member_suc : (a n : ℕ) → member a (suc n) ≡ member (a / 2) n
unfolding member
member_suc a n = let e : suc n ≡ 1 + n = omega arith in ap (λ x. eqb (a / 2 ^ x % 2) 1) e ∙ ap (λ x. eqb (x % 2) 1) (sym (shr-shr a 1 n))

pub member_odd : (a : ℕ) → member a 0 ≡ true → a % 2 ≡ 1
member_odd a h = eqb-true (a % 2) 1 (sym (member_zero a) ∙ h)

pub stranger_even : (a : ℕ) → member a 0 ≡ false → a % 2 ≡ 0
stranger_even a h = let k = eqb-false (a % 2) 1 (sym (member_zero a) ∙ h) in omega arith

-- the digits of two sets' common part
pub and_half : (a b : ℕ) → bit_and a b / 2 ≡ bit_and (a / 2) (b / 2)
and_half a b = let k = and_step a b in omega arith

pub and_odd : (a b : ℕ) → bit_and a b % 2 ≡ min (a % 2) (b % 2)
and_odd a b = let k = and_step a b in omega arith

-- a member of a number below 2 ^ k is below k
pub member_below : (k a n : ℕ) → a < 2 ^ k → member a n ≡ true → n < k
unfolding member
member_below k a n h m = ⊎_elim (λ below. below) (λ above. absurd (high (pow_mono above))) (cases_lt n k)
  where
    high : 2 ^ k ≤ 2 ^ n → ⊥
    high p = omega (arith, div_below a (2 ^ n) 1 (pow_pos n) (omega arith), eqb-true (a / 2 ^ n % 2) 1 m)
