-- How many members a set has: a part has no more than the whole, and a new member counts one.
-- Assumes nothing.
use Rattle.std.proofs.Common.{◌≡◌, ℕ, zero, suc, ◌+◌, ◌/◌, ◌%◌, ◌^◌, ◌≤◌, true, false, sym, refl, ap, ◌∙◌, ⊎_elim, arith}
use lib.Bits.{bit_or, or_step, or_zero_r}
use lib.Count.{ones, ones_step}
use Rattle.std.proofs.lemmas.Bool.{cases_Bool}
use Rattle.wire.specs.Sets.{member, inserted}
use Rattle.quorums.specs.Quorums.{Within}
use Rattle.quorums.proofs.Digits.{member_suc, member_odd, stranger_even}

-- the halves of a part and of the whole
pub within_half : {a b : ℕ} → Within a b → Within (a / 2) (b / 2)
within_half {a} {b} w = record { each = λ n m. sym (member_suc b n) ∙ w.each (suc n) (member_suc a n ∙ m) }

-- the lowest digits of a part and of the whole
pub within_odd : {a b : ℕ} → Within a b → a % 2 ≤ b % 2
within_odd {a} {b} w =
    ⊎_elim (λ e. let k = member_odd b (w.each 0 e) in omega arith) (λ e. let k = stranger_even a e in omega arith) (cases_Bool (member a 0))

pub ones_empty : ones 0 ≡ 0
unfolding ones
ones_empty = refl

-- the empty set, as the end of a count by halves has it
pub ones_none : (a : ℕ) → a ≤ 0 → ones a ≡ 0
ones_none a h = let z : a ≡ 0 = omega arith in ap ones z ∙ ones_empty

part_le : (k a b : ℕ) → a ≤ k → Within a b → ones a ≤ ones b
part_le zero a b h w = omega (arith, ones_none a h)
part_le (suc k) a b h w =
    let rest = part_le k (a / 2) (b / 2) (omega arith) (within_half w) in
    omega (arith, ones_step a, ones_step b, within_odd w)

-- a part has no more members than the whole
pub within_ones : {a b : ℕ} → Within a b → ones a ≤ ones b
within_ones {a} {b} w = part_le a a b (omega arith) w

-- the digits of a set with one more member
inserted_half : (s n : ℕ) → inserted s (suc n) / 2 ≡ inserted (s / 2) n
unfolding inserted
inserted_half s n = let e : 2 ^ suc n / 2 ≡ 2 ^ n = omega arith in let k = or_step s (2 ^ suc n) in let l = ap (bit_or (s / 2)) e in omega arith

inserted_odd : (s n : ℕ) → inserted s (suc n) % 2 ≡ s % 2
unfolding inserted
inserted_odd s n = let e : 2 ^ suc n % 2 ≡ 0 = omega arith in let k = or_step s (2 ^ suc n) in omega arith

new_zero : (s : ℕ) → member s 0 ≡ false → inserted s 0 ≡ s + 1
unfolding inserted
new_zero s h = omega (arith, or_step s 1, or_zero_r (s / 2), stranger_even s h)

old_zero : (s : ℕ) → member s 0 ≡ true → inserted s 0 ≡ s
unfolding inserted
old_zero s h = omega (arith, or_step s 1, or_zero_r (s / 2), member_odd s h)

-- a new member counts one
pub ones_inserted : (s n : ℕ) → member s n ≡ false → ones (inserted s n) ≡ ones s + 1
ones_inserted s zero h =
    let e = stranger_even s h in
    let half : (s + 1) / 2 ≡ s / 2 = omega arith in
    ap ones (new_zero s h) ∙ omega (arith, ones_step (s + 1), ones_step s, ap ones half)
ones_inserted s (suc n) h =
    let rest = ones_inserted (s / 2) n (sym (member_suc s n) ∙ h) in
    omega (arith, ones_step (inserted s (suc n)), ones_step s, inserted_odd s n, ap ones (inserted_half s n))

-- a member that is put in again changes nothing
pub inserted_again : (s n : ℕ) → member s n ≡ true → inserted s n ≡ s
inserted_again s zero h = old_zero s h
inserted_again s (suc n) h =
    let rest = inserted_again (s / 2) n (sym (member_suc s n) ∙ h) in
    omega (arith, rest, inserted_half s n, inserted_odd s n)
