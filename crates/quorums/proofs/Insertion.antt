-- Who is in the empty set, and in a set with one more replica.
-- Assumes nothing.
use Rattle.std.proofs.Common.{◌≡◌, ℕ, ◌/◌, ◌%◌, ◌^◌, true, false, eqb, ◌⊎◌, sym, refl, ap, ◌∙◌, inl, inr, ⊎_elim, arith}
use Rattle.std.proofs.lemmas.Nat.{pow_pos, div_below}
use Rattle.std.proofs.lemmas.Bool.{both_ways, eqb-true, eq-eqb, or_cases, or_left, or_right}
use Rattle.wire.specs.Sets.{member, inserted}
use Rattle.wire.proofs.Membership.{inserted_members}
use Rattle.quorums.specs.Quorums.{Within}

pub none_in_empty : (n : ℕ) → member 0 n ≡ false
unfolding member
none_in_empty n =
    let p = pow_pos n in
    let k : 0 / 2 ^ n % 2 ≡ 0 = omega (arith, div_below 0 (2 ^ n) 1 p (omega arith)) in
    ap (λ x. eqb x 1) k

pub within_self : (a : ℕ) → Within a a
within_self a = record { each = λ n m. m }

pub within_trans : {a b c : ℕ} → Within a b → Within b c → Within a c
within_trans v w = record { each = λ n m. w.each n (v.each n m) }

pub empty_within : (a : ℕ) → Within 0 a
empty_within a = record { each = λ n m. absurd (both_ways (member 0 n) (none_in_empty n) m) }

-- the new member
pub inserted_member : (s n : ℕ) → member (inserted s n) n ≡ true
inserted_member s n = inserted_members s n n ∙ or_left (eqb n n) (member s n) (eq-eqb n n refl)

-- the old members stay
pub within_inserted : (s n : ℕ) → Within s (inserted s n)
within_inserted s n = record { each = λ m k. inserted_members s n m ∙ or_right (eqb m n) (member s m) k }

-- no others come in
pub inserted_cases : (s n m : ℕ) → member (inserted s n) m ≡ true → (m ≡ n) ⊎ (member s m ≡ true)
inserted_cases s n m h = ⊎_elim (λ e. inl (eqb-true m n e)) inr (or_cases (eqb m n) (member s m) (sym (inserted_members s n m) ∙ h))

pub inserted_within : {s b : ℕ} (n : ℕ) → Within s b → member b n ≡ true → Within (inserted s n) b
inserted_within {s} {b} n w k = record { each = λ m h. ⊎_elim (λ e. ap (member b) e ∙ k) (λ old. w.each m old) (inserted_cases s n m h) }
