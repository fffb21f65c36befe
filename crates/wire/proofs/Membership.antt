-- Who is in a set after a replica is put in. Assumes nothing.
use Rattle.std.proofs.Common.{◌≡◌, ℕ, zero, suc, ◌+◌, ◌-◌, ◌*◌, ◌/◌, ◌%◌, ◌^◌, ◌<◌, Bool, true, false, cond, ◌||◌, eqb, sym, refl, ap, ◌∙◌, subst, ⊎_elim, arith}
use lib.Bits.{bit_or, or_shr, or_mod}
use Rattle.std.proofs.lemmas.Nat.{shl-shr, pow-add, pow_below, pow_pos, div_below}
use Rattle.std.proofs.lemmas.Bool.{cases_order, eq-eqb, ne_eqb}
use Rattle.wire.specs.Sets.{member, inserted, Added}

-- bit m of 2 ^ n
bit_same : (n : ℕ) → 2 ^ n / 2 ^ n % 2 ≡ 1
bit_same n = let h = shl-shr 1 n in let e : 1 * 2 ^ n ≡ 2 ^ n = omega arith in ap (λ x. x / 2 ^ n % 2) (sym e) ∙ ap (λ x. x % 2) h

bit_below : (n m : ℕ) → m < n → 2 ^ n / 2 ^ m % 2 ≡ 0
bit_below n m h =
    let split : n ≡ (n - m - 1 + 1) + m = omega arith in
    let power : 2 ^ n ≡ (2 ^ (n - m - 1) * 2) * 2 ^ m = ap (λ x. 2 ^ x) split ∙ pow-add 2 (n - m - 1 + 1) m ∙ ap (λ x. x * 2 ^ m) (pow-add 2 (n - m - 1) 1) in
    ap (λ x. x / 2 ^ m % 2) power ∙ ap (λ x. x % 2) (shl-shr (2 ^ (n - m - 1) * 2) m) ∙ omega arith

bit_above : (n m : ℕ) → n < m → 2 ^ n / 2 ^ m % 2 ≡ 0
bit_above n m h = omega (arith, div_below (2 ^ n) (2 ^ m) 1 (pow_pos m) (let p = pow_below n m h in omega arith))

bit : (n m : ℕ) → 2 ^ n / 2 ^ m % 2 ≡ cond (eqb m n) 1 0
bit n m = ⊎_elim
    (λ e. subst (λ x. 2 ^ n / 2 ^ x % 2 ≡ cond (eqb x n) 1 0) (sym e) (bit_same n ∙ ap (λ b. cond b 1 0) (sym (eq-eqb n n refl))))
    (⊎_elim
    (λ lt. bit_below n m lt ∙ ap (λ b. cond b 1 0) (sym (ne_eqb m n (λ e. omega (arith, e, lt)))))
    (λ gt. bit_above n m gt ∙ ap (λ b. cond b 1 0) (sym (ne_eqb m n (λ e. omega (arith, e, gt))))))
    (cases_order m n)

-- one bit or another
joined : (b : Bool) (x : ℕ) → x < 2 → eqb (bit_or x (cond b 1 0)) 1 ≡ (b || eqb x 1)
joined true zero h = refl
joined true (suc zero) h = refl
joined true (suc (suc x)) h = absurd (omega arith)
joined false zero h = refl
joined false (suc zero) h = refl
joined false (suc (suc x)) h = absurd (omega arith)

pub inserted_members : (set n : ℕ) → Added set n (inserted set n)
unfolding inserted member
inserted_members set n m =
    ap (λ x. eqb x 1) (ap (λ x. x % 2) (or_shr set (2 ^ n) m) ∙ or_mod (set / 2 ^ m) (2 ^ n / 2 ^ m) 1 ∙ ap (bit_or (set / 2 ^ m % 2)) (bit n m))
    ∙ joined (eqb m n) (set / 2 ^ m % 2) (omega arith)
