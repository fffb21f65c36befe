-- Two quorums of one epoch share an honest replica, and a quorum stays one when epochs are added.
-- By digits: where no unmarked replica is in both a and b, their sizes add up to at most those of the set and of its marked part.
use Rattle.std.proofs.Common.{◌≡◌, ℕ, zero, suc, ◌+◌, ◌/◌, ◌%◌, ◌≤◌, min, true, false, ◌⊎◌, sym, refl, ap, ◌∙◌, inl, inr, ⊎_elim, arith}
use lib.Bits.{bit_and}
use lib.Count.{ones, ones_step}
use Rattle.std.proofs.lemmas.Bool.{cases_Bool}
use Rattle.wire.specs.Sets.{member}
use Rattle.quorums.specs.Quorums.{Within, Views, Sound, Quorum, Extends, Honest, QuorumsMeet}
use Rattle.quorums.proofs.Digits.{member_suc, member_odd, stranger_even, and_half, and_odd}
use Rattle.quorums.proofs.Sizes.{within_half, within_odd, ones_none}

-- a replica that is in a and in b and not in m
record Common (m a b : ℕ) : Type 0 where
  replica : ℕ
  first : member a replica ≡ true
  second : member b replica ≡ true
  unmarked : member m replica ≡ false

-- one of the half, seen in the whole
doubled : {m a b : ℕ} → Common (m / 2) (a / 2) (b / 2) → Common m a b
doubled {m} {a} {b} c = record {
  replica = suc c.replica;
  first = member_suc a c.replica ∙ c.first;
  second = member_suc b c.replica ∙ c.second;
  unmarked = member_suc m c.replica ∙ c.unmarked;
}

-- the lowest digits: replica 0 is common, or the digits add up
lowest : (s m a b : ℕ) → Within a s → Within b s → Common m a b ⊎ (a % 2 + b % 2 ≤ s % 2 + min (s % 2) (m % 2))
lowest s m a b v w = split (cases_Bool (member a 0)) (cases_Bool (member b 0)) (cases_Bool (member m 0))
  where
    p : a % 2 ≤ s % 2
    p = within_odd v

    q : b % 2 ≤ s % 2
    q = within_odd w

    split : (member a 0 ≡ true) ⊎ (member a 0 ≡ false) → (member b 0 ≡ true) ⊎ (member b 0 ≡ false) → (member m 0 ≡ true) ⊎ (member m 0 ≡ false) → Common m a b ⊎ (a % 2 + b % 2 ≤ s % 2 + min (s % 2) (m % 2))
    split (inl x) (inl y) (inr z) = inl (record { replica = 0; first = x; second = y; unmarked = z })
    split (inl x) (inl y) (inl z) = inr (omega (arith, p, q, member_odd m z))
    split (inl x) (inr y) z = inr (omega (arith, p, q, stranger_even b y))
    split (inr x) y z = inr (omega (arith, p, q, stranger_even a x))

-- all digits
common_or_few : (k s m a b : ℕ) → a ≤ k → b ≤ k → Within a s → Within b s → Common m a b ⊎ (ones a + ones b ≤ ones s + ones (bit_and s m))
common_or_few zero s m a b h l v w = inr (omega (arith, ones_none a h, ones_none b l))
common_or_few (suc k) s m a b h l v w =
    ⊎_elim (λ c. inl (doubled c))
    (λ rest. ⊎_elim inl
    (λ low. inr (omega (arith, rest, low, ones_step a, ones_step b, ones_step s, ones_step (bit_and s m), and_odd s m, ap ones (and_half s m))))
    (lowest s m a b v w))
    (common_or_few k (s / 2) (m / 2) (a / 2) (b / 2) (omega arith) (omega arith) (within_half v) (within_half w))

pub quorums_meet : QuorumsMeet
quorums_meet v sound e a b p q = ⊎_elim
    (λ c. record { replica = c.replica; first = c.first; second = c.second; honest = record { unmarked = c.unmarked } })
    (λ few. absurd (omega (arith, few, sound.sized e p.issued, sound.few e p.issued, p.large, q.large)))
    (common_or_few (a + b) (v.set e) v.marked a b (omega arith) (omega arith) p.within q.within)

-- a quorum has an honest member
pub record Trusted (v : Views) (a : ℕ) : Type 0 where
  pub replica : ℕ
  pub inside : member a replica ≡ true
  pub honest : Honest v replica

pub quorum_trusted : {v : Views} {e a : ℕ} → Sound v → Quorum v e a → Trusted v a
quorum_trusted {v} {e} {a} sound q =
    let s = quorums_meet v sound e a a q q in
    record { replica = s.replica; inside = s.first; honest = s.honest }

-- what was so stays so when epochs are added
pub quorum_extends : {v w : Views} {e a : ℕ} → Extends v w → Quorum v e a → Quorum w e a
quorum_extends {v} {w} {e} {a} x q = record {
  issued = omega (arith, x.issued, q.issued);
  within = record { each = λ n m. ap (λ s. member s n) (x.sets e q.issued) ∙ q.within.each n m };
  large = omega (arith, x.faults, q.large);
}

pub honest_extends : {v w : Views} {n : ℕ} → Extends v w → Honest v n → Honest w n
honest_extends {v} {w} {n} x h = record { unmarked = ap (λ s. member s n) x.marked ∙ h.unmarked }

pub honest_before : {v w : Views} {n : ℕ} → Extends v w → Honest w n → Honest v n
honest_before {v} {w} {n} x h = record { unmarked = ap (λ s. member s n) (sym x.marked) ∙ h.unmarked }

pub extends_self : (v : Views) → Extends v v
extends_self v = record { faults = refl; marked = refl; issued = omega arith; sets = λ e h. refl }

pub extends_trans : {u v w : Views} → Extends u v → Extends v w → Extends u w
extends_trans x y = record {
  faults = y.faults ∙ x.faults;
  marked = y.marked ∙ x.marked;
  issued = omega (arith, x.issued, y.issued);
  sets = λ e h. y.sets e (omega (arith, x.issued, h)) ∙ x.sets e h;
}
