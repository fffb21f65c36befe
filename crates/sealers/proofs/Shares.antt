-- No party uses more rows than its share has: at first none does, and one more stays within it. Assumes nothing.
use Rattle.std.proofs.Common.{ℕ, ◌<◌, ◌≤◌, List, length, replicate, get_or, set, subst, sym, ⊎_elim, arith, get_or-set_other, get_or-set_same}
use Rattle.std.proofs.lemmas.Bool.{cases_eq, cases_lt}
use Rattle.std.proofs.lemmas.List.{get_or-replicate, get_or_past, length-replicate}

pub none_used : (share p : ℕ) → get_or (replicate 164 0) p 0 ≤ share
none_used share p = ⊎_elim
    (λ in_table. omega (arith, get_or-replicate {A = ℕ} 164 p 0 0 in_table))
    (λ past. omega (arith, get_or_past {X = ℕ} (replicate 164 0) p 0 (omega (arith, length-replicate {A = ℕ} 164 0))))
    (cases_lt p 164)

pub one_more_used : (used : List ℕ) (share q n : ℕ) → ((p : ℕ) → get_or used p 0 ≤ share) → q < length used → n ≤ share → (p : ℕ) → get_or (set used q n) p 0 ≤ share
one_more_used used share q n within there small p = ⊎_elim
    (λ same. subst (λ k. get_or (set used q n) k 0 ≤ share) (sym same) (omega (arith, get_or-set_same used q n 0 there)))
    (λ other. omega (arith, get_or-set_other used q p n 0 other, within p))
    (cases_eq p q)
