-- Digits are read from the left. Assumes nothing.
use Rattle.std.proofs.Common.{◌≡◌, ℕ, ◌+◌, ◌-◌, ◌*◌, ◌^◌, ◌<◌, ◌≤◌, Bool, true, false, cond, List, [], ◌∷◌, length, get_or, drop, Some, None, Option, sym, refl, ap, ◌∙◌, ⊎_elim, arith}
use Rattle.std.proofs.lemmas.List.{at_drop_more, at_drop_all}
use Rattle.std.proofs.lemmas.Bool.{lt-ltb, le-ltb, cases_lt, cond-true, cond_both, cond_below}
use Rattle.std.proofs.lemmas.Option.{none-some}
use Rattle.fields.specs.Numbers.{is_digit, read_on, kept, fits_u64, digit_more, number_of}

-- a number only grows as it is read on
too_large : (n : ℕ) (cs : List ℕ) → 2 ^ 64 ≤ n → kept fits_u64 (read_on n cs) ≡ None
too_large n [] h = ap (λ b. cond b (Some n) None) (le-ltb n (2 ^ 64) h)
too_large n (c ∷ cs) h = cond_both (is_digit c) _ _ (λ o. kept fits_u64 o ≡ None) (λ _. too_large (n * 10 + (c - 48)) cs (omega arith)) (λ _. refl)

by_digit : (digit fits : Bool) (x v : ℕ) (cs : List ℕ) → Some v ≡ cond digit (cond fits (Some x) None) None → cond digit (read_on x cs) None ≡ read_on v cs
by_digit true true x v cs e = cc
by_digit true false x v cs e = absurd (none-some v (sym e))
by_digit false fits x v cs e = absurd (none-some v (sym e))

-- one more digit is read
read_more : (n c v : ℕ) (cs : List ℕ) → Some v ≡ digit_more n c → read_on n (c ∷ cs) ≡ read_on v cs
read_more n c v cs e = by_digit (is_digit c) (fits_u64 (n * 10 + (c - 48))) _ v cs e

-- the next byte is no digit, or the number is too large
read_none : (n c : ℕ) (cs : List ℕ) → None ≡ digit_more n c → kept fits_u64 (read_on n (c ∷ cs)) ≡ None
read_none n c cs e =
    let x = n * 10 + (c - 48) in
    cond_both (is_digit c) _ _ (λ o. kept fits_u64 o ≡ None)
    (λ digit. ⊎_elim (λ fits. absurd (none-some x (e ∙ cond-true (is_digit c) _ _ digit ∙ cond-true (fits_u64 x) _ _ (lt-ltb x (2 ^ 64) fits)))) (too_large x cs) (cases_lt x (2 ^ 64)))
    (λ _. refl)

-- bs is read up to i, and n is the number so far
module _ (bs : List ℕ) (n i : ℕ) (so_far : read_on 0 bs ≡ read_on n (drop i bs)) where
  pub goes_on : (v : ℕ) → i < length bs → Some v ≡ digit_more n (get_or bs i 0) → read_on 0 bs ≡ read_on v (drop (i + 1) bs)
  goes_on v h e = so_far ∙ at_drop_more (read_on n) bs i 0 h ∙ read_more n (get_or bs i 0) v (drop (i + 1) bs) e

  pub stops : i < length bs → None ≡ digit_more n (get_or bs i 0) → None ≡ kept fits_u64 (read_on 0 bs)
  stops h e = sym (ap (kept fits_u64) (so_far ∙ at_drop_more (read_on n) bs i 0 h) ∙ read_none n (get_or bs i 0) (drop (i + 1) bs) e)

  pub ends : length bs ≤ i → n < 2 ^ 64 → Some n ≡ kept fits_u64 (read_on 0 bs)
  ends h fits = cond_below n (2 ^ 64) _ _ fits ∙ sym (ap (kept fits_u64) (so_far ∙ at_drop_all (read_on n) bs i h))

pub no_digit : (bs : List ℕ) → length bs ≡ 0 → None ≡ number_of bs
no_digit [] e = refl
no_digit (c ∷ cs) e = absurd (omega arith)

pub some_digits : (bs : List ℕ) (r : Option ℕ) → (length bs ≡ 0 → ⊥) → r ≡ kept fits_u64 (read_on 0 bs) → r ≡ number_of bs
some_digits [] r some e = absurd (some refl)
some_digits (c ∷ cs) r some e = e
