-- Numbers with a sign: what fits i64 fits u64 without its sign. Assumes nothing.
use Rattle.std.proofs.Common.{◌≡◌, ℕ, zero, suc, ◌^◌, ◌≤◌, false, eqb, List, get_or, drop, ℤ, pos, neg_ℤ, Some, None, Option, sym, refl, ap, ◌∙◌, ⊎_elim, arith}
use Rattle.std.specs.Option.{option_map}
use Rattle.std.proofs.lemmas.Bool.{eq-eqb, ne_eqb, cond-true, cond-false, lt-ltb, le-ltb, cases_lt}
use Rattle.fields.specs.Numbers.{numeral, kept, fits_u64, fits_i64, number_of, signed_of}

module _ (f : ℕ → ℤ) (large : (n : ℕ) → 2 ^ 64 ≤ n → fits_i64 (f n) ≡ false) where
  fits_first : (o : Option ℕ) → kept fits_i64 (option_map f (kept fits_u64 o)) ≡ kept fits_i64 (option_map f o)
  fits_first None = refl
  fits_first (Some n) =
      ⊎_elim
      (λ lt. ap (λ o. kept fits_i64 (option_map f o)) (cond-true (fits_u64 n) _ _ (lt-ltb n (2 ^ 64) lt)))
      (λ ge. ap (λ o. kept fits_i64 (option_map f o)) (cond-false (fits_u64 n) _ _ (le-ltb n (2 ^ 64) ge)) ∙ sym (cond-false (fits_i64 (f n)) _ _ (large n ge)))
      (cases_lt n (2 ^ 64))

large_minus : (n : ℕ) → 2 ^ 64 ≤ n → fits_i64 (neg_ℤ (pos n)) ≡ false
large_minus zero h = absurd (omega arith)
large_minus (suc n) h = le-ltb n (2 ^ 63) (omega arith)

pub minus : (bs : List ℕ) (o : Option ℕ) → get_or bs 0 0 ≡ 45 → o ≡ number_of (drop 1 bs) → kept fits_i64 (option_map (λ n. neg_ℤ (pos n)) o) ≡ signed_of bs
minus bs o is e =
    ap (λ o. kept fits_i64 (option_map (λ n. neg_ℤ (pos n)) o)) e ∙ fits_first (λ n. neg_ℤ (pos n)) large_minus (numeral (drop 1 bs))
    ∙ sym (ap (kept fits_i64) (cond-true (eqb (get_or bs 0 0) 45) _ _ (eq-eqb _ 45 is)))

pub plain : (bs : List ℕ) (o : Option ℕ) → (get_or bs 0 0 ≡ 45 → ⊥) → o ≡ number_of bs → kept fits_i64 (option_map pos o) ≡ signed_of bs
plain bs o is e =
    ap (λ o. kept fits_i64 (option_map pos o)) e ∙ fits_first pos (λ n h. le-ltb n (2 ^ 63) (omega arith)) (numeral bs)
    ∙ sym (ap (kept fits_i64) (cond-false (eqb (get_or bs 0 0) 45) _ _ (ne_eqb _ 45 is)))
